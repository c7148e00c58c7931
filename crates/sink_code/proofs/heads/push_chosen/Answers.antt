use Rattle.std.proofs.Common.{◌+◌, ◌++◌, ◌∷◌, [], List, drop, ap, sym, ◌∙◌, arith, append-nil, append_assoc}
use Rattle.sink_code.specs.declared.inserting.PutBefore.{PutBefore}
use Rattle.sink_code.specs.Puts.{chosen, puts_at}
use Rattle.sink_code.proofs.Chosen.{chosen_end, chosen_step}
use Rattle.sink_code.proofs.heads.push_chosen.Goals as goal

pub loop-from-preserved : goal.loop-from-preserved
loop-from-preserved c =
    let row = c.args.row.now in
    let table = c.args.table.now in
    let node = c.args.node in
    let found = c.in-Some.ensures.found in
    let k = c.in-Some.number in
    let step = chosen_step c.loop-from.from k table row c.get.result.now c.requires found.0 found.1 c.in-Some.ensures.first found.2 c.get.ensures in
    let rest = puts_at node (chosen (drop (k + 1) table) (drop (k + 1) row)) in
    record {
      within = omega (arith, found.1);
      all = ap (λ (l : List PutBefore). l ++ rest) c.in_ok-push-in-Some.ensures.items
          ∙ append_assoc c.loop-from.puts.items (c.put_of.result ∷ []) rest
          ∙ ap (λ (put : PutBefore). c.loop-from.puts.items ++ (put ∷ rest)) c.put_of.ensures
          ∙ sym (ap (λ l. c.loop-from.puts.items ++ puts_at node l) step)
          ∙ c.loop-from.invariant.all;
    }

pub returns-in-None : goal.returns-in-None
returns-in-None c =
    let none = chosen_end c.loop-from.from c.args.table.now c.args.row.now c.requires c.loop-from.invariant.within c.in-None.ensures.none in
    sym (append-nil c.loop-from.puts.items)
    ∙ ap (λ l. c.loop-from.puts.items ++ puts_at c.args.node l) (sym none)
    ∙ c.loop-from.invariant.all

pub returns : goal.returns
returns c =
    let none = chosen_end c.loop-from.from c.args.table.now c.args.row.now c.requires c.loop-from.invariant.within (λ j low high. absurd (omega (arith, low, high, c.loop-from-test.false, c.len.ensures))) in
    sym (append-nil c.loop-from.puts.items)
    ∙ ap (λ l. c.loop-from.puts.items ++ puts_at c.args.node l) (sym none)
    ∙ c.loop-from.invariant.all
