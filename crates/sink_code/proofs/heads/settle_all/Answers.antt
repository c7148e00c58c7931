use Rattle.std.proofs.Common.{◌∙◌, sym, arith, true≢false}
use Rattle.sink_code.proofs.SettledHeads.{head_done, head_next, on_within, settled_shape}
use Rattle.sink_code.proofs.heads.settle_all.Goals as goal

pub loop-from-init : goal.loop-from-init
loop-from-init c = record { within = omega arith; shape = c.requires.leaves; done = λ into rows begun comes was. was }

pub settle-requires-clause-number : goal.settle-requires-clause-number
settle-requires-clause-number c = let inside = c.in-Some.ensures.found.1 in let long = c.requires.row in omega (arith, inside, long)

pub loop-from-preserved : goal.loop-from-preserved
loop-from-preserved c =
    let over = c.args.over.now in
    let found = c.in-Some.ensures.found in
    let number = c.in-Some.number in
    let inv = c.loop-from.invariant in
    let settled = c.in_ok-settle-in-Some.ensures in
    record {
      within = omega (arith, found.1);
      shape = settled_shape over c.args.block number c.loop-from.leaves c.settle.new.leaves c.loop-from.puts.items c.settle.new.puts.items inv.shape settled;
      done = λ into rows begun comes was.
          head_next over into c.args.row.now rows c.loop-from.leaves begun c.loop-from.puts.items c.args.block c.loop-from.from number c.settle.new.leaves c.settle.new.puts.items found.0
          (λ j low high. c.in-Some.ensures.first j low high) (comes number found.2) settled (inv.done into rows begun comes was);
    }

pub returns-in-None : goal.returns-in-None
returns-in-None c = λ into rows begun comes was.
    head_done c.args.over.now into c.args.row.now rows c.loop-from.leaves begun c.loop-from.puts.items c.args.block c.loop-from.from
    (λ j low on. true≢false (sym on ∙ c.in-None.ensures.none j low (on_within c.args.row.now j on))) (c.loop-from.invariant.done into rows begun comes was)

pub returns : goal.returns
returns c = λ into rows begun comes was.
    head_done c.args.over.now into c.args.row.now rows c.loop-from.leaves begun c.loop-from.puts.items c.args.block c.loop-from.from
    (λ j low on. let inside = on_within c.args.row.now j on in absurd (omega (arith, low, inside, c.loop-from-test.false, c.len.ensures))) (c.loop-from.invariant.done into rows begun comes was)
