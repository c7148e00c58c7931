use Rattle.std.proofs.Common.{◌∙◌, ◌+◌, ◌<◌, ◌||◌, length, get_or, pos, refl, sym, ap, subst, arith}
use Rattle.cond_flow.specs.FactLists.{decoded_each}
use Rattle.cond_flow.proofs.Joins.{join_all, join_none, join_step, join_tells}
use Rattle.cond_flow.specs.Joining.{JoinedBetween}
use Rattle.cond_flow.proofs.FactLaws.{facts_at, length_facts}
use Rattle.cond_flow.proofs.code_joins.join_lists.Goals as goal

pub loop-i-init : goal.loop-i-init
loop-i-init g c = record {
  long = refl;
  numbers_long = refl;
  joined = join_none g.K.Knowledge.rules.joined g.K.Knowledge.rules.top _ _ 0;
}

pub loop-i-preserved : goal.loop-i-preserved
loop-i-preserved g c =
    let r = g.K.Knowledge.rules in
    let d = g.K.Coded.decoded in
    let ks = c.args.kinds.now in
    let ns = c.args.numbers.now in
    let i = c.loop-i.i in
    let lt : i < length ks = omega (arith, c.loop-i-test.true) in
    let other_long = c.requires.other_long ∙ sym c.requires.other in
    let xs = length_facts d ks ns c.requires.long in
    let ys = length_facts d c.args.other_kinds.now c.args.other_numbers.now other_long in
    let other = d (get_or c.args.other_kinds.now i 0) (get_or c.args.other_numbers.now i (pos 0)) in
    let there = facts_at d c.args.other_kinds.now c.args.other_numbers.now i 0 (pos 0) other other_long (omega (arith, lt, c.requires.other)) in
    record {
      long = c.join_at-changed.ensures.long ∙ c.loop-i.invariant.long;
      numbers_long = c.join_at-changed.ensures.numbers_long ∙ c.loop-i.invariant.numbers_long;
      joined = subst (λ z. JoinedBetween r.joined r.top (decoded_each d ks ns) (decoded_each d c.args.other_kinds.now c.args.other_numbers.now) z (c.loop-i.changed || c.join_at-changed.result) 0 (i + 1)) (sym c.join_at-changed.ensures.joined)
          (join_step r.joined r.top (decoded_each d ks ns) (decoded_each d c.args.other_kinds.now c.args.other_numbers.now) (decoded_each d c.loop-i.kinds c.loop-i.numbers) c.loop-i.changed 0 i _ c.join_at-changed.result other c.loop-i.invariant.joined (omega arith)
          (omega (arith, lt, xs)) (omega (arith, xs, ys, c.requires.other))
          (ap (r.joined (get_or (decoded_each d c.loop-i.kinds c.loop-i.numbers) i other)) (sym there)) c.join_at-changed.ensures.unchanged);
    }

pub returns-clause-joined : goal.returns-clause-joined
returns-clause-joined g c =
    let r = g.K.Knowledge.rules in
    let d = g.K.Coded.decoded in
    let xs = length_facts d c.args.kinds.now c.args.numbers.now c.requires.long in
    let ys = length_facts d c.args.other_kinds.now c.args.other_numbers.now (c.requires.other_long ∙ sym c.requires.other) in
    join_all r.joined r.top (decoded_each d c.args.kinds.now c.args.numbers.now) (decoded_each d c.args.other_kinds.now c.args.other_numbers.now) _ c.loop-i.changed c.loop-i.i c.loop-i.invariant.joined
    (omega (arith, c.loop-i-test.false, c.loop-i.auto.i-end, c.loop-i.invariant.long, xs)) (omega (arith, xs, ys, c.requires.other))

pub returns-clause-unchanged : goal.returns-clause-unchanged
returns-clause-unchanged g c =
    let r = g.K.Knowledge.rules in
    join_tells r.joined r.top _ _ _ c.loop-i.changed c.loop-i.i c.loop-i.invariant.joined
