use Rattle.std.proofs.Common.{◌∙◌, refl, sym, arith}
use Rattle.cond_flow.specs.FactLists.{decoded_each}
use Rattle.cond_flow.proofs.Joins.{join_all, join_none, join_part, join_tells}
use Rattle.cond_flow.proofs.FactLaws.{length_facts}
use Rattle.cond_flow.proofs.RaisingLaws.{keeps_none, keeps_then}
use Rattle.cond_flow.proofs.code_joins.join_noted.Goals as goal

pub loop-start-init : goal.loop-start-init
loop-start-init g c = record {
  within = omega arith;
  long = refl;
  numbers_long = refl;
  joined = join_none g.K.Knowledge.rules.joined g.K.Knowledge.rules.top _ _ 0;
  keeps = keeps_none g.K.Knowledge.rules _ _;
}

pub loop-start-preserved : goal.loop-start-preserved
loop-start-preserved g c =
    let r = g.K.Knowledge.rules in
    let d = g.K.Coded.decoded in
    let inv = c.loop-start.invariant in
    record {
      within = omega (arith, c.stop_of-stop.ensures.within, inv.long);
      long = c.join_part-changed.ensures.long ∙ inv.long;
      numbers_long = c.join_part-changed.ensures.numbers_long ∙ inv.numbers_long;
      joined = join_part r.joined r.top _ _ _ _ c.loop-start.changed c.join_part-changed.result 0 c.loop-start.start c.stop_of-stop.result inv.joined c.join_part-changed.ensures.joined (omega arith) (omega (arith, c.stop_of-stop.ensures.later));
      keeps = keeps_then r c.args.news.now c.loop-start.news c.join_part-changed.new.news (decoded_each d c.args.kinds.now c.args.numbers.now) (decoded_each d c.loop-start.kinds c.loop-start.numbers) _ inv.keeps c.join_part-changed.ensures.keeps;
    }

pub returns-clause-joined : goal.returns-clause-joined
returns-clause-joined g c =
    let r = g.K.Knowledge.rules in
    let d = g.K.Coded.decoded in
    let inv = c.loop-start.invariant in
    let xs = length_facts d c.args.kinds.now c.args.numbers.now c.requires.long in
    let ys = length_facts d c.args.other_kinds.now c.args.other_numbers.now (c.requires.other_long ∙ sym c.requires.other) in
    join_all r.joined r.top (decoded_each d c.args.kinds.now c.args.numbers.now) (decoded_each d c.args.other_kinds.now c.args.other_numbers.now) _ c.loop-start.changed c.loop-start.start inv.joined
    (omega (arith, c.loop-start-test.false, inv.long, xs)) (omega (arith, xs, ys, c.requires.other))

pub returns-clause-unchanged : goal.returns-clause-unchanged
returns-clause-unchanged g c =
    let r = g.K.Knowledge.rules in
    join_tells r.joined r.top _ _ _ c.loop-start.changed c.loop-start.start c.loop-start.invariant.joined
