use Rattle.std.proofs.Common.{◌≡◌, ◌∙◌, length, ap, arith}
use Rattle.flow_graph.specs.LoweringLaws.{fits_lower}
use Rattle.unit_join.specs.JoinProgramLaws.{each_leaf, leaves_more}
use Rattle.unit_join.proofs.leaves.all_leaves.Goals as goal

pub leaf_of-requires : goal.leaf_of-requires
leaf_of-requires c = fits_lower c.args.program.now.units c.args.program.now.globals c.unit.result.now c.unit.ensures.fits c.unit.ensures.shares

pub loop-number-preserved : goal.loop-number-preserved
loop-number-preserved c =
    let leaves = c.loop-number.units.items in
    let more = c.push.new.self.items in
    let entry = c.in_ok-leaf_of.field-0 in
    record {
      long = leaves_more leaves more c.loop-number.number entry c.loop-number.invariant.long c.in_ok-push.ensures.items;
      are = each_leaf c.args.program.now.units leaves more c.loop-number.number c.unit.result.now entry c.loop-number.invariant.long c.loop-number.invariant.are c.unit.ensures.unit c.in_ok-leaf_of.ensures c.in_ok-push.ensures.items;
    }

pub returns : goal.returns
returns c =
    let same : c.items-number-end.result.now ≡ c.args.program.now.units = c.items-number-end.ensures ∙ ap (λ p. p.units) c.program.view_is in
    let long : length c.items-number-end.result.now ≡ length c.args.program.now.units = ap (λ l. length l) same in
    record { long = omega (arith, long, c.loop-number.invariant.long, c.loop-number-test.false, c.loop-number.auto.number-end); are = c.loop-number.invariant.are }
