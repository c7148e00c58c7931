use Rattle.std.proofs.Common.{subst}
use Rattle.std.specs.Prelude.{All}
use Rattle.std.proofs.lemmas.List.{take_all}
use Rattle.std.proofs.lemmas.List.Elements.{All-more}
use Rattle.mir_top.specs.RangeTexts.{UnitHoldsLeast}
use Rattle.mir_top.proofs.ranges.hold_each.Goals as goal

pub loop-unit-preserved : goal.loop-unit-preserved
loop-unit-preserved g c =
    let Least = UnitHoldsLeast (g.R.DownRule.is_down c.args.rule.now) in
    All-more Least c.args.units.now c.loop-unit.unit-index c.unit-item.result c.loop-unit-test.true c.loop-unit.invariant (subst Least c.unit-item.is c.hold_unit.ensures)

pub returns : goal.returns
returns g c =
    subst (All (UnitHoldsLeast (g.R.DownRule.is_down c.args.rule.now))) (take_all c.loop-unit.unit-index c.args.units.now c.loop-unit-test.false) c.loop-unit.invariant
