use Rattle.std.proofs.Common.{subst}
use Rattle.mir_opt.specs.Made.{IsLaidOut}
use Rattle.mir_opt.proofs.Zips.{next_zip_at}
use Rattle.mir_opt.proofs.over_units.layouts.Goals as goal

pub loop-unit-preserved : goal.loop-unit-preserved
loop-unit-preserved g c =
    let unit = c.unit-item.result in
    let target = c.in_ok-layout.field-0 in
    let laid : IsLaidOut c.graph_of.result.now target = record { layout = c.in_ok-layout.ensures.layout; keeps = c.in_ok-layout.ensures.keeps; divides = c.in_ok-layout.ensures.divides; lowers = c.in_ok-layout.ensures.lowers } in
    next_zip_at (λ unit target. IsLaidOut (g.T.UnitSteps.graph_at unit c.args.stage.now) target) c.args.units.now c.loop-unit.targets.items c.push.new.self.items c.loop-unit.unit-index unit target
    c.loop-unit.invariant c.loop-unit-test.true c.unit-item.is (subst (λ graph. IsLaidOut graph target) c.graph_of.ensures laid) c.in_ok-push.ensures.items
