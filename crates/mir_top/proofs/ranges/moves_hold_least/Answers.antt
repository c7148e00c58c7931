use Rattle.std.proofs.Common.{subst, sym}
use Rattle.std.specs.Prelude.{All}
use Rattle.motion_rewrite.specs.Placements.{IsAnticipatable}
use Rattle.mir_top.specs.RangeTexts.{UnitHoldsLeast, IsLazilyPlaced}
use Rattle.mir_top.proofs.RangeLaws.{moves_placed}
use Rattle.mir_top.proofs.ranges.moves_hold_least.Goals as goal

pub hold_each-requires : goal.hold_each-requires
hold_each-requires c =
    let trail = c.args.trail.now in
    subst (All (IsLazilyPlaced IsAnticipatable)) (sym c.items.ensures) (moves_placed trail.source.units trail.units c.requires.steps)

pub returns : goal.returns
returns c = subst (All (UnitHoldsLeast IsAnticipatable)) c.items.ensures c.hold_each.ensures
