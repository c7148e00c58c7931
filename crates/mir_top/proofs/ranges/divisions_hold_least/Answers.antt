use Rattle.std.proofs.Common.{subst, sym}
use Rattle.std.specs.Prelude.{All}
use Rattle.div_move.specs.MustCome.{MustComeTo}
use Rattle.mir_top.specs.RangeTexts.{UnitHoldsLeast, IsLazilyPlaced}
use Rattle.mir_top.proofs.RangeLaws.{divisions_placed}
use Rattle.mir_top.proofs.ranges.divisions_hold_least.Goals as goal

pub hold_each-requires : goal.hold_each-requires
hold_each-requires c =
    let trail = c.args.trail.now in
    subst (All (IsLazilyPlaced MustComeTo)) (sym c.items.ensures) (divisions_placed trail.source.units trail.units c.requires.steps)

pub returns : goal.returns
returns c = subst (All (UnitHoldsLeast MustComeTo)) c.items.ensures c.hold_each.ensures
