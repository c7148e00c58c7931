use Rattle.std.proofs.Common.{◌++◌, ◌∙◌, ap, subst, sym, List, ℕ}
use Rattle.mir_opt.specs.declared.trails.MoveUnit.{MoveUnit}
use Rattle.motion_rewrite.specs.Placements.{IsAnticipatable}
use Rattle.std.specs.Prelude.{All}
use Rattle.mir_top.specs.RangeTexts.{IsLazilyPlaced, ShowsRanges}
use Rattle.mir_top.proofs.RangeLaws.{moves_placed}
use Rattle.mir_top.proofs.ranges.text_of_ranges.Goals as goal

pub put_units-requires : goal.put_units-requires
put_units-requires c =
    let trail = c.args.trail.now in
    subst (All (IsLazilyPlaced IsAnticipatable)) (sym c.items.ensures) (moves_placed trail.source.units trail.units c.requires.steps)

-- the texts of the units are put into a text that is empty
pub returns : goal.returns
returns c =
    let put = c.in_ok-put_units.ensures in
    let is = put.2 ∙ ap (λ (l : List ℕ). l ++ put.0) c.new-text.ensures.items in
    subst (λ (units : List MoveUnit). ShowsRanges units c.put_units.new.text.items) c.items.ensures (subst (ShowsRanges c.items.result.now) (sym is) put.1)
