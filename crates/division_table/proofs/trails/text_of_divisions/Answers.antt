use Rattle.std.proofs.Common.{List, codes, length, subst, sym}
use Rattle.std.specs.Prelude.{All}
use Rattle.mir_base.specs.Shapes.{UnitShape}
use Rattle.mir_opt.specs.declared.trails.MoveUnit.{MoveUnit}
use Rattle.table_text.specs.Lines.{names_of_units}
use Rattle.table_text.specs.Turns.{IsTableText}
use Rattle.division_table.specs.Trails.{IsDividedAt}
use Rattle.division_table.specs.Rows.{IsUnitDivision}
use Rattle.division_table.proofs.TrailLaws.{units_divided}
use Rattle.division_table.proofs.trails.text_of_divisions.Goals as goal

pub text_in_turn-requires : goal.text_in_turn-requires
text_in_turn-requires c =
    let trail = c.args.trail.now in
    subst (All IsUnitDivision) (sym c.items-units.ensures) (units_divided trail.source.units trail.units c.requires.steps)

-- the units are those of the trail, among those of its program
pub returns : goal.returns
returns c =
    let trail = c.args.trail.now in
    let units = c.items-units.result.now in
    let line = codes "tables 1 divisions\n" in
    let text = c.in_ok-text.text.items in
    let named = subst (λ (l : List UnitShape). IsTableText line (IsDividedAt (names_of_units l) units) (length units) text) c.units_of-sources.ensures c.in_ok-text.ensures in
    subst (λ (l : List MoveUnit). IsTableText line (IsDividedAt (names_of_units trail.source.units) l) (length l) text) c.items-units.ensures named
