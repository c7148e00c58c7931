-- The text of the tables of a trail of the motion of divisions. Cited by contracts, those of the crates above too.
use Rattle.std.specs.Prelude.{◌≡◌, ℕ, List, All, codes, length, slice_get, Some}
use Rattle.mir_opt.specs.declared.trails.MoveTrail.{MoveTrail}
use Rattle.mir_opt.specs.declared.trails.MoveUnit.{MoveUnit}
use Rattle.table_text.specs.Lines.{names_of_units}
use Rattle.table_text.specs.Turns.{IsTableText}
use Rattle.division_table.specs.Rows.{IsUnitDivision}
use Rattle.division_table.specs.Units.{IsDividedText}

-- what a linked trail says of the motion of the divisions of each of these units
abbrev pub AreDivisionUnits : List MoveUnit → Type 0
AreDivisionUnits units = All IsUnitDivision units

-- the text is that of the unit of this number, among units of these names
pub record IsDividedAt (names : List (List ℕ)) (units : List MoveUnit) (number : ℕ)
    (text : List ℕ) : Type 0 where
  pub unit : MoveUnit
  pub stands : slice_get units number ≡ Some unit
  pub is : IsDividedText names unit text

-- the text is that of each unit of the trail in turn
abbrev pub ShowsDivisions : MoveTrail → List ℕ → Type 0
ShowsDivisions trail text =
    IsTableText (codes "tables 1 divisions\n")
    (IsDividedAt (names_of_units trail.source.units) trail.units)
    (length trail.units) text
