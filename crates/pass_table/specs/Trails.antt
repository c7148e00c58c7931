-- The text of the tables of a trail. Cited by contracts, those of the crates above too.
use Rattle.std.specs.Prelude.{◌≡◌, ℕ, List, ◌++◌, All, codes, length, slice_get, Some}
use Rattle.mir_opt.specs.declared.trails.Trail.{Trail}
use Rattle.mir_opt.specs.declared.trails.UnitTrail.{UnitTrail}
use Rattle.pass_table.specs.Units.{IsUnitLinked, IsUnitText}
use Rattle.table_text.specs.Lines.{names_of_units}
use Rattle.table_text.specs.Turns.{InTurn}

-- what a linked trail says of the steps of each of these units
abbrev pub AreLinkedUnits : List UnitTrail → Type 0
AreLinkedUnits units = All IsUnitLinked units

-- the text is that of the unit of this number, among units of these names
pub record IsUnitAt (names : List (List ℕ)) (units : List UnitTrail) (number : ℕ)
    (text : List ℕ) : Type 0 where
  pub unit : UnitTrail
  pub stands : slice_get units number ≡ Some unit
  pub is : IsUnitText names unit text

-- the text is that of each unit of the trail in turn
pub record ShowsTables (trail : Trail) (text : List ℕ) : Type 0 where
  pub units : List ℕ
  pub are : InTurn (IsUnitAt (names_of_units trail.source.units) trail.units)
      (length trail.units) units
  pub text_is : text ≡ codes "tables 1\n" ++ units
