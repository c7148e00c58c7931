-- Texts and the programs that they are of. Cited by contracts of the crates above.
use Rattle.std.specs.Prelude.{ℕ, ◌≡◌, List}
use Rattle.mir_base.specs.Shapes.{ProgramShape}
use Rattle.mir_parse.specs.declared.raw.Raw.{Raw}
use Rattle.mir_parse.specs.Spells.{Spells}
use Rattle.mir_valid.specs.Refusals.{IsValid}
use Rattle.mir_valid.specs.Stands.{StandsFor}

-- the text spells a raw program that is valid and stands for this program
pub record IsTextOf (text : List ℕ) (program : ProgramShape) : Type 0 where
  pub raw : Raw
  pub spelled : Spells text raw
  pub valid : IsValid raw
  pub stands : StandsFor raw program

-- and no other program
pub record IsTextOfOnly (text : List ℕ) (program : ProgramShape) : Type 0 where
  pub is : IsTextOf text program
  pub only : (other : ProgramShape) → IsTextOf text other → other ≡ program
