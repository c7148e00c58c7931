-- Texts and the programs that are read from them. Cited by contracts.
use Rattle.std.specs.Prelude.{ℕ, ◌≤◌, List, length}
use Rattle.std.specs.List.{All}
use Rattle.mir_base.specs.Limits.{most_units, most_globals, most_insts, most_receives}
use Rattle.mir_base.specs.Shapes.{ProgramShape, receives_in}
use Rattle.mir_parse.specs.declared.raw.Raw.{Raw}
use Rattle.mir_parse.specs.Spells.{Spells}
use Rattle.mir_base.specs.Text.{canonical_text}
use Rattle.mir_valid.specs.Stands.{StandsFor}
use Rattle.mir_valid.specs.Texts.{IsTextOfOnly}

-- the text spells a raw program that stands for this program
pub record SpellsFor (text : List ℕ) (program : ProgramShape) : Type 0 where
  pub raw : Raw
  pub spelled : Spells text raw
  pub stands : StandsFor raw program

-- the limits on a program that is read, but for those on names and constants, which the types of a program keep
pub record KeepsLimits (program : ProgramShape) : Type 0 where
  pub units : length program.units ≤ most_units
  pub globals : length program.globals ≤ most_globals
  pub insts : All (λ unit. length unit.body ≤ most_insts) program.units
  pub receives : All (λ unit. receives_in unit.body ≤ most_receives) program.units

-- the canonical text of the program is a text of this program, and of no other
abbrev pub IsReadBack : ProgramShape → Type 0
IsReadBack program = IsTextOfOnly (canonical_text program) program
