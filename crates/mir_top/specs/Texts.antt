-- Texts, and why they are refused. Cited by contracts.
use Rattle.std.specs.Prelude.{ℕ, ◌≡◌, ◌≤◌, List, length, Some}
use Rattle.mir_base.specs.Limits.{most_bytes}
use Rattle.mir_parse.specs.declared.raw.Raw.{Raw}
use Rattle.mir_base.specs.Shapes.{ProgramShape}
use Rattle.mir_base.specs.Text.{canonical_text}
use Rattle.mir_parse.specs.declared.faults.TextFault.{TextFault}
use Rattle.mir_parse.specs.Spells.{Spells, IsTextRefusal}
use Rattle.mir_valid.specs.declared.faults.ValidFault.{ValidFault}
use Rattle.mir_valid.specs.Refusals.{IsValid, IsValidMemory, refusal}
use Rattle.mir_valid.specs.Stands.{StandsFor}
use Rattle.mir_valid.specs.Texts.{IsTextOf}
use Rattle.mir_print.specs.Texts.{KeepsLimits, SpellsFor}

-- the text is that of this program, and within the limit
pub record IsShortTextOf (text : List ℕ) (program : ProgramShape) : Type 0 where
  pub short : length text ≤ most_bytes
  pub parsed : IsTextOf text program

-- The text is the canonical one of the program, so it spells a raw program that stands for this. Where the program keeps
-- the limits on a program that is read, and the text that on its length, it is read as this program, and as no other
pub record IsWritten (program : ProgramShape) (text : List ℕ) : Type 0 where
  pub is : text ≡ canonical_text program
  pub spells : SpellsFor text program
  pub read_back : KeepsLimits program → length text ≤ most_bytes → IsShortTextOf text program
  pub only : KeepsLimits program → (other : ProgramShape) → IsTextOf text other → other ≡ program

-- the text spells a raw program that is not valid, for this cause
pub record IsInvalid (text : List ℕ) (fault : ValidFault) : Type 0 where
  pub raw : Raw
  pub spelled : Spells text raw
  pub refused : refusal raw ≡ Some fault

-- each text spells one raw program at most or is refused for one fault at most, never both; a valid
-- raw program is refused for nothing, and stands for one program
pub record OneReading : Type 0 where
  pub raw_one : (text : List ℕ) (one other : Raw)
      → Spells text one → Spells text other → one ≡ other
  pub fault_one : (text : List ℕ) (one other : TextFault)
      → IsTextRefusal text one → IsTextRefusal text other → one ≡ other
  pub fault_none : (text : List ℕ) (fault : TextFault)
      → IsTextRefusal text fault → (raw : Raw) → Spells text raw → ⊥
  pub valid_none : (raw : Raw) (fault : ValidFault) → refusal raw ≡ Some fault → IsValid raw → ⊥
  pub no_memory_none : (raw : Raw) (fault : ValidFault)
      → refusal raw ≡ Some fault → IsValidMemory fault → ⊥
  pub program_one : (raw : Raw) → IsValid raw → (one other : ProgramShape)
      → StandsFor raw one → StandsFor raw other → one ≡ other
