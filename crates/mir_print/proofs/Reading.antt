-- The canonical text of a program is read as that program.
use Rattle.std.proofs.Common.{◌≡◌, ℕ, List, map, sym, subst}
use Rattle.mir_base.specs.ItemLaws.{all_at}
use Rattle.mir_base.specs.Names.{IsName}
use Rattle.mir_base.specs.Shapes.{UnitShape, ProgramShape}
use Rattle.mir_base.specs.Text.{canonical_text}
use Rattle.mir_parse.specs.declared.raw.Raw.{Raw}
use Rattle.mir_parse.specs.Spells.{Spells}
use Rattle.mir_valid.specs.Refusals.{IsValid}
use Rattle.mir_valid.specs.Stands.{StandsFor}
use Rattle.mir_print.specs.WellTyped.{UnitWellTyped, ProgramWellTyped}
use Rattle.mir_valid.specs.Texts.{IsTextOfOnly}
use Rattle.mir_print.specs.Texts.{SpellsFor, KeepsLimits}
use Rattle.mir_print.proofs.Derived.{first_line, raw_of, text_spells}
use Rattle.mir_print.proofs.Known.{unit_spelled}
use Rattle.mir_print.proofs.Standing.{names_of_raw, names_of_globals, raw_units_stand}
use Rattle.mir_print.proofs.Validity.{are_valid}

-- each unit of the program is spelled, so the text spells the raw program
raw_spelled : (program : ProgramShape) → ProgramWellTyped program → Spells (canonical_text program) (raw_of program)
raw_spelled program well_typed = text_spells program (λ i name at. all_at IsName program.globals i name well_typed.globals at) (λ i unit at. unit_spelled program.units unit well_typed.units (well_typed.fits.bodies i unit at) (all_at UnitWellTyped program.units i unit well_typed.units at))

-- each unit of the program stands under its raw unit, and the names are found
raw_stands : (program : ProgramShape) → ProgramWellTyped program → StandsFor (raw_of program) program
raw_stands program well_typed =
    let units = program.units in
    let same = names_of_globals 1 program.globals in
    record {
      globals = sym same;
      units =
          raw_units_stand program.globals _ same units _ (names_of_raw (map (λ (unit : UnitShape). unit.name) units) (first_line program) units) (first_line program) units
          (λ i unit at. (well_typed.fits.bodies i unit at, well_typed.fits.shares i unit at, all_at UnitWellTyped units i unit well_typed.units at));
    }

-- the canonical text spells a raw program that stands for the program
pub spells_for : (program : ProgramShape) → ProgramWellTyped program → SpellsFor (canonical_text program) program
spells_for program well_typed = record { raw = raw_of program; spelled = raw_spelled program well_typed; stands = raw_stands program well_typed }

-- within the limits, where a text spells one raw program, and a valid raw program stands for one program
pub text_of_only : (program : ProgramShape) → ProgramWellTyped program → ((text : List ℕ) (one other : Raw) → Spells text one → Spells text other → one ≡ other)
    → ((raw : Raw) → IsValid raw → (one other : ProgramShape) → StandsFor raw one → StandsFor raw other → one ≡ other) → KeepsLimits program → IsTextOfOnly (canonical_text program) program
text_of_only program well_typed one_raw one_program limits =
    let valid : IsValid (raw_of program) = are_valid program well_typed limits in
    record {
      is = record { raw = raw_of program; spelled = raw_spelled program well_typed; valid = valid; stands = raw_stands program well_typed };
      only = λ other text.
          let same : text.raw ≡ raw_of program = one_raw (canonical_text program) text.raw (raw_of program) text.spelled (raw_spelled program well_typed) in
          one_program (raw_of program) valid other program (subst (λ (raw : Raw). StandsFor raw other) same text.stands) (raw_stands program well_typed);
    }
