-- The refusal of a raw program: the first kind, in a fixed order, whose condition holds, with its smallest line. Cited
-- by contracts.
use Rattle.std.specs.Prelude.{◌≡◌, ◌⊎◌, ℕ, ◌≤◌, ◌<◌, min, nat_eq, nat_lt, List, [], ◌∷◌, fold, flat_map, length, Option, None, Some, if◌then◌else◌}
use Rattle.std.specs.Option.{option_map, option_or}
use Rattle.mir_base.specs.Limits.{most_units}
use Rattle.mir_parse.specs.declared.raw.Raw.{Raw}
use Rattle.mir_parse.specs.declared.raw.RawGlobal.{RawGlobal}
use Rattle.mir_parse.specs.RawUnit.{RawUnitShape}
use Rattle.mir_valid.specs.declared.faults.ValidFault.{ValidFault}
use Rattle.mir_valid.specs.declared.faults.ValidFault.TheVariants.{NoUnit, TooManyUnits, SameUnit, TooManyInsts, LateReceive, SameReceive, TooManyReceives, SameLabel, NoLabel, NoSuchUnit, WrongCount, SameGlobal, TooManyGlobals, GlobalReceive, BadTrap, Memory}
use Rattle.mir_valid.specs.Rules.{same_unit_lines, too_many_insts_lines, late_receive_lines, same_receive_lines, too_many_receives_lines, same_label_lines, no_label_lines, no_unit_lines, wrong_count_lines, same_global_lines, too_many_globals_lines, global_receive_lines, bad_trap_lines}

-- the lesser of the smallest line so far and one more
abbrev pub lesser : Option ℕ → ℕ → Option ℕ
lesser None line = Some line
lesser (Some least) line = Some (min least line)

-- the smallest of the lines, where there is one
abbrev pub least : List ℕ → Option ℕ
least lines = fold lesser None lines

-- the smallest line at which one of the units breaks a rule
abbrev pub least_over : (RawUnitShape → List ℕ) → List RawUnitShape → Option ℕ
least_over lines units = least (flat_map lines units)

-- a kind of refusal with the smallest of its lines
abbrev pub at_least_line : (ℕ → ValidFault) → List ℕ → Option ValidFault
at_least_line kind lines = option_map kind (least lines)

-- the first that is there
abbrev pub first_of : List (Option ValidFault) → Option ValidFault
first_of [] = None
first_of (found ∷ others) = option_or found (first_of others)

-- the kinds of refusal in their order, each where its condition holds
abbrev pub refusals : List RawGlobal → List RawUnitShape → List (Option ValidFault)
refusals globals units =
    (if nat_eq (length units) 0 then Some NoUnit else None)
    ∷ (if nat_lt most_units (length units) then Some TooManyUnits else None)
    ∷ at_least_line SameUnit (same_unit_lines units)
    ∷ at_least_line TooManyInsts (flat_map too_many_insts_lines units)
    ∷ at_least_line LateReceive (flat_map late_receive_lines units)
    ∷ at_least_line SameReceive (flat_map same_receive_lines units)
    ∷ at_least_line TooManyReceives (flat_map too_many_receives_lines units)
    ∷ at_least_line SameLabel (flat_map same_label_lines units)
    ∷ at_least_line NoLabel (flat_map no_label_lines units)
    ∷ at_least_line NoSuchUnit (flat_map (no_unit_lines units) units)
    ∷ at_least_line WrongCount (flat_map (wrong_count_lines units) units)
    ∷ at_least_line SameGlobal (same_global_lines globals)
    ∷ at_least_line TooManyGlobals (too_many_globals_lines globals)
    ∷ at_least_line GlobalReceive (flat_map (global_receive_lines globals) units)
    ∷ at_least_line BadTrap (flat_map bad_trap_lines units)
    ∷ []

-- the first refusal whose condition holds
abbrev pub refusal : Raw → Option ValidFault
refusal raw = first_of (refusals raw.globals raw.units)

-- no kind of refusal has a line
pub record AreValid (globals : List RawGlobal) (units : List RawUnitShape) : Type 0 where
  pub some_unit : 0 < length units
  pub few_units : length units ≤ most_units
  pub same_unit : same_unit_lines units ≡ []
  pub too_many_insts : flat_map too_many_insts_lines units ≡ []
  pub late_receive : flat_map late_receive_lines units ≡ []
  pub same_receive : flat_map same_receive_lines units ≡ []
  pub too_many_receives : flat_map too_many_receives_lines units ≡ []
  pub same_label : flat_map same_label_lines units ≡ []
  pub no_label : flat_map no_label_lines units ≡ []
  pub no_such_unit : flat_map (no_unit_lines units) units ≡ []
  pub wrong_count : flat_map (wrong_count_lines units) units ≡ []
  pub same_global : same_global_lines globals ≡ []
  pub too_many_globals : too_many_globals_lines globals ≡ []
  pub global_receive : flat_map (global_receive_lines globals) units ≡ []
  pub bad_trap : flat_map bad_trap_lines units ≡ []

-- no condition of a refusal holds
abbrev pub IsValid : Raw → Type 0
IsValid raw = AreValid raw.globals raw.units

-- the fault is running out of memory
abbrev pub IsValidMemory : ValidFault → Type 0
IsValidMemory NoUnit = ⊥
IsValidMemory TooManyUnits = ⊥
IsValidMemory (SameUnit line) = ⊥
IsValidMemory (TooManyInsts line) = ⊥
IsValidMemory (LateReceive line) = ⊥
IsValidMemory (SameReceive line) = ⊥
IsValidMemory (TooManyReceives line) = ⊥
IsValidMemory (SameLabel line) = ⊥
IsValidMemory (NoLabel line) = ⊥
IsValidMemory (NoSuchUnit line) = ⊥
IsValidMemory (WrongCount line) = ⊥
IsValidMemory (SameGlobal line) = ⊥
IsValidMemory (TooManyGlobals line) = ⊥
IsValidMemory (GlobalReceive line) = ⊥
IsValidMemory (BadTrap line) = ⊥
IsValidMemory (Memory refused) = Unit {0}

-- a fault is this one, or running out of memory
abbrev pub IsFaultOrMemory : ValidFault → ValidFault → Type 0
IsFaultOrMemory fault given = (given ≡ fault) ⊎ IsValidMemory given
