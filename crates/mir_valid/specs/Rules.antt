-- The rules that units, instructions and labels must keep, and the lines at which each is broken. Cited by contracts.
use Rattle.std.specs.Prelude.{ℕ, Bool, false, ◌&&◌, ◌||◌, not, nat_eq, nat_le, List, [], ◌∷◌, ◌++◌, map, filter, count_by, length, slice_get, ℤ, pos, int_lt, Option, None, Some, is_some, if◌then◌else◌}
use Rattle.std.specs.List.{list_any, filter_map}
use Rattle.std.specs.Option.{option_map_or}
use Rattle.mir_base.specs.Limits.{most_insts, most_receives, most_globals}
use Rattle.mir_parse.specs.declared.raw.RawForm.{RawForm}
use Rattle.mir_parse.specs.declared.raw.RawForm.TheVariants.{Receive, Goto, If, TrapIf, Call}
use Rattle.mir_parse.specs.declared.raw.RawInst.{RawInst}
use Rattle.mir_parse.specs.declared.raw.RawLabel.{RawLabel}
use Rattle.mir_parse.specs.declared.raw.RawGlobal.{RawGlobal}
use Rattle.mir_parse.specs.RawUnit.{RawUnitShape}
use Rattle.mir_valid.specs.Names.{NameEntry, has_name, number_in}

-- the lines of the items that break a rule. The rule sees the items before it, and the item
abbrev pub broken_after : {A : Type 0} → (A → ℕ) → (List A → A → Bool) → List A → List A → List ℕ
broken_after line breaks earlier [] = []
broken_after line breaks earlier (x ∷ xs) =
    (if breaks earlier x then line x ∷ [] else [])
    ++ broken_after line breaks (earlier ++ x ∷ []) xs

-- the lines of all the items that break a rule
abbrev pub broken : {A : Type 0} → (A → ℕ) → (List A → A → Bool) → List A → List ℕ
broken line breaks xs = broken_after line breaks [] xs

-- ---- units

-- the names of the units
abbrev pub unit_names : List RawUnitShape → List (List ℕ)
unit_names units = map (λ unit. unit.name) units

-- a unit has the name of an earlier one
abbrev pub same_unit_lines : List RawUnitShape → List ℕ
same_unit_lines units =
    broken (λ unit. unit.line) (λ earlier unit. has_name (unit_names earlier) unit.name) units

-- ---- instructions

-- the variable that the instruction receives
abbrev pub received_by : RawForm → Option (List ℕ)
received_by (Receive x) = Some x
received_by form = None

-- the instruction is a receive
abbrev pub is_receive : RawInst → Bool
is_receive inst = is_some (received_by inst.form)

-- the label that the instruction jumps to
abbrev pub jumped_to : RawForm → Option (List ℕ)
jumped_to (Goto l) = Some l
jumped_to (If test l) = Some l
jumped_to form = None

-- the unit that the instruction calls, and the number of its arguments
abbrev pub called_by : RawForm → Option (List ℕ × ℕ)
called_by (Call into f operands) = Some (f, length operands)
called_by form = None

-- the line of an instruction, where there is one
abbrev pub line_of : Option RawInst → List ℕ
line_of None = []
line_of (Some inst) = inst.line ∷ []

-- the lines of the instructions that pass the test
abbrev pub lines_where : (RawForm → Bool) → List RawInst → List ℕ
lines_where test body = map (λ inst. inst.line) (filter (λ inst. test inst.form) body)

-- ---- sizes

-- the line of instruction 16,385 of the unit, where it has so many: that is one too many
abbrev pub too_many_insts_lines : RawUnitShape → List ℕ
too_many_insts_lines unit = line_of (slice_get unit.body most_insts)

-- a receive is number 17 of its unit: 16 stand before it
abbrev pub is_seventeenth : List RawInst → RawInst → Bool
is_seventeenth earlier inst = is_receive inst && nat_eq (count_by is_receive earlier) most_receives

-- the lines of the receives beyond the sixteenth
abbrev pub too_many_receives_lines : RawUnitShape → List ℕ
too_many_receives_lines unit = broken (λ inst. inst.line) is_seventeenth unit.body

-- ---- receives

-- a label stands before the instruction with this place: it follows as many instructions as its own place says
abbrev pub has_label_before : List RawLabel → ℕ → Bool
has_label_before labels place = list_any (λ label. nat_le label.place place) labels

-- the instruction is of another kind than receives
abbrev pub is_other : RawInst → Bool
is_other inst = not (is_receive inst)

-- a receive follows another kind of instruction or a label
abbrev pub is_late : List RawLabel → List RawInst → RawInst → Bool
is_late labels earlier inst =
    is_receive inst && (list_any is_other earlier || has_label_before labels (length earlier))

-- the lines of receives behind another instruction or a label
abbrev pub late_receive_lines : RawUnitShape → List ℕ
late_receive_lines unit = broken (λ inst. inst.line) (is_late unit.labels) unit.body

-- the variables that a body receives
abbrev pub received : List RawInst → List (List ℕ)
received body = filter_map (λ inst. received_by inst.form) body

-- a receive names a variable that an earlier one names
abbrev pub receives_again : List RawInst → RawInst → Bool
receives_again earlier inst =
    option_map_or (has_name (received earlier)) (received_by inst.form) false

-- the lines of receives of a variable that is received before
abbrev pub same_receive_lines : RawUnitShape → List ℕ
same_receive_lines unit = broken (λ inst. inst.line) receives_again unit.body

-- ---- labels

-- the names of the labels
abbrev pub label_names : List RawLabel → List (List ℕ)
label_names labels = map (λ label. label.name) labels

-- a label has the name of an earlier one of its unit
abbrev pub same_label_lines : RawUnitShape → List ℕ
same_label_lines unit =
    broken (λ label. label.line)
    (λ earlier label. has_name (label_names earlier) label.name) unit.labels

-- a `goto` or `if` names none of the labels
abbrev pub misses_label : List RawLabel → RawForm → Bool
misses_label labels form =
    option_map_or (λ l. not (has_name (label_names labels) l)) (jumped_to form) false

-- the lines of jumps to a label that the unit does not have
abbrev pub no_label_lines : RawUnitShape → List ℕ
no_label_lines unit = lines_where (misses_label unit.labels) unit.body

-- ---- calls

-- a call names none of the units
abbrev pub misses_unit : List RawUnitShape → RawForm → Bool
misses_unit units form =
    option_map_or (λ call. not (has_name (unit_names units) call.0)) (called_by form) false

-- the lines of calls of a unit that is not there
abbrev pub no_unit_lines : List RawUnitShape → RawUnitShape → List ℕ
no_unit_lines units unit = lines_where (misses_unit units) unit.body

-- each unit's name, with the number of its receives
abbrev pub receive_counts : List RawUnitShape → List NameEntry
receive_counts units = map (λ unit. (unit.name, count_by is_receive unit.body)) units

-- a call names a unit that has a count, and has another number of arguments
abbrev pub differs_from : List NameEntry → RawForm → Bool
differs_from counts form =
    option_map_or
    (λ call. option_map_or (λ count. not (nat_eq count call.1)) (number_in counts call.0) false)
    (called_by form) false

-- the lines of calls with another number of arguments than the unit receives
abbrev pub wrong_count_lines : List RawUnitShape → RawUnitShape → List ℕ
wrong_count_lines units unit = lines_where (differs_from (receive_counts units)) unit.body

-- ---- globals

-- the names of the globals
abbrev pub global_names : List RawGlobal → List (List ℕ)
global_names globals = map (λ g. g.name) globals

-- a global line names an earlier global
abbrev pub same_global_lines : List RawGlobal → List ℕ
same_global_lines globals =
    broken (λ g. g.line) (λ earlier g. has_name (global_names earlier) g.name) globals

-- the line of a global, where there is one
abbrev pub global_line_of : Option RawGlobal → List ℕ
global_line_of None = []
global_line_of (Some g) = g.line ∷ []

-- a global line is number 65
abbrev pub too_many_globals_lines : List RawGlobal → List ℕ
too_many_globals_lines globals = global_line_of (slice_get globals most_globals)

-- a receive names a global
abbrev pub receives_global : List RawGlobal → RawForm → Bool
receives_global globals form =
    option_map_or (has_name (global_names globals)) (received_by form) false

-- the lines of receives of globals
abbrev pub global_receive_lines : List RawGlobal → RawUnitShape → List ℕ
global_receive_lines globals unit = lines_where (receives_global globals) unit.body

-- ---- traps

-- the number that the instruction traps with
abbrev pub trapped_with : RawForm → Option ℤ
trapped_with (TrapIf test z) = Some z
trapped_with form = None

-- the number is below 0 or above 255
abbrev pub is_bad_number : ℤ → Bool
is_bad_number z = int_lt z (pos 0) || int_lt (pos 255) z

-- a trap instruction has such a number
abbrev pub is_bad_trap : RawForm → Bool
is_bad_trap form = option_map_or is_bad_number (trapped_with form) false

-- the lines of trap instructions that do
abbrev pub bad_trap_lines : RawUnitShape → List ℕ
bad_trap_lines unit = lines_where is_bad_trap unit.body
