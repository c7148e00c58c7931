-- Tables that give names numbers, and what they say of an instruction. Cited by the contracts of private functions.
use Rattle.std.specs.Prelude.{ℕ, suc, Bool, false, List, [], ◌∷◌, ◌++◌, map, fold, is_some, is_none, unwrap_or, if◌then◌else◌, nat_le, Option}
use Rattle.std.specs.Option.{option_map_or}
use Rattle.mir_parse.specs.declared.raw.RawForm.{RawForm}
use Rattle.mir_parse.specs.declared.raw.RawGlobal.{RawGlobal}
use Rattle.mir_parse.specs.RawUnit.{RawUnitShape}
use Rattle.mir_valid.specs.Names.{NameEntry, number_in}
use Rattle.mir_valid.specs.declared.lookups.Lookup.{Lookup}
use Rattle.mir_valid.specs.declared.lookups.Lookup.TheVariants.{NoLabel, NoUnit, OtherCount}
use Rattle.mir_valid.specs.Rules.{received_by, jumped_to, called_by, differs_from, lines_where}

-- the number of the first entry with this name; 0 where there is none
abbrev pub number_or_zero : List NameEntry → List ℕ → ℕ
number_or_zero entries x = unwrap_or (number_in entries x) 0

-- the table after one more entry: an entry that is there already for its name stays
abbrev pub with_entry : List NameEntry → NameEntry → List NameEntry
with_entry table entry = if is_some (number_in table entry.0) then table else table ++ entry ∷ []

-- the table of these entries: of those with one name the first alone
abbrev pub table_of : List NameEntry → List NameEntry
table_of entries = fold with_entry [] entries

-- the names with their numbers, from n on, as entries of a table
abbrev pub entries_from : ℕ → List (List ℕ) → List NameEntry
entries_from n [] = []
entries_from n (x ∷ xs) = (x, n) ∷ entries_from (suc n) xs

-- a `goto` or `if` names no label of the table
abbrev pub misses_place : List NameEntry → RawForm → Bool
misses_place table form = option_map_or (λ l. is_none (number_in table l)) (jumped_to form) false

-- a call names no unit of the table
abbrev pub misses_number : List NameEntry → RawForm → Bool
misses_number table form =
    option_map_or (λ call. is_none (number_in table call.0)) (called_by form) false

-- whether an instruction breaks the rule: it names a label, or calls a unit, that is not in the table, or hands over
-- another number of arguments than the table has for the unit
abbrev pub breaks : Lookup → List NameEntry → RawForm → Bool
breaks NoLabel table = misses_place table
breaks NoUnit table = misses_number table
breaks OtherCount table = differs_from table

-- the lines of a unit at which its instructions break the rule
abbrev pub broken_lookups : Lookup → List NameEntry → RawUnitShape → List ℕ
broken_lookups lookup table unit = lines_where (breaks lookup table) unit.body

-- a receive names a variable of the table
abbrev pub has_received : List NameEntry → RawForm → Bool
has_received seen form = option_map_or (λ x. is_some (number_in seen x)) (received_by form) false

-- the table after the variable of a receive was added
abbrev pub with_received : List NameEntry → RawForm → List NameEntry
with_received seen form = option_map_or (λ x. with_entry seen (x, 0)) (received_by form) seen

-- there is a first place, and it is at most this one
abbrev pub is_at_most : Option ℕ → ℕ → Bool
is_at_most first place = option_map_or (λ least. nat_le least place) first false

-- each global's name, with its line
abbrev pub global_lines : List RawGlobal → List NameEntry
global_lines globals = map (λ g. (g.name, g.line)) globals
