-- What the tables of a raw program say of the names in it.
use Rattle.std.proofs.Common.{◌≡◌, ℕ, List, not, false, nat_eq, is_none, is_some, ap, ◌∙◌}
use Rattle.std.specs.Option.{option_map_or}
use Rattle.mir_parse.specs.declared.raw.RawLabel.{RawLabel}
use Rattle.mir_parse.specs.declared.raw.RawGlobal.{RawGlobal}
use Rattle.mir_parse.specs.RawUnit.{RawUnitShape}
use Rattle.mir_valid.specs.Names.{has_name, number_in}
use Rattle.mir_valid.specs.Rules.{jumped_to, called_by, label_names, misses_label, unit_names, misses_unit, receive_counts, differs_from, received_by, global_names, receives_global}
use Rattle.mir_valid.specs.NameTables.{table_of, entries_from, misses_place, misses_number, global_lines, has_received}
use Rattle.mir_valid.specs.Numbered.{label_places, unit_numbers}
use Rattle.mir_valid.proofs.TableLaws.{number_in_table_of, has_entry, has_number}

-- the table of labels lacks a name exactly where no label has it
missing_label : (labels : List RawLabel) (l : List ℕ) → is_none (number_in (table_of (label_places labels)) l) ≡ not (has_name (label_names labels) l)
missing_label labels l = ap is_none (number_in_table_of (label_places labels) l) ∙ ap not (has_entry (λ label. label.name) (λ label. label.place) labels l)

-- a jump to a label that the table of labels does not have is one to none of the labels
pub misses_place_labels : (labels : List RawLabel) → misses_place (table_of (label_places labels)) ≡ misses_label labels
misses_place_labels labels = λ i form. option_map_or (λ l. missing_label labels l i) (jumped_to form) false

-- the table of units lacks a name exactly where no unit has it
missing_unit : (units : List RawUnitShape) (f : List ℕ) → is_none (number_in (unit_numbers units) f) ≡ not (has_name (unit_names units) f)
missing_unit units f = ap is_none (number_in_table_of (entries_from 0 (unit_names units)) f) ∙ ap not (has_number 0 (unit_names units) f)

-- a call of a unit that the table of units does not have is one of none of the units
pub misses_number_units : (units : List RawUnitShape) → misses_number (unit_numbers units) ≡ misses_unit units
misses_number_units units = λ i form. option_map_or (λ call. missing_unit units call.0 i) (called_by form) false

-- the first count of each name is the one that counts
pub differs_from_counts : (units : List RawUnitShape) → differs_from (table_of (receive_counts units)) ≡ differs_from (receive_counts units)
differs_from_counts units =
    λ i form. option_map_or (λ call. option_map_or (λ count. not (nat_eq count call.1)) (number_in_table_of (receive_counts units) call.0 i) false) (called_by form) false

-- the table of globals has a name exactly where a global has it
found_global : (globals : List RawGlobal) (x : List ℕ) → is_some (number_in (table_of (global_lines globals)) x) ≡ has_name (global_names globals) x
found_global globals x = ap is_some (number_in_table_of (global_lines globals) x) ∙ has_entry (λ g. g.name) (λ g. g.line) globals x

-- a receive of a name of the table of globals is one of a global
pub receives_global_found : (globals : List RawGlobal) → has_received (table_of (global_lines globals)) ≡ receives_global globals
receives_global_found globals = λ i form. option_map_or (λ x. found_global globals x i) (received_by form) false
