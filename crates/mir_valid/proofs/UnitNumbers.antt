-- The numbers of the units so far, and of one more.
use Rattle.std.proofs.Common.{◌≡◌, ℕ, ◌+◌, ◌<◌, List, [], ◌∷◌, ◌++◌, take, length, get_or, ap, sym, ◌∙◌, arith}
use Rattle.std.proofs.lemmas.List.{take_more, length-take-le, length-map, map-append}
use Rattle.std.proofs.lemmas.List.Sums.{fold-append}
use Rattle.mir_parse.specs.RawUnit.{RawUnitShape}
use Rattle.mir_valid.specs.Rules.{unit_names}
use Rattle.mir_valid.specs.NameTables.{table_of, with_entry, entries_from}
use Rattle.mir_valid.specs.Numbered.{unit_numbers}
use Rattle.mir_valid.proofs.TableLaws.{entries_push}

-- one more unit is numbered by its place
pub unit_numbers_next : (units : List RawUnitShape) (i : ℕ) (unit : RawUnitShape) → i < length units → unit ≡ get_or units i unit
    → unit_numbers (take (i + 1) units) ≡ with_entry (unit_numbers (take i units)) (unit.name, i)
unit_numbers_next units i unit low at =
    let names : unit_names (take (i + 1) units) ≡ unit_names (take i units) ++ unit.name ∷ [] =
    ap unit_names (take_more units i unit low ∙ ap (λ u. take i units ++ u ∷ []) (sym at)) ∙ map-append (λ u. u.name) (take i units) (unit ∷ []) in
    let size : 0 + length (unit_names (take i units)) ≡ i =
    omega (arith, length-map (take i units) (λ u. u.name), length-take-le i units (omega arith)) in
    ap table_of (ap (entries_from 0) names ∙ entries_push 0 (unit_names (take i units)) unit.name ∙ ap (λ k. entries_from 0 (unit_names (take i units)) ++ (unit.name, k) ∷ []) size)
    ∙ fold-append with_entry [] (entries_from 0 (unit_names (take i units))) ((unit.name, i) ∷ [])
