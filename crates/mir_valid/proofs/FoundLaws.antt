-- In valid units each name of a label or a unit stands somewhere, and its number or place is one of that name.
use Rattle.std.proofs.Common.{◌≡◌, ℕ, suc, ◌+◌, Bool, true, false, cond, unwrap_or, count_by, List, [], ◌∷◌, slice_get, Option, Some, refl, ap, sym, ◌∙◌, subst, arith}
use Rattle.mir_base.specs.ItemLaws.{some_of}
use Rattle.mir_parse.specs.declared.raw.RawLabel.{RawLabel}
use Rattle.mir_parse.specs.RawUnit.{RawUnitShape}
use Rattle.mir_base.specs.Words.{is_text}
use Rattle.mir_valid.specs.Names.{has_name, number_in}
use Rattle.mir_valid.specs.Rules.{unit_names, label_names, is_receive, receive_counts}
use Rattle.mir_valid.specs.Stands.{IsNumber, IsPlace}
use Rattle.mir_valid.specs.NameTables.{number_or_zero, entries_from, table_of}
use Rattle.mir_valid.specs.Numbered.{label_places, unit_numbers}
use Rattle.mir_valid.proofs.TableLaws.{number_in_table_of, has_entry, has_number}
use Rattle.mir_valid.specs.NameLaws.{same_is}
use Rattle.mir_valid.proofs.NumberLaws.{number_is}

-- a place of a name is one still when another label comes in front
place_later : (first : RawLabel) (labels : List RawLabel) (l : List ℕ) (place : ℕ) → IsPlace labels l place → IsPlace (first ∷ labels) l place
place_later first labels l place (k, label, low, at, is) = (suc k, label, omega (arith, low), at, is)

-- the place that a look-up finds is that of a label with the name
place_is : (labels : List RawLabel) (l : List ℕ) (place : ℕ) → number_in (label_places labels) l ≡ Some place → IsPlace labels l place
place_is [] l place e = absurd (cc)
place_is (label ∷ labels) l place e = by (is_text l label.name) refl (place_is labels l place)
  where
    by : (b : Bool) → is_text l label.name ≡ b → (number_in (label_places labels) l ≡ Some place → IsPlace labels l place) → IsPlace (label ∷ labels) l place
    by true same later =
        let e' = sym (ap (λ b. cond b (Some label.place) (number_in (label_places labels) l)) same) ∙ e in
        (0, label, omega arith, refl, (sym (same_is l label.name same), cc))
    by false other later = place_later label labels l place (later (sym (ap (λ b. cond b (Some label.place) (number_in (label_places labels) l)) other) ∙ e))

-- the place of a name that some label has
pub label_found : (labels : List RawLabel) (l : List ℕ) → has_name (label_names labels) l ≡ true → IsPlace labels l (number_or_zero (table_of (label_places labels)) l)
label_found labels l has =
    let found = some_of (number_in (label_places labels) l) (has_entry (λ label. label.name) (λ label. label.place) labels l ∙ has) in
    subst (λ (o : Option ℕ). IsPlace labels l (unwrap_or o 0)) (sym (number_in_table_of (label_places labels) l ∙ found.1)) (place_is labels l found.0 found.1)

-- a unit's name is found in the numbered names, with the number that the table gives
unit_number : (units : List RawUnitShape) (f : List ℕ) → has_name (unit_names units) f ≡ true
    → (n : ℕ) × (number_or_zero (unit_numbers units) f ≡ n) × (number_in (entries_from 0 (unit_names units)) f ≡ Some n)
unit_number units f has =
    let found = some_of (number_in (entries_from 0 (unit_names units)) f) (has_number 0 (unit_names units) f ∙ has) in
    (found.0, ap (λ o. unwrap_or o 0) (number_in_table_of (entries_from 0 (unit_names units)) f ∙ found.1), found.1)

-- the number of a name that some unit has
pub unit_found : (units : List RawUnitShape) (f : List ℕ) → has_name (unit_names units) f ≡ true → IsNumber (unit_names units) f (number_or_zero (unit_numbers units) f)
unit_found units f has =
    let n = unit_number units f has in
    subst (λ (k : ℕ). IsNumber (unit_names units) f k) (sym n.1) (number_is (unit_names units) f n.0 n.2)

-- the called unit is the first of this name, and so is the count of its receives
pub record IsCalled (units : List RawUnitShape) (f : List ℕ) (place : ℕ) : Type 0 where
  pub unit : RawUnitShape
  pub at : slice_get units place ≡ Some unit
  pub count : number_in (receive_counts units) f ≡ Some (count_by is_receive unit.body)

-- the number that is found counts the units before the first of the name
first_called : (k : ℕ) (units : List RawUnitShape) (f : List ℕ) (n : ℕ) → number_in (entries_from k (unit_names units)) f ≡ Some n → (place : ℕ) × (n ≡ k + place) × IsCalled units f place
first_called k [] f n e = absurd (cc)
first_called k (unit ∷ units) f n e = by (is_text f unit.name) refl (first_called (suc k) units f n)
  where
    by : (b : Bool) → is_text f unit.name ≡ b → (number_in (entries_from (suc k) (unit_names units)) f ≡ Some n → (place : ℕ) × (n ≡ suc k + place) × IsCalled units f place)
        → (place : ℕ) × (n ≡ k + place) × IsCalled (unit ∷ units) f place
    by true same later =
        let first : k ≡ n = cc (sym (ap (λ b. cond b (Some k) (number_in (entries_from (suc k) (unit_names units)) f)) same) ∙ e) in (
          0,
          omega (arith, first),
          record {
            unit = unit;
            at = refl;
            count = ap (λ b. cond b (Some (count_by is_receive unit.body)) (number_in (receive_counts units) f)) same;
          },
        )
    by false other later =
        let there = later (sym (ap (λ b. cond b (Some k) (number_in (entries_from (suc k) (unit_names units)) f)) other) ∙ e) in (
          suc there.0,
          omega (arith, there.1),
          record {
            unit = there.2.unit;
            at = there.2.at;
            count = ap (λ b. cond b (Some (count_by is_receive unit.body)) (number_in (receive_counts units) f)) other ∙ there.2.count;
          },
        )

-- a name that some unit has is that of a called unit
pub called_is : (units : List RawUnitShape) (f : List ℕ) → has_name (unit_names units) f ≡ true → IsCalled units f (number_or_zero (unit_numbers units) f)
called_is units f has =
    let n = unit_number units f has in
    let called = first_called 0 units f n.0 n.2 in
    let same : called.0 ≡ number_or_zero (unit_numbers units) f = omega (arith, called.1, n.1) in
    subst (λ (place : ℕ). IsCalled units f place) same called.2
