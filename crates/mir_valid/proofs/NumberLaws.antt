-- Names that are numbered in order: a name's number is a place at which it stands.
use Rattle.std.proofs.Common.{◌≡◌, ℕ, suc, ◌+◌, Bool, true, false, cond, unwrap_or, List, [], ◌∷◌, ◌++◌, length, slice_get, Option, None, Some, refl, ap, sym, ◌∙◌, subst, add-zero, arith}
use Rattle.std.specs.Option.{option_or}
use Rattle.mir_base.specs.ItemLaws.{some_of, none_of}
use Rattle.mir_base.specs.Words.{is_text}
use Rattle.mir_valid.specs.Names.{has_name, number_in}
use Rattle.mir_valid.specs.NameLaws.{same_self, same_is}
use Rattle.mir_valid.specs.Stands.{IsNumber}
use Rattle.mir_valid.specs.NameTables.{number_or_zero, entries_from}
use Rattle.mir_valid.proofs.TableLaws.{has_number, number_in_append}

-- the number of a name, counted from k, leads to its place
pub number_place : (k : ℕ) (names : List (List ℕ)) (x : List ℕ) (n : ℕ) → number_in (entries_from k names) x ≡ Some n → (place : ℕ) × (n ≡ k + place) × (slice_get names place ≡ Some x)
number_place k [] x n e = absurd (cc)
number_place k (y ∷ names) x n e = by (is_text x y) refl (number_place (suc k) names x n)
  where
    by : (b : Bool) → is_text x y ≡ b → (number_in (entries_from (suc k) names) x ≡ Some n → (place : ℕ) × (n ≡ suc k + place) × (slice_get names place ≡ Some x))
        → (place : ℕ) × (n ≡ k + place) × (slice_get (y ∷ names) place ≡ Some x)
    by true same later =
        let first : k ≡ n = cc (sym (ap (λ b. cond b (Some k) (number_in (entries_from (suc k) names) x)) same) ∙ e) in
        (0, omega (arith, first), ap Some (sym (same_is x y same)))
    by false other later =
        let there = later (sym (ap (λ b. cond b (Some k) (number_in (entries_from (suc k) names) x)) other) ∙ e) in
        (suc there.0, omega (arith, there.1), there.2)

-- the number of a name is a place at which it stands
pub number_is : (names : List (List ℕ)) (x : List ℕ) (n : ℕ) → number_in (entries_from 0 names) x ≡ Some n → IsNumber names x n
number_is names x n e = let there = number_place 0 names x n e in let same : there.0 ≡ n = omega (arith, there.1) in subst (λ (k : ℕ). slice_get names k ≡ Some x) same there.2

-- the number of a name that occurs
pub numbered_is : (names : List (List ℕ)) (x : List ℕ) → has_name names x ≡ true → IsNumber names x (number_or_zero (entries_from 0 names) x)
numbered_is names x has =
    let found = some_of (number_in (entries_from 0 names) x) (has_number 0 names x ∙ has) in
    subst (λ (o : Option ℕ). IsNumber names x (unwrap_or o 0)) (sym found.1) (number_is names x found.0 found.1)

-- names at the end are numbered on from those before them
numbered_append : (n : ℕ) (names others : List (List ℕ)) → entries_from n (names ++ others) ≡ entries_from n names ++ entries_from (n + length names) others
numbered_append n [] others = ap (λ k. entries_from k others) (sym (add-zero n))
numbered_append n (x ∷ names) others =
    let k : suc n + length names ≡ n + length (x ∷ names) = omega arith in
    ap (λ es. (x, n) ∷ es) (numbered_append (suc n) names others ∙ ap (λ k. entries_from (suc n) names ++ entries_from k others) k)

-- a number stays when names are added
pub number_kept : (names others : List (List ℕ)) (x : List ℕ) (n : ℕ) → number_in (entries_from 0 names) x ≡ Some n → number_in (entries_from 0 (names ++ others)) x ≡ Some n
number_kept names others x n e =
    ap (λ es. number_in es x) (numbered_append 0 names others)
    ∙ number_in_append (entries_from 0 names) (entries_from (0 + length names) others) x
    ∙ ap (λ found. option_or found (number_in (entries_from (0 + length names) others) x)) e

-- a new name gets the number of those before it
pub number_new : (names : List (List ℕ)) (x : List ℕ) → has_name names x ≡ false → number_in (entries_from 0 (names ++ x ∷ [])) x ≡ Some (length names)
number_new names x new =
    let size : 0 + length names ≡ length names = omega arith in
    ap (λ es. number_in es x) (numbered_append 0 names (x ∷ []))
    ∙ number_in_append (entries_from 0 names) (entries_from (0 + length names) (x ∷ [])) x
    ∙ ap (λ found. option_or found (number_in (entries_from (0 + length names) (x ∷ [])) x)) (none_of (number_in (entries_from 0 names) x) (has_number 0 names x ∙ new))
    ∙ ap (λ b. cond b (Some (0 + length names)) None) (same_self x)
    ∙ ap Some size
