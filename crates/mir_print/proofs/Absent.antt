-- Names that are not among others, and rules that no item breaks.
use Rattle.std.proofs.Common.{◌≡◌, ℕ, suc, Bool, false, ◌||◌, List, [], ◌∷◌, ◌++◌, map, filter, take, slice_get, Some, refl, sym, ap, ◌∙◌, inl, inr, append_assoc, if◌then◌else◌}
use Rattle.std.specs.List.{flat_map}
use Rattle.std.proofs.lemmas.Bool.{cases_Bool}
use Rattle.std.proofs.lemmas.List.{append-nil}
use Rattle.mir_parse.specs.declared.raw.RawForm.{RawForm}
use Rattle.mir_parse.specs.declared.raw.RawInst.{RawInst}
use Rattle.mir_base.specs.Words.{is_text}
use Rattle.mir_valid.specs.Names.{has_name}
use Rattle.mir_valid.specs.NameLaws.{same_is}
use Rattle.mir_valid.specs.Rules.{broken_after, lines_where}

-- no name of the list
pub name_absent : (names : List (List ℕ)) (x : List ℕ) → ((i : ℕ) → slice_get names i ≡ Some x → ⊥) → has_name names x ≡ false
name_absent [] x absent = refl
name_absent (y ∷ names) x absent = elim (cases_Bool (is_text x y)) [
  | inl same ↦ absurd (absent 0 (ap (λ (z : List ℕ). Some z) (sym (same_is x y same))))
  | inr differ ↦ ap (λ (b : Bool). b || has_name names x) differ ∙ name_absent names x (λ i at. absent (suc i) at)
]

-- no item breaks the rule
pub broken_none : {A : Type 0} (line : A → ℕ) (breaks : List A → A → Bool) (earlier xs : List A) → ((i : ℕ) (x : A) → slice_get xs i ≡ Some x → breaks (earlier ++ take i xs) x ≡ false) → broken_after line breaks earlier xs ≡ []
broken_none line breaks earlier [] kept = refl
broken_none line breaks earlier (x ∷ xs) kept =
    let here : breaks earlier x ≡ false = ap (λ seen. breaks seen x) (sym (append-nil earlier)) ∙ kept 0 x refl in
    ap (λ (b : Bool). (if b then line x ∷ [] else []) ++ broken_after line breaks (earlier ++ x ∷ []) xs) here
    ∙ broken_none line breaks (earlier ++ x ∷ []) xs (λ i y at. ap (λ seen. breaks seen y) (append_assoc earlier (x ∷ []) (take i xs)) ∙ kept (suc i) y at)

-- no item has a line
pub flat_none : {A : Type 0} (f : A → List ℕ) (xs : List A) → ((i : ℕ) (x : A) → slice_get xs i ≡ Some x → f x ≡ []) → flat_map f xs ≡ []
flat_none f [] each = refl
flat_none f (x ∷ xs) each = ap (λ (l : List ℕ). l ++ flat_map f xs) (each 0 x refl) ∙ flat_none f xs (λ i y at. each (suc i) y at)

-- no instruction passes the test
pub no_broken_lines : (test : RawForm → Bool) (body : List RawInst) → ((i : ℕ) (inst : RawInst) → slice_get body i ≡ Some inst → test inst.form ≡ false) → lines_where test body ≡ []
no_broken_lines test [] each = refl
no_broken_lines test (inst ∷ body) each =
    ap (λ (b : Bool). map (λ (i : RawInst). i.line) (if b then inst ∷ filter (λ (i : RawInst). test i.form) body else filter (λ (i : RawInst). test i.form) body)) (each 0 inst refl) ∙ no_broken_lines test body (λ i other at. each (suc i) other at)
