-- Items of mapped and filtered lists, and lists without lines.
use Rattle.std.proofs.Common.{◌≡◌, ℕ, zero, suc, Bool, true, false, cond, List, [], ◌∷◌, ◌++◌, map, filter, slice_get, Some, refl, ap, sym, ◌∙◌}
use Rattle.std.specs.List.{flat_map}
use Rattle.std.specs.Option.{option_map}
use Rattle.std.proofs.lemmas.Option.{slice_get-map}
use Rattle.mir_parse.specs.declared.raw.RawForm.{RawForm}
use Rattle.mir_parse.specs.declared.raw.RawInst.{RawInst}
use Rattle.mir_valid.specs.Rules.{lines_where}

-- an item gives one of the mapped list
pub at_map : {A B : Type 0} (f : A → B) (xs : List A) (i : ℕ) (x : A) → slice_get xs i ≡ Some x → slice_get (map f xs) i ≡ Some (f x)
at_map f xs i x at = slice_get-map f xs i ∙ ap (option_map f) at

-- of two lists that are empty together each is empty
both_nil : {A : Type 0} (xs ys : List A) → xs ++ ys ≡ [] → (xs ≡ []) × (ys ≡ [])
both_nil [] ys e = (refl, e)
both_nil (x ∷ xs) ys e = absurd (cc)

-- where no unit has a line, this one has none
pub no_lines_at : {A : Type 0} (lines : A → List ℕ) (xs : List A) (i : ℕ) (x : A) → flat_map lines xs ≡ [] → slice_get xs i ≡ Some x → lines x ≡ []
no_lines_at lines [] i x e at = absurd (cc)
no_lines_at lines (y ∷ xs) zero x e at = let same : y ≡ x = cc in ap lines (sym same) ∙ (both_nil (lines y) (flat_map lines xs) e).0
no_lines_at lines (y ∷ xs) (suc i) x e at = no_lines_at lines xs i x (both_nil (lines y) (flat_map lines xs) e).1 at

-- where no instruction passes the test, this one does not
pub fails_at : (test : RawForm → Bool) (body : List RawInst) (i : ℕ) (inst : RawInst) → lines_where test body ≡ [] → slice_get body i ≡ Some inst → test inst.form ≡ false
fails_at test [] i inst e at = absurd (cc)
fails_at test (first ∷ body) i inst e at = by (test first.form) refl i at (λ i e. fails_at test body i inst e)
  where
    here : test first.form ≡ false → (i : ℕ) → slice_get (first ∷ body) i ≡ Some inst → ((i : ℕ) → slice_get body i ≡ Some inst → test inst.form ≡ false) → test inst.form ≡ false
    here is zero at later = let same : first ≡ inst = cc in ap (λ (j : RawInst). test j.form) (sym same) ∙ is
    here is (suc i) at later = later i at

    by : (b : Bool) → test first.form ≡ b → (i : ℕ) → slice_get (first ∷ body) i ≡ Some inst
        → ((i : ℕ) → lines_where test body ≡ [] → slice_get body i ≡ Some inst → test inst.form ≡ false) → test inst.form ≡ false
    by true is i at later =
        let e' = sym (ap (λ b. map (λ (j : RawInst). j.line) (cond b (first ∷ filter (λ (j : RawInst). test j.form) body) (filter (λ (j : RawInst). test j.form) body))) is) ∙ e in
        absurd (cc)
    by false is i at later =
        let e' : lines_where test body ≡ [] =
        sym (ap (λ b. map (λ (j : RawInst). j.line) (cond b (first ∷ filter (λ (j : RawInst). test j.form) body) (filter (λ (j : RawInst). test j.form) body))) is) ∙ e in
        here is i at (λ i. later i e')
