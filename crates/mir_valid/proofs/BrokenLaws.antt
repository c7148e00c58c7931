-- The smallest line at which a rule is broken, of the items so far and of one more.
use Rattle.std.proofs.Common.{◌≡◌, ℕ, zero, suc, slice_get, Some, ◌+◌, ◌<◌, Bool, true, false, ◌||◌, List, [], ◌∷◌, ◌++◌, fold, take, length, get_or, Option, if◌then◌else◌, refl, ap, sym, ◌∙◌, append_assoc}
use Rattle.std.proofs.Math.Bool.{or-false}
use Rattle.std.proofs.lemmas.List.{take_more, append-nil}
use Rattle.std.proofs.lemmas.List.Sums.{fold-append}
use Rattle.std.specs.List.{list_any}
use Rattle.std.proofs.lemmas.List.Folds.{list_any-append}
use Rattle.mir_valid.specs.Rules.{broken_after, broken}
use Rattle.mir_valid.specs.Refusals.{lesser}

-- one more item adds its line at the end, if it breaks the rule after those before it
broken_after_push : {A : Type 0} (line : A → ℕ) (breaks : List A → A → Bool) (earlier xs : List A) (x : A)
    → broken_after line breaks earlier (xs ++ x ∷ []) ≡ broken_after line breaks earlier xs ++ (if breaks (earlier ++ xs) x then line x ∷ [] else [])
broken_after_push line breaks earlier [] x =
    append-nil (if breaks earlier x then line x ∷ [] else []) ∙ ap (λ seen. if breaks seen x then line x ∷ [] else []) (sym (append-nil earlier))
broken_after_push line breaks earlier (y ∷ xs) x =
    let here : List ℕ = if breaks earlier y then line y ∷ [] else [] in
    ap (λ ls. here ++ ls) (broken_after_push line breaks (earlier ++ y ∷ []) xs x)
    ∙ sym (append_assoc here (broken_after line breaks (earlier ++ y ∷ []) xs) (if breaks ((earlier ++ y ∷ []) ++ xs) x then line x ∷ [] else []))
    ∙ ap (λ seen. (here ++ broken_after line breaks (earlier ++ y ∷ []) xs) ++ (if breaks seen x then line x ∷ [] else [])) (append_assoc earlier (y ∷ []) xs)

-- the smallest line with one more, if it is there
fold_one : (best : Option ℕ) (lines : List ℕ) (b : Bool) (line : ℕ)
    → fold lesser best (lines ++ (if b then line ∷ [] else [])) ≡ (if b then lesser (fold lesser best lines) line else fold lesser best lines)
fold_one best lines true line = fold-append lesser best lines (line ∷ [])
fold_one best lines false line = ap (λ ls. fold lesser best ls) (append-nil lines)

-- the smallest line of the first i + 1 items, from that of the first i
pub broken_next : {A : Type 0} (line : A → ℕ) (breaks : List A → A → Bool) (best : Option ℕ) (xs : List A) (i : ℕ) (x : A) → i < length xs → x ≡ get_or xs i x
    → fold lesser best (broken line breaks (take (i + 1) xs))
    ≡ (if breaks (take i xs) x then lesser (fold lesser best (broken line breaks (take i xs))) (line x) else fold lesser best (broken line breaks (take i xs)))
broken_next line breaks best xs i x low at =
    ap (λ ys. fold lesser best (broken line breaks ys)) (take_more xs i x low ∙ ap (λ y. take i xs ++ y ∷ []) (sym at))
    ∙ ap (λ ls. fold lesser best ls) (broken_after_push line breaks [] (take i xs) x)
    ∙ fold_one best (broken line breaks (take i xs)) (breaks (take i xs) x) (line x)

-- the step of a loop that keeps the smallest line so far
pub least_next : {A : Type 0} (line : A → ℕ) (breaks : List A → A → Bool) (first : Option ℕ) (xs : List A) (i : ℕ) (x : A) (best best' : Option ℕ) (b : Bool)
    → i < length xs → x ≡ get_or xs i x → best ≡ fold lesser first (broken line breaks (take i xs)) → b ≡ breaks (take i xs) x
    → best' ≡ (if b then lesser best (line x) else best) → best' ≡ fold lesser first (broken line breaks (take (i + 1) xs))
least_next line breaks first xs i x best best' b low at before tested is =
    is
    ∙ ap (λ t. if t then lesser best (line x) else best) tested
    ∙ ap (λ o. if breaks (take i xs) x then lesser o (line x) else o) before
    ∙ sym (broken_next line breaks first xs i x low at)

-- whether a test holds of one of the first i + 1 items, from the first i
pub any_next : {A : Type 0} (test : A → Bool) (xs : List A) (i : ℕ) (x : A) → i < length xs → x ≡ get_or xs i x
    → list_any test (take (i + 1) xs) ≡ (list_any test (take i xs) || test x)
any_next test xs i x low at =
    ap (list_any test) (take_more xs i x low ∙ ap (λ y. take i xs ++ y ∷ []) (sym at))
    ∙ list_any-append test (take i xs) (x ∷ [])
    ∙ ap (λ b. list_any test (take i xs) || b) (or-false (test x))

-- where no line is, the rule is kept at the first item, and at the others
pub unbroken : (b : Bool) (line : ℕ) (rest : List ℕ) → (if b then line ∷ [] else []) ++ rest ≡ [] → (b ≡ false) × (rest ≡ [])
unbroken true line rest e = absurd (cc)
unbroken false line rest e = (refl, e)

-- where no item leaves a line, none breaks the rule against those before it
unbroken_after : {A : Type 0} (line : A → ℕ) (breaks : List A → A → Bool) (earlier xs : List A) → broken_after line breaks earlier xs ≡ []
    → (i : ℕ) (x : A) → slice_get xs i ≡ Some x → breaks (earlier ++ take i xs) x ≡ false
unbroken_after line breaks earlier [] e i x at = absurd (cc)
unbroken_after line breaks earlier (y ∷ xs) e zero x at =
    let same : y ≡ x = cc in
    let parts = unbroken (breaks earlier y) (line y) (broken_after line breaks (earlier ++ y ∷ []) xs) e in
    ap (λ seen. breaks seen x) (append-nil earlier) ∙ ap (breaks earlier) (sym same) ∙ parts.0
unbroken_after line breaks earlier (y ∷ xs) e (suc i) x at =
    let parts = unbroken (breaks earlier y) (line y) (broken_after line breaks (earlier ++ y ∷ []) xs) e in
    ap (λ seen. breaks seen x) (sym (append_assoc earlier (y ∷ []) (take i xs))) ∙ unbroken_after line breaks (earlier ++ y ∷ []) xs parts.1 i x at

-- where no line is, the rule is kept at each place
pub kept_at : {A : Type 0} (line : A → ℕ) (breaks : List A → A → Bool) (xs : List A) → broken line breaks xs ≡ [] → (i : ℕ) (x : A) → slice_get xs i ≡ Some x → breaks (take i xs) x ≡ false
kept_at line breaks xs e i x at = unbroken_after line breaks [] xs e i x at
