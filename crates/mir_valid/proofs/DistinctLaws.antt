-- Lists of names in which no two are equal.
use Rattle.std.proofs.Common.{◌≡◌, ℕ, ◌<◌, ◌≤◌, Bool, true, false, nat_lt, if◌then◌else◌, List, [], ◌∷◌, ◌++◌, map, fold, length, slice_get, Some, refl, ap, sym, ◌∙◌, subst, append_assoc, length-append, arith, ltb-true, ltb-false}
use Rattle.std.proofs.lemmas.List.{append-nil, map-append}
use Rattle.mir_base.specs.ItemLaws.{get_left, get_last}
use Rattle.mir_base.specs.Shapes.{AllDiffer}
use Rattle.mir_parse.specs.declared.raw.RawGlobal.{RawGlobal}
use Rattle.mir_valid.specs.Names.{has_name}
use Rattle.mir_valid.specs.Rules.{broken_after, broken, global_names, same_global_lines}
use Rattle.mir_valid.specs.Numbered.{with_name, global_variables}
use Rattle.mir_valid.specs.NameLaws.{has_at}
use Rattle.mir_valid.proofs.BrokenLaws.{unbroken}

-- a new name behind names that differ
pub differ_push : (xs : List (List ℕ)) (x : List ℕ) → AllDiffer xs → has_name xs x ≡ false → AllDiffer (xs ++ x ∷ [])
differ_push xs x differ new = λ i j low_i low_j same. by i j (nat_lt i (length xs)) (nat_lt j (length xs)) refl refl low_i low_j same
  where
    last : (i : ℕ) → nat_lt i (length xs) ≡ false → i < length (xs ++ x ∷ []) → i ≡ length xs
    last i high low = let above : length xs ≤ i = ltb-false i (length xs) high in omega (arith, above, low, length-append xs (x ∷ []))

    apart : (i j : ℕ) → nat_lt i (length xs) ≡ true → j ≡ length xs → slice_get (xs ++ x ∷ []) i ≡ slice_get (xs ++ x ∷ []) j → ⊥
    apart i j low is_last same =
        let at : slice_get xs i ≡ Some x = sym (get_left xs (x ∷ []) i (ltb-true i (length xs) low)) ∙ same ∙ ap (slice_get (xs ++ x ∷ [])) is_last ∙ get_last xs x in
        let e = sym (has_at xs i x at) ∙ new in
        cc

    by : (i j : ℕ) (b c : Bool) → nat_lt i (length xs) ≡ b → nat_lt j (length xs) ≡ c → i < length (xs ++ x ∷ []) → j < length (xs ++ x ∷ [])
        → slice_get (xs ++ x ∷ []) i ≡ slice_get (xs ++ x ∷ []) j → i ≡ j
    by i j true true is_i is_j low_i low_j same =
        let low_i' : i < length xs = ltb-true i (length xs) is_i in
        let low_j' : j < length xs = ltb-true j (length xs) is_j in
        differ i j low_i' low_j' (sym (get_left xs (x ∷ []) i low_i') ∙ same ∙ get_left xs (x ∷ []) j low_j')
    by i j true false is_i is_j low_i low_j same = absurd (apart i j is_i (last j is_j low_j) same)
    by i j false true is_i is_j low_i low_j same = absurd (apart j i is_j (last i is_i low_i) (sym same))
    by i j false false is_i is_j low_i low_j same = last i is_i low_i ∙ sym (last j is_j low_j)

-- no two of no names are equal
differ_nil : AllDiffer {A = List ℕ} []
differ_nil = λ i j low_i low_j same. absurd (omega (arith, low_i))

-- a name joins the list only if it is new, so no two become equal
differ_with : (vars : List (List ℕ)) (x : List ℕ) → AllDiffer vars → AllDiffer (with_name vars x)
differ_with vars x differ = by (has_name vars x) refl
  where
    by : (b : Bool) → has_name vars x ≡ b → AllDiffer (with_name vars x)
    by true e = subst (λ (b : Bool). AllDiffer (if b then vars else vars ++ x ∷ [])) (sym e) differ
    by false e = subst (λ (b : Bool). AllDiffer (if b then vars else vars ++ x ∷ [])) (sym e) (differ_push vars x differ e)

-- names that join one after the other keep the list without equal ones
pub differ_fold : (names vars : List (List ℕ)) → AllDiffer vars → AllDiffer (fold with_name vars names)
differ_fold [] vars differ = differ
differ_fold (x ∷ names) vars differ = differ_fold names (with_name vars x) (differ_with vars x differ)

-- the names that one pass finds differ
pub differ_variables : (names : List (List ℕ)) → AllDiffer (fold with_name [] names)
differ_variables names = differ_fold names [] differ_nil

-- items of which none has an earlier one's name have names that differ, behind names that differ
differ_after : {A : Type 0} (name : A → List ℕ) (line : A → ℕ) (earlier xs : List A) → AllDiffer (map name earlier)
    → broken_after line (λ before y. has_name (map name before) (name y)) earlier xs ≡ [] → AllDiffer (map name (earlier ++ xs))
differ_after name line earlier [] differ e = subst (λ (ys : List _). AllDiffer (map name ys)) (sym (append-nil earlier)) differ
differ_after name line earlier (x ∷ xs) differ e =
    let parts = unbroken (has_name (map name earlier) (name x)) (line x) (broken_after line (λ before y. has_name (map name before) (name y)) (earlier ++ x ∷ []) xs) e in
    let pushed : AllDiffer (map name (earlier ++ x ∷ [])) = subst AllDiffer (sym (map-append name earlier (x ∷ []))) (differ_push (map name earlier) (name x) differ parts.0) in
    subst (λ (ys : List _). AllDiffer (map name ys)) (append_assoc earlier (x ∷ []) xs) (differ_after name line (earlier ++ x ∷ []) xs pushed parts.1)

-- where no item has the name of an earlier one, the names differ
pub differ_unbroken : {A : Type 0} (name : A → List ℕ) (line : A → ℕ) (xs : List A) → broken line (λ before y. has_name (map name before) (name y)) xs ≡ [] → AllDiffer (map name xs)
differ_unbroken name line xs e = differ_after name line [] xs differ_nil e

-- ---- globals

-- where no global line names an earlier global, each name is added
globals_after : (earlier globals : List RawGlobal) → broken_after (λ g. g.line) (λ before g. has_name (global_names before) g.name) earlier globals ≡ [] → fold with_name (global_names earlier) (global_names globals) ≡ global_names (earlier ++ globals)
globals_after earlier [] e = ap global_names (sym (append-nil earlier))
globals_after earlier (g ∷ globals) e =
    let parts = unbroken (has_name (global_names earlier) g.name) g.line (broken_after (λ g. g.line) (λ before g. has_name (global_names before) g.name) (earlier ++ g ∷ []) globals) e in
    ap (λ b. fold with_name (if b then global_names earlier else global_names earlier ++ g.name ∷ []) (global_names globals)) parts.0
    ∙ ap (λ names. fold with_name names (global_names globals)) (sym (map-append (λ g. g.name) earlier (g ∷ [])))
    ∙ globals_after (earlier ++ g ∷ []) globals parts.1
    ∙ ap global_names (append_assoc earlier (g ∷ []) globals)

-- so the first variables are the globals
pub globals_are : (globals : List RawGlobal) → same_global_lines globals ≡ [] → global_variables globals ≡ global_names globals
globals_are globals e = globals_after [] globals e
