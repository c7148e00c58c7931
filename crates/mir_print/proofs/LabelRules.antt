-- The labels of a raw unit are distinct: their numbers rise with their places.
use Rattle.std.proofs.Common.{◌≡◌, ℕ, zero, suc, ◌+◌, ◌<◌, ◌≤◌, ◌^◌, Bool, true, false, List, [], ◌∷◌, ◌++◌, length, decimal, slice_get, Some, refl, sym, ap, ◌∙◌, subst, inl, inr, arith, append_assoc, if◌then◌else◌, add-zero, add-suc, ◌-◌, ◌⊎◌}
use Rattle.std.proofs.lemmas.List.{append-nil, map-append}
use Rattle.std.proofs.lemmas.Fmt.{decimal_injective}
use Rattle.mir_base.specs.declared.instructions.Inst.{Inst}
use Rattle.mir_base.specs.Shapes.{UnitShape}
use Rattle.mir_base.specs.Text.{is_target, targets_below, label}
use Rattle.mir_parse.specs.declared.raw.RawLabel.{RawLabel}
use Rattle.mir_valid.specs.Names.{has_name}
use Rattle.mir_valid.specs.Rules.{broken_after, label_names, same_label_lines}
use Rattle.mir_print.proofs.Raws.{raw_label, raw_labels, raw_unit}
use Rattle.mir_print.proofs.Known.{label_small}
use Rattle.mir_print.proofs.Absent.{name_absent}

-- at a later place at least as many targets lie below
targets_rise : (body : List Inst) (k n : ℕ) → targets_below body k ≤ targets_below body (k + n)
targets_rise body k zero = let same = ap (targets_below body) (add-zero k) in omega (arith, same)
targets_rise body k (suc n) =
    let before = targets_rise body k n in
    let same : targets_below body (k + suc n) ≡ targets_below body (k + n) + (if is_target body (k + n) then 1 else 0) = ap (targets_below body) (add-suc k n) in
    omega (arith, before, same)

-- a place that is jumped to has a lesser number than each later one
label_rises : (body : List Inst) (k place : ℕ) → is_target body k ≡ true → k < place → targets_below body k < targets_below body place
label_rises body k place is low =
    let rise = targets_rise body (suc k) (place - suc k) in
    let same : targets_below body (suc k + (place - suc k)) ≡ targets_below body place = ap (targets_below body) (omega arith) in
    let one : targets_below body (suc k) ≡ targets_below body k + 1 = ap (λ (b : Bool). targets_below body k + (if b then 1 else 0)) is in
    omega (arith, rise, same, one)

-- two places with one label would have one number, and the numbers rise
labels_differ : (body : List Inst) (k place : ℕ) → length body + 1 < 2 ^ 64 → is_target body k ≡ true → k < place → place ≤ length body → label body k ≡ label body place → ⊥
labels_differ body k place few is low within same =
    let digits : decimal (targets_below body k + 1) ≡ decimal (targets_below body place + 1) = cc (same) in
    let equal = decimal_injective (targets_below body k + 1) (targets_below body place + 1) (label_small body k (omega arith) few) (label_small body place within few) digits in
    let rise = label_rises body k place is low in
    omega (arith, equal, rise)

-- these are names of labels of places before this one
EarlierLabels : List Inst → ℕ → List RawLabel → Type 0
EarlierLabels body place earlier = (j : ℕ) (x : List ℕ) → slice_get (label_names earlier) j ≡ Some x → (k : ℕ) × (k < place) × (is_target body k ≡ true) × (x ≡ label body k)

-- an item of a list with one more at its end is an old item or the new one
get_from_push : {A : Type 0} (xs : List A) (y : A) (j : ℕ) (x : A) → slice_get (xs ++ y ∷ []) j ≡ Some x → (slice_get xs j ≡ Some x) ⊎ (x ≡ y)
get_from_push [] y zero x at = inr (cc)
get_from_push [] y (suc j) x at = absurd (cc)
get_from_push (z ∷ xs) y zero x at = inl at
get_from_push (z ∷ xs) y (suc j) x at = get_from_push xs y j x at

-- labels of places before this one are labels of places before the next
earlier_later : (body : List Inst) (place : ℕ) (earlier : List RawLabel) → EarlierLabels body place earlier → EarlierLabels body (suc place) earlier
unfolding EarlierLabels
earlier_later body place earlier known j x at = let found = known j x at in (found.0, omega (arith, found.1), found.2, found.3)

-- the labels before the next place
earlier_more : (body : List Inst) (line place : ℕ) (earlier : List RawLabel) (b : Bool) → is_target body place ≡ b → EarlierLabels body place earlier
    → EarlierLabels body (suc place) (earlier ++ (if b then record { name = label body place; place = place; line = line } ∷ [] else []))
unfolding EarlierLabels
earlier_more body line place earlier false is known = subst (EarlierLabels body (suc place)) (sym (append-nil earlier)) (earlier_later body place earlier known)
earlier_more body line place earlier true is known = λ j x at.
    let l : RawLabel = record { name = label body place; place = place; line = line } in
    let split : slice_get (label_names earlier ++ l.name ∷ []) j ≡ Some x = ap (λ (ns : List (List ℕ)). slice_get ns j) (sym (map-append (λ (k : RawLabel). k.name) earlier (l ∷ []))) ∙ at in
    elim (get_from_push (label_names earlier) l.name j x split) [
      | inl before ↦ (let found = known j x before in (found.0, omega (arith, found.1), found.2, found.3))
      | inr same ↦ (place, omega arith, is, same)
    ]

-- a label has the name of an earlier one
abbrev breaks_label : List RawLabel → RawLabel → Bool
breaks_label earlier l = has_name (label_names earlier) l.name

-- the broken rules of two parts are those of the first, then those of the second behind it
broken_append : {A : Type 0} (line : A → ℕ) (breaks : List A → A → Bool) (earlier xs ys : List A) → broken_after line breaks earlier (xs ++ ys) ≡ broken_after line breaks earlier xs ++ broken_after line breaks (earlier ++ xs) ys
broken_append line breaks earlier [] ys = ap (λ seen. broken_after line breaks seen ys) (sym (append-nil earlier))
broken_append line breaks earlier (x ∷ xs) ys =
    let here : List ℕ = if breaks earlier x then line x ∷ [] else [] in
    ap (λ (l : List ℕ). here ++ l) (broken_append line breaks (earlier ++ x ∷ []) xs ys)
    ∙ sym (append_assoc here (broken_after line breaks (earlier ++ x ∷ []) xs) (broken_after line breaks ((earlier ++ x ∷ []) ++ xs) ys))
    ∙ ap (λ seen. (here ++ broken_after line breaks (earlier ++ x ∷ []) xs) ++ broken_after line breaks seen ys) (append_assoc earlier (x ∷ []) xs)

-- a label that breaks no rule, or that is not there, leaves no line
label_kept : (b : Bool) (l : RawLabel) (earlier : List RawLabel) → (b ≡ true → breaks_label earlier l ≡ false) → broken_after (λ (k : RawLabel). k.line) breaks_label earlier (if b then l ∷ [] else []) ≡ []
label_kept true l earlier new = ap (λ (t : Bool). (if t then l.line ∷ [] else []) ++ []) (new refl)
label_kept false l earlier new = refl

-- the label of a place is none of those of earlier places
label_new : (body : List Inst) (place : ℕ) (earlier : List RawLabel) → length body + 1 < 2 ^ 64 → place ≤ length body → EarlierLabels body place earlier → has_name (label_names earlier) (label body place) ≡ false
unfolding EarlierLabels
label_new body place earlier few within known =
    name_absent (label_names earlier) (label body place) (λ j at. let found = known j (label body place) at in labels_differ body found.0 place few found.2 found.1 within (sym found.3))

-- so no label of a body has the name of an earlier one
labels_apart : (body : List Inst) (insts : List Inst) (line place : ℕ) (earlier : List RawLabel) → length body + 1 < 2 ^ 64 → place + length insts ≤ length body → EarlierLabels body place earlier
    → broken_after (λ (l : RawLabel). l.line) breaks_label earlier (raw_labels body line place insts) ≡ []
labels_apart body [] line place earlier few within known =
    label_kept (is_target body place) (record { name = label body place; place = place; line = line }) earlier (λ _. label_new body place earlier few (omega arith) known)
labels_apart body (inst ∷ insts) line place earlier few within known =
    let here = raw_label body line place in
    broken_append (λ (l : RawLabel). l.line) breaks_label earlier here (raw_labels body (line + 1) (suc place) insts)
    ∙ ap (λ (l : List ℕ). l ++ broken_after (λ (l : RawLabel). l.line) breaks_label (earlier ++ here) (raw_labels body (line + 1) (suc place) insts))
    (label_kept (is_target body place) (record { name = label body place; place = place; line = line }) earlier (λ _. label_new body place earlier few (omega arith) known))
    ∙ labels_apart body insts (line + 1) (suc place) (earlier ++ here) few (omega arith) (earlier_more body line place earlier (is_target body place) refl known)

-- before the first place there is no label
no_earlier : (body : List Inst) → EarlierLabels body 0 []
unfolding EarlierLabels
no_earlier body j x at = absurd (cc)

-- the labels of a printed unit have distinct names
pub no_same_label : (names : List (List ℕ)) (line : ℕ) (unit : UnitShape) → length unit.body + 1 < 2 ^ 64 → same_label_lines (raw_unit names line unit) ≡ []
no_same_label names line unit few = labels_apart unit.body unit.body (line + 1) 0 [] few (omega arith) (no_earlier unit.body)
