-- In valid units the receives stand first, so their number is the number of those that stand first.
use Rattle.std.proofs.Common.{◌≡◌, ℕ, zero, suc, ◌+◌, ◌<◌, Bool, true, false, ◌&&◌, ◌||◌, not, is_some, cond, count_by, List, [], ◌∷◌, ◌++◌, length, take, slice_get, Some, refl, ap, sym, ◌∙◌, subst, arith}
use Rattle.std.proofs.Math.Bool.{or-true}
use Rattle.std.specs.List.{list_any}
use Rattle.std.proofs.lemmas.List.Sums.{sum_by-append}
use Rattle.std.proofs.lemmas.List.Folds.{list_any-append}
use Rattle.mir_base.specs.Shapes.{receives_in}
use Rattle.mir_base.specs.declared.instructions.Inst.{Inst}
use Rattle.mir_parse.specs.declared.raw.RawForm.{RawForm}
use Rattle.mir_parse.specs.declared.raw.RawForm.TheVariants.{Receive}
use Rattle.mir_parse.specs.declared.raw.RawInst.{RawInst}
use Rattle.mir_parse.specs.declared.raw.RawLabel.{RawLabel}
use Rattle.mir_valid.specs.Rules.{broken_after, broken, received_by, is_receive, is_other, has_label_before, is_late}
use Rattle.mir_valid.specs.Numbered.{Numbers, numbered_form, numbered_body}
use Rattle.std.proofs.lemmas.Bool.{not-false, or_parts}
use Rattle.mir_valid.proofs.BrokenLaws.{unbroken, kept_at}

-- a receive at the head is one more leading receive, and another instruction there leaves none
lead_receive : (numbers : Numbers) (form : RawForm) (insts : List Inst) → is_some (received_by form) ≡ true → receives_in (numbered_form numbers form ∷ insts) ≡ suc (receives_in insts)
lead_receive numbers (Receive x) insts e = refl
lead_receive numbers form insts e = absurd (cc)

-- no receive leads where another instruction stands at the head
lead_other : (numbers : Numbers) (form : RawForm) (insts : List Inst) → is_some (received_by form) ≡ false → receives_in (numbered_form numbers form ∷ insts) ≡ 0
lead_other numbers (Receive x) insts e = absurd (cc)
lead_other numbers form insts e = refl

-- there is a receive at each place before the number of leading receives
pub lead_at : (numbers : Numbers) (body : List RawInst) (i : ℕ) → i < receives_in (numbered_body numbers body) → (inst : RawInst) × (slice_get body i ≡ Some inst) × (is_receive inst ≡ true)
lead_at numbers [] i low = absurd (omega (arith, low))
lead_at numbers (first ∷ body) i low = by (is_receive first) refl i low (lead_at numbers body)
  where
    here : is_receive first ≡ true → (i : ℕ) → i < receives_in (numbered_body numbers (first ∷ body))
        → ((i : ℕ) → i < receives_in (numbered_body numbers body) → (inst : RawInst) × (slice_get body i ≡ Some inst) × (is_receive inst ≡ true))
        → (inst : RawInst) × (slice_get (first ∷ body) i ≡ Some inst) × (is_receive inst ≡ true)
    here is zero low later = (first, refl, is)
    here is (suc i) low later = later i (omega (arith, low, lead_receive numbers first.form (numbered_body numbers body) is))

    by : (b : Bool) → is_receive first ≡ b → (i : ℕ) → i < receives_in (numbered_body numbers (first ∷ body))
        → ((i : ℕ) → i < receives_in (numbered_body numbers body) → (inst : RawInst) × (slice_get body i ≡ Some inst) × (is_receive inst ≡ true))
        → (inst : RawInst) × (slice_get (first ∷ body) i ≡ Some inst) × (is_receive inst ≡ true)
    by true is i low later = here is i low later
    by false is i low later = absurd (omega (arith, low, lead_other numbers first.form (numbered_body numbers body) is))

-- a receive that only receives stand before is among the leading ones
pub is_lead : (numbers : Numbers) (body : List RawInst) (i : ℕ) (inst : RawInst) → slice_get body i ≡ Some inst → is_receive inst ≡ true → list_any is_other (take i body) ≡ false
    → i < receives_in (numbered_body numbers body)
is_lead numbers [] i inst at is none = absurd (cc)
is_lead numbers (first ∷ body) zero inst at is none =
    let same : first ≡ inst = cc in
    omega (arith, lead_receive numbers first.form (numbered_body numbers body) (ap is_receive same ∙ is))
is_lead numbers (first ∷ body) (suc i) inst at is none =
    let parts = or_parts (is_other first) (list_any is_other (take i body)) none in
    omega (arith, is_lead numbers body i inst at is parts.1, lead_receive numbers first.form (numbered_body numbers body) (not-false (is_receive first) parts.0))

-- an instruction in front is counted if it is a receive
count_cons : (inst : RawInst) (body : List RawInst) (b : Bool) → is_receive inst ≡ b → count_by is_receive (inst ∷ body) ≡ cond b 1 0 + count_by is_receive body
count_cons inst body b is =
    let n : 0 + cond (is_receive inst) 1 0 ≡ cond b 1 0 = ap (λ b. 0 + cond b 1 0) is ∙ omega arith in
    sum_by-append (λ i. cond (is_receive i) 1 0) (inst ∷ []) body ∙ ap (λ k. k + count_by is_receive body) n

-- no receive follows another kind of instruction
none_later : (labels : List RawLabel) (earlier body : List RawInst) → list_any is_other earlier ≡ true → broken_after (λ inst. inst.line) (is_late labels) earlier body ≡ [] → count_by is_receive body ≡ 0
none_later labels earlier [] other e = refl
none_later labels earlier (inst ∷ body) other e =
    let parts = unbroken (is_late labels earlier inst) inst.line (broken_after (λ inst. inst.line) (is_late labels) (earlier ++ inst ∷ []) body) e in
    let other' : list_any is_other (earlier ++ inst ∷ []) ≡ true = list_any-append is_other earlier (inst ∷ []) ∙ ap (λ b. b || (is_other inst || false)) other in
    by (is_receive inst) refl parts.0 (none_later labels (earlier ++ inst ∷ []) body other' parts.1)
  where
    by : (b : Bool) → is_receive inst ≡ b → is_late labels earlier inst ≡ false → count_by is_receive body ≡ 0 → count_by is_receive (inst ∷ body) ≡ 0
    by true is late later =
        let e' = sym (ap (λ b. b && (list_any is_other earlier || has_label_before labels (length earlier))) is ∙ ap (λ b. b || has_label_before labels (length earlier)) other) ∙ late in
        absurd (cc)
    by false is late later = count_cons inst body false is ∙ omega (arith, later)

-- where no receive is late, the leading receives are as many as there are receives
lead_count_after : (numbers : Numbers) (labels : List RawLabel) (earlier body : List RawInst) → broken_after (λ inst. inst.line) (is_late labels) earlier body ≡ []
    → receives_in (numbered_body numbers body) ≡ count_by is_receive body
lead_count_after numbers labels earlier [] e = refl
lead_count_after numbers labels earlier (inst ∷ body) e =
    let parts = unbroken (is_late labels earlier inst) inst.line (broken_after (λ inst. inst.line) (is_late labels) (earlier ++ inst ∷ []) body) e in
    by (is_receive inst) refl parts.1 (lead_count_after numbers labels (earlier ++ inst ∷ []) body parts.1)
  where
    by : (b : Bool) → is_receive inst ≡ b → broken_after (λ inst. inst.line) (is_late labels) (earlier ++ inst ∷ []) body ≡ []
        → receives_in (numbered_body numbers body) ≡ count_by is_receive body → receives_in (numbered_body numbers (inst ∷ body)) ≡ count_by is_receive (inst ∷ body)
    by true is rest later = omega (arith, lead_receive numbers inst.form (numbered_body numbers body) is, count_cons inst body true is, later)
    by false is rest later =
        let other : list_any is_other (earlier ++ inst ∷ []) ≡ true =
        list_any-append is_other earlier (inst ∷ []) ∙ ap (λ b. list_any is_other earlier || (not b || false)) is ∙ or-true (list_any is_other earlier) in
        omega (arith, lead_other numbers inst.form (numbered_body numbers body) is, count_cons inst body false is, none_later labels (earlier ++ inst ∷ []) body other rest)

-- the leading receives are all the receives
pub lead_count : (numbers : Numbers) (labels : List RawLabel) (body : List RawInst) → broken (λ inst. inst.line) (is_late labels) body ≡ []
    → receives_in (numbered_body numbers body) ≡ count_by is_receive body
lead_count numbers labels body e = lead_count_after numbers labels [] body e

-- a receive that is not late has only receives, and no label, before it
pub not_late : (labels : List RawLabel) (body : List RawInst) (i : ℕ) (inst : RawInst) → broken (λ inst. inst.line) (is_late labels) body ≡ [] → slice_get body i ≡ Some inst
    → is_receive inst ≡ true → (list_any is_other (take i body) ≡ false) × (has_label_before labels (length (take i body)) ≡ false)
not_late labels body i inst e at is =
    let other = list_any is_other (take i body) in
    let label = has_label_before labels (length (take i body)) in
    or_parts other label (subst (λ (b : Bool). (b && (other || label)) ≡ false) is (kept_at (λ inst. inst.line) (is_late labels) body e i inst at))
