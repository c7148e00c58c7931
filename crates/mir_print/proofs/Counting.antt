-- The steps of the loops that mark the places that are jumped to, and count them.
use Rattle.std.proofs.Common.{◌≡◌, ◌≢◌, ℕ, ◌+◌, ◌<◌, ◌≤◌, Bool, true, false, if◌then◌else◌, ◌||◌, nat_eq, List, [], ◌∷◌, ◌++◌, length, get_or, set, take, refl, sym, ap, ◌∙◌, subst, inl, inr, arith, eqb-true, eq-eqb, get_or-set_same, get_or-set_other, length-set, add-one}
use Rattle.std.proofs.lemmas.Bool.{cases_Bool}
use Rattle.std.proofs.lemmas.Bool.Decides.{nat_tests}
use Rattle.std.proofs.lemmas.List.{get_or_at, get_or_append_left}
use Rattle.std.proofs.lemmas.List.Folds.{list_any_more}
use Rattle.std.proofs.Math.Bool.{or-false, or-true}
use Rattle.mir_base.specs.declared.instructions.Inst.{Inst}
use Rattle.mir_base.specs.declared.instructions.Inst.TheVariants.{Goto, If}
use Rattle.mir_base.specs.Text.{jumps_to, is_target, targets_below}
use Rattle.mir_print.specs.Labels.{JumpsBelow, target_marked}

-- one place is at most one
pub at_most_one : (b : Bool) → (if b then 1 else 0) ≤ 1
at_most_one b = grind arith

-- whether a place is jumped to by one of the first i + 1 instructions
target_more : (body : List Inst) (i : ℕ) (inst : Inst) (place : ℕ) → i < length body → inst ≡ get_or body i inst → is_target (take (i + 1) body) place ≡ (is_target (take i body) place || jumps_to place inst)
target_more body i inst place low at = list_any_more (jumps_to place) body i inst low ∙ ap (λ (x : Inst). is_target (take i body) place || jumps_to place x) (sym at)

-- after one more mark a place is marked if it was before or is the one marked now
mark_at : (marks : List Bool) (target place : ℕ) (before : Bool) → target < length marks → get_or marks place false ≡ before → get_or (set marks target true) place false ≡ (before || nat_eq target place)
mark_at marks target place before low is = elim (cases_Bool (nat_eq target place)) [
  | inl same ↦
      let e : target ≡ place = eqb-true target place same in
      ap (λ (k : ℕ). get_or (set marks target true) k false) (sym e) ∙ get_or-set_same marks target true false low ∙ sym (or-true before) ∙ ap (λ (b : Bool). before || b) (sym same)
  | inr differ ↦
      let other : place ≢ target = λ (e : place ≡ target). let here : nat_eq target place ≡ true = subst (λ (k : ℕ). nat_eq target k ≡ true) (sym e) (eq-eqb target target refl) in cc in
      get_or-set_other marks target place true false other ∙ is ∙ sym (or-false before) ∙ ap (λ (b : Bool). before || b) (sym differ)
]

-- an instruction that does not jump to the place leaves the answer for it as it was
no_jump : (body : List Inst) (i : ℕ) (inst : Inst) (marks : List Bool) (place : ℕ) → i < length body → inst ≡ get_or body i inst → jumps_to place inst ≡ false → get_or marks place false ≡ is_target (take i body) place
    → get_or marks place false ≡ is_target (take (i + 1) body) place
no_jump body i inst marks place low at still is =
    is ∙ sym (or-false (is_target (take i body) place)) ∙ ap (λ (b : Bool). is_target (take i body) place || b) (sym still) ∙ sym (target_more body i inst place low at)

-- a jump marks its target, and so the answer for each place is that of one more instruction
jump : (body : List Inst) (i : ℕ) (inst : Inst) (marks : List Bool) (target place : ℕ) → i < length body → inst ≡ get_or body i inst → jumps_to place inst ≡ nat_eq target place → target < length marks
    → get_or marks place false ≡ is_target (take i body) place → get_or (set marks target true) place false ≡ is_target (take (i + 1) body) place
jump body i inst marks target place low at jumps within is =
    mark_at marks target place (is_target (take i body) place) within is ∙ ap (λ (b : Bool). is_target (take i body) place || b) (sym jumps) ∙ sym (target_more body i inst place low at)

-- the marks after one more instruction
pub marked_more : (body : List Inst) (i : ℕ) (inst : Inst) (marks : List Bool) (place : ℕ) → i < length body → inst ≡ get_or body i inst → JumpsBelow (length marks) inst → get_or marks place false ≡ is_target (take i body) place
    → get_or (target_marked marks inst) place false ≡ is_target (take (i + 1) body) place
marked_more body i (Goto target) marks place low at within is = jump body i (Goto target) marks target place low at refl within is
marked_more body i (If test target) marks place low at within is = jump body i (If test target) marks target place low at refl within is
marked_more body i inst marks place low at within is = no_jump body i inst marks place low at refl is

-- marking a place keeps the number of marks
pub length_marked : (marks : List Bool) (inst : Inst) → length (target_marked marks inst) ≡ length marks
length_marked marks (Goto target) = length-set marks target true
length_marked marks (If test target) = length-set marks target true
length_marked marks inst = refl

-- one more count at the end of the list
pub counted_more : (body : List Inst) (counts : List ℕ) (i next : ℕ) → length counts ≡ i + 1 → next ≡ targets_below body (i + 1) → ((place : ℕ) → place ≤ i → get_or counts place 0 ≡ targets_below body place) → (place : ℕ) → place ≤ i + 1 → get_or (counts ++ next ∷ []) place 0 ≡ targets_below body place
counted_more body counts i next many is each place low = elim (cases_Bool (nat_eq place (i + 1))) [
  | inl same ↦ let e : place ≡ i + 1 = eqb-true place (i + 1) same in get_or_at counts next [] 0 place (many ∙ sym e) ∙ is ∙ ap (targets_below body) (sym e)
  | inr differ ↦ let below : place ≤ i = grind (arith, nat_tests) in get_or_append_left counts (next ∷ []) 0 place (omega arith) ∙ each place below
]

-- the count below the next place
pub below_more : (body : List Inst) (i below : ℕ) (mark : Bool) → mark ≡ is_target body i → below ≡ targets_below body i → below + (if mark then 1 else 0) ≡ targets_below body (i + 1)
below_more body i below mark is before =
    ap (λ (n : ℕ). n + (if mark then 1 else 0)) before ∙ ap (λ (b : Bool). targets_below body i + (if b then 1 else 0)) is ∙ sym (ap (targets_below body) (add-one i))
