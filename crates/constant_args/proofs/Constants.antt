-- Assignments of constants to received variables: one list for the same constants, in range, plain, and without effect
-- where the variables have these values.
use Rattle.std.proofs.Common.{◌≡◌, ◌↔◌, ℕ, zero, suc, ◌+◌, Bool, true, false, ◌||◌, if◌then◌else◌, nat_eq, List, [], ◌∷◌, slice_get, slice_index_or, ℤ, pos, Option, Some, None, refl, sym, ap, ◌∙◌, arith}
use Rattle.std.proofs.lemmas.Bool.{eqb-true}
use Rattle.std.proofs.lemmas.Option.{slice_get_within}
use Rattle.mir_base.specs.declared.instructions.Operand.TheVariants.{Const}
use Rattle.mir_base.specs.declared.instructions.Rhs.TheVariants.{Plain}
use Rattle.mir_base.specs.EqualValues.{with_same}
use Rattle.mir_base.specs.Frames.{Values, with_value}
use Rattle.mir_base.specs.Numbers.{wrapped}
use Rattle.mir_base.specs.Shapes.{AllBelow, AllDiffer}
use Rattle.flow_graph.specs.Machines.{received_from}
use Rattle.flow_graph.specs.Numbering.{is_in}
use Rattle.graph_edit.specs.InsertionRuns.{values_after}
use Rattle.graph_edit.specs.Insertions.{InsertionsBelow}
use Rattle.program_pass.specs.ChainLaws.{ArePlain}
use Rattle.program_pass.specs.EntryLaws.{received_out}
use Rattle.constant_args.specs.ConstantArguments.{constant_puts}

-- ---- one list

-- the lists have the same constants
abbrev SameConstants : List (Option ℤ) → List (Option ℤ) → Type 0
SameConstants first second = (i : ℕ) (c : ℤ) → (slice_get first i ≡ Some (Some c)) ↔ (slice_get second i ≡ Some (Some c))

-- no constants give no assignments
pub puts_none : (received : List ℕ) → constant_puts received [] ≡ []
puts_none [] = refl
puts_none (x ∷ received) = refl

-- the same constants give the same assignments
pub puts_same : (received : List ℕ) (first second : List (Option ℤ)) → SameConstants first second → constant_puts received first ≡ constant_puts received second
puts_same [] first second same = refl
puts_same (x ∷ received) [] [] same = refl
puts_same (x ∷ received) [] (None ∷ second) same = sym (puts_none received) ∙ puts_same received [] second (λ i c. same (suc i) c)
puts_same (x ∷ received) [] (Some c ∷ second) same = let e = (same 0 c).1 refl in cc
puts_same (x ∷ received) (None ∷ first) [] same = puts_same received first [] (λ i c. same (suc i) c) ∙ puts_none received
puts_same (x ∷ received) (None ∷ first) (None ∷ second) same = puts_same received first second (λ i c. same (suc i) c)
puts_same (x ∷ received) (None ∷ first) (Some c ∷ second) same = let e = (same 0 c).1 refl in cc
puts_same (x ∷ received) (Some c ∷ first) [] same = let e = (same 0 c).0 refl in cc
puts_same (x ∷ received) (Some c ∷ first) (None ∷ second) same = let e = (same 0 c).0 refl in cc
puts_same (x ∷ received) (Some c ∷ first) (Some d ∷ second) same =
    let e = (same 0 c).0 refl in
    let one : c ≡ d = cc in
    ap (λ k. record { var = x; rhs = Plain (Const k) } ∷ constant_puts received first) one
    ∙ ap (λ l. record { var = x; rhs = Plain (Const d) } ∷ l) (puts_same received first second (λ i k. same (suc i) k))

-- ---- their shape

-- each is plain
pub puts_plain : (received : List ℕ) (constants : List (Option ℤ)) → ArePlain (constant_puts received constants)
puts_plain [] constants = tt
puts_plain (x ∷ received) [] = tt
puts_plain (x ∷ received) (None ∷ constants) = puts_plain received constants
puts_plain (x ∷ received) (Some c ∷ constants) = ((Const c, refl), puts_plain received constants)

-- and in range, where the received variables are
pub puts_below : (vars : ℕ) (received : List ℕ) (constants : List (Option ℤ)) → AllBelow vars received → InsertionsBelow vars (constant_puts received constants)
puts_below vars [] constants below = tt
puts_below vars (x ∷ received) [] below = tt
puts_below vars (x ∷ received) (None ∷ constants) below = puts_below vars received constants below.1
puts_below vars (x ∷ received) (Some c ∷ constants) below = ((below.0, tt), puts_below vars received constants below.1)

-- ---- their effect

-- a variable gets the value that it has
same_value : (x y : ℕ) (k : ℤ) (v w : Values) → v x ≡ k → w y ≡ v y → with_value x k w y ≡ v y
same_value x y k v w has same = go (nat_eq y x) refl
  where
    go : (b : Bool) → nat_eq y x ≡ b → (if b then k else w y) ≡ v y
    go true e = sym has ∙ ap v (sym (eqb-true y x e))
    go false e = same

-- where the received variables have these values, the assignments change none
pub puts_change_none : (received : List ℕ) (constants : List (Option ℤ)) (v w : Values)
    → ((i x : ℕ) (c : ℤ) → slice_get received i ≡ Some x → slice_get constants i ≡ Some (Some c) → v x ≡ wrapped c)
    → ((y : ℕ) → w y ≡ v y) → (y : ℕ) → values_after (constant_puts received constants) w y ≡ v y
puts_change_none [] constants v w have same y = same y
puts_change_none (x ∷ received) [] v w have same y = same y
puts_change_none (x ∷ received) (None ∷ constants) v w have same y = puts_change_none received constants v w (λ i. have (suc i)) same y
puts_change_none (x ∷ received) (Some c ∷ constants) v w have same y =
    puts_change_none received constants v (with_value x (wrapped c) w) (λ i. have (suc i)) (λ z. same_value x z (wrapped c) v w (have 0 x c refl refl) (same z)) y

-- ---- received variables

-- a number that stands at no place of a list is not in it
not_listed : (x : ℕ) (xs : List ℕ) → ((i : ℕ) → slice_get xs i ≡ Some x → ⊥) → is_in x xs ≡ false
not_listed x [] out = refl
not_listed x (y ∷ ys) out = go (nat_eq y x) refl (not_listed x ys (λ i. out (suc i)))
  where
    go : (b : Bool) → nat_eq y x ≡ b → is_in x ys ≡ false → (b || is_in x ys) ≡ false
    go true e rest = absurd (out 0 (ap Some (eqb-true y x e)))
    go false e rest = rest

-- the first of variables that differ is not among the others
first_out : (x : ℕ) (xs : List ℕ) → AllDiffer (x ∷ xs) → is_in x xs ≡ false
first_out x xs differ = not_listed x xs (λ i at.
    let lt = slice_get_within xs i x at in
    let none : 0 ≡ suc i = differ 0 (suc i) (omega arith) (omega (arith, lt)) (sym at) in
    omega (arith, none))

-- the others differ
others_differ : (x : ℕ) (xs : List ℕ) → AllDiffer (x ∷ xs) → AllDiffer xs
others_differ x xs differ i j lt lt' same = let e : suc i ≡ suc j = differ (suc i) (suc j) (omega (arith, lt)) (omega (arith, lt')) same in omega (arith, e)

-- each received variable has its argument
pub received_value : (received : List ℕ) (k : ℕ) (arguments : List ℤ) (u : Values) → AllDiffer received → (i x : ℕ)
    → slice_get received i ≡ Some x → received_from k received arguments u x ≡ slice_index_or arguments (k + i) (pos 0)
received_value [] k arguments u differ i x at = cc
received_value (y ∷ ys) k arguments u differ zero x at =
    let same : y ≡ x = cc in
    let here : k ≡ k + 0 = omega arith in
    let v : Values = with_value y (slice_index_or arguments k (pos 0)) u in
    ap (received_from (suc k) ys arguments v) (sym same) ∙ received_out ys (suc k) arguments y v (first_out y ys differ)
    ∙ with_same y (slice_index_or arguments k (pos 0)) u ∙ ap (λ n. slice_index_or arguments n (pos 0)) here
received_value (y ∷ ys) k arguments u differ (suc i) x at =
    let next : suc k + i ≡ k + suc i = omega arith in
    received_value ys (suc k) arguments (with_value y (slice_index_or arguments k (pos 0)) u) (others_differ y ys differ) i x at
    ∙ ap (λ n. slice_index_or arguments n (pos 0)) next
