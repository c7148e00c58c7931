-- Laws of insertions in order of their variables: each of them, and their weight. For proofs only, those of sink_rounds
-- too.
use Rattle.std.proofs.Common.{◌≡◌, ℕ, zero, suc, ◌+◌, ◌<◌, ◌≤◌, List, [], ◌∷◌, Option, Some, None, inl, inr, refl, sym, ap, ◌∙◌, subst, arith}
use Rattle.std.proofs.lemmas.Bool.{cases_eq}
use Rattle.mir_base.specs.declared.instructions.Rhs.{Rhs}
use Rattle.graph_edit.specs.Insertions.{Insertion}
use Rattle.graph_edit.specs.Over.{weigh_all}
use Rattle.sink_code.specs.Sinking.{put_for}
use Rattle.sink_code.specs.SunkGraphs.{RisesFrom}
pub use Rattle.sink_code.specs.PutLaws.{put_first, put_rest, put_above, put_later}

-- ---- each of them

-- each insertion of the list is so
abbrev pub EachPut : (ℕ → Rhs → Type 0) → List Insertion → Type 0
EachPut P [] = Unit {0}
EachPut P (put ∷ puts) = P put.var put.rhs × EachPut P puts

-- where it is so of what is put for each variable
pub each_put : (P : ℕ → Rhs → Type 0) (low : ℕ) (puts : List Insertion) → RisesFrom low puts
    → ((x : ℕ) (t : Rhs) → put_for puts x ≡ Some t → P x t) → EachPut P puts
each_put P low [] rises all = tt
each_put P low (put ∷ puts) rises all = (
  all put.var put.rhs (put_first put puts),
  each_put P (suc put.var) puts rises.1 (λ x t is. all x t (put_later put puts x t rises.1 is)),
)

-- ---- the weight

-- the weight of a right side of x, where there is one
abbrev pub weight_of : (ℕ → Rhs → ℕ) → ℕ → Option Rhs → ℕ
weight_of weight x None = 0
weight_of weight x (Some t) = weight x t

-- summed over so many variables from x on
abbrev pub sum_vars : (ℕ → ℕ) → ℕ → ℕ → ℕ
sum_vars f x zero = 0
sum_vars f x (suc count) = f x + sum_vars f (suc x) count

-- a sum of nothing
pub sum_none : (f : ℕ → ℕ) (x count : ℕ) → ((y : ℕ) → x ≤ y → f y ≡ 0) → sum_vars f x count ≡ 0
sum_none f x zero none = refl
sum_none f x (suc count) none = omega (arith, none x (omega arith), sum_none f (suc x) count (λ y le. none y (omega (arith, le))))

-- sums that are equal at each variable
pub sum_same : (f g : ℕ → ℕ) (x count : ℕ) → ((y : ℕ) → x ≤ y → f y ≡ g y) → sum_vars f x count ≡ sum_vars g x count
sum_same f g x zero same = refl
sum_same f g x (suc count) same = omega (arith, same x (omega arith), sum_same f g (suc x) count (λ y le. same y (omega (arith, le))))

-- one sum is at most another, where it is so at each variable
pub sums_le : (f g h k : ℕ → ℕ) (x count : ℕ) → ((y : ℕ) → f y + g y ≤ h y + k y)
    → sum_vars f x count + sum_vars g x count ≤ sum_vars h x count + sum_vars k x count
sums_le f g h k x zero le = omega arith
sums_le f g h k x (suc count) le = omega (arith, le x, sums_le f g h k (suc x) count le)

-- what one variable alone weighs
pub sum_one : (f : ℕ → ℕ) (x count y : ℕ) → x ≤ y → y < x + count
    → ((z : ℕ) → (z ≡ y → ⊥) → f z ≡ 0) → sum_vars f x count ≡ f y
sum_one f x zero y le lt none = absurd (omega (arith, le, lt))
sum_one f x (suc count) y le lt none = elim (cases_eq x y) [
  | inl same ↦ (let rest = sum_none f (suc x) count (λ z above. none z (λ e. omega (arith, e, above, same))) in let here = ap {B = ℕ} f same in omega (arith, rest, here))
  | inr differ ↦ (let rest = sum_one f (suc x) count y (omega (arith, le, differ)) (omega (arith, lt)) none in omega (arith, rest, none x differ))
]

-- the weight of insertions in order is that of what is put for each variable
pub weigh_in_order : (weight : ℕ → Rhs → ℕ) (puts : List Insertion) (x count : ℕ) → RisesFrom x puts
    → EachPut (λ y t. y < x + count) puts
    → weigh_all weight puts ≡ sum_vars (λ y. weight_of weight y (put_for puts y)) x count
weigh_in_order weight [] x count rises below = sym (sum_none (λ y. weight_of weight y None) x count (λ y le. refl))
weigh_in_order weight (put ∷ puts) x zero rises below = absurd (omega (arith, rises.0, below.0))
weigh_in_order weight (put ∷ puts) x (suc count) rises below = elim (cases_eq x put.var) [
  | inl same ↦
      let here : weight_of weight x (put_for (put ∷ puts) x) ≡ weight put.var put.rhs = ap (λ y. weight_of weight y (put_for (put ∷ puts) y)) same ∙ ap (weight_of weight put.var) (put_first put puts) in
      let rest = weigh_in_order weight puts (suc x) count (subst (λ y. RisesFrom (suc y) puts) (sym same) rises.1) (moved puts below.1) in
      let same_rest = sum_same (λ y. weight_of weight y (put_for puts y)) (λ y. weight_of weight y (put_for (put ∷ puts) y)) (suc x) count (λ y le. ap (weight_of weight y) (sym (put_rest put puts y (λ e. omega (arith, e, le, same))))) in
      omega (arith, here, rest, same_rest)
  | inr differ ↦
      let above : suc x ≤ put.var = omega (arith, rises.0, differ) in
      let none = nothing above in
      let rest = weigh_in_order weight (put ∷ puts) (suc x) count (above, rises.1) (moved (put ∷ puts) below) in
      omega (arith, none, rest)
]
  where
    moved : (l : List Insertion) → EachPut (λ y t. y < x + suc count) l → EachPut (λ y t. y < suc x + count) l
    moved [] each = tt
    moved (p ∷ l) each = (omega (arith, each.0), moved l each.1)

    nothing : suc x ≤ put.var → weight_of weight x (put_for (put ∷ puts) x) ≡ 0
    nothing above = by (put_for (put ∷ puts) x) refl
      where
        by : (o : Option Rhs) → put_for (put ∷ puts) x ≡ o → weight_of weight x o ≡ 0
        by None is = refl
        by (Some t) is = (let le = put_above (suc x) (put ∷ puts) x t (above, rises.1) is in absurd (omega (arith, le)))
