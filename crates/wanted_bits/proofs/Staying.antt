-- Numbers that stay as they are: a variable is assigned a sum or the like of itself and of what is wanted as much.
use Rattle.std.proofs.Common.{◌≡◌, ◌∙◌, ℕ, ◌≤◌, max, true, true≢false, inl, inr, List, length, slice_set, refl, sym, ap, arith}
use Rattle.std.proofs.lemmas.Bool.{cases_lt}
use Rattle.std.proofs.lemmas.List.{get_or-set_same, set-get_or, set-set, set_past}
use Rattle.mir_base.specs.declared.operators.Op.{Op}
use Rattle.mir_base.specs.declared.operators.Op.TheVariants.{Add, Sub, Mul, Or, Xor}
use Rattle.mir_base.specs.declared.instructions.Operand.{Operand}
use Rattle.mir_base.specs.declared.instructions.Operand.TheVariants.{Var}
use Rattle.mir_base.specs.declared.instructions.Rhs.TheVariants.{Binary}
use Rattle.wanted_bits.specs.Wanted.{wanted_left, wanted_right, wants_both}
use Rattle.wanted_bits.specs.Walking.{bits_at, raised_at, raised_by, raised_own}

-- a number that is at least so much stays
pub stays_at : (bits : List ℕ) (x k : ℕ) → k ≤ bits_at bits x → raised_at bits x k ≡ bits
stays_at bits x k le =
    let same : max (bits_at bits x) k ≡ bits_at bits x = omega (arith, le) in
    ap (slice_set bits x) same ∙ set-get_or bits x 0

-- so many are wanted of both operands
both_left : (op : Op) (b : Operand) (k : ℕ) → wants_both op ≡ true → wanted_left op b k ≡ k
both_left Add b k is = refl
both_left Sub b k is = refl
both_left Mul b k is = refl
both_left Or b k is = refl
both_left Xor b k is = refl
both_left _ b k is = absurd (true≢false (sym is))

both_right : (op : Op) (a : Operand) (k : ℕ) → wants_both op ≡ true → wanted_right op a k ≡ k
both_right Add a k is = refl
both_right Sub a k is = refl
both_right Mul a k is = refl
both_right Or a k is = refl
both_right Xor a k is = refl
both_right _ a k is = absurd (true≢false (sym is))

-- what such an operator wants
pub both_raised : (bits : List ℕ) (op : Op) (a b : Operand) (k : ℕ) → wants_both op ≡ true → raised_by (raised_by bits a k) b k ≡ raised_by (raised_by bits a (wanted_left op b k)) b (wanted_right op a k)
both_raised bits op a b k is = sym (ap (λ n. raised_by (raised_by bits a n) b (wanted_right op a k)) (both_left op b k is) ∙ ap (raised_by (raised_by bits a k) b) (both_right op a k is))

-- a number that is cleared and set again
set_again : (bits : List ℕ) (x k : ℕ) → k ≡ bits_at bits x → raised_at (slice_set bits x 0) x k ≡ bits
set_again bits x k is = elim (cases_lt x (length bits)) as (λ _. raised_at (slice_set bits x 0) x k ≡ bits) [
  | inl lt ↦
      let none : bits_at (slice_set bits x 0) x ≡ 0 = get_or-set_same bits x 0 0 lt in
      let same : max (bits_at (slice_set bits x 0) x) k ≡ bits_at bits x = omega (arith, none, is) in
      ap (slice_set (slice_set bits x 0) x) same ∙ set-set bits x 0 (bits_at bits x) ∙ set-get_or bits x 0
  | inr ge ↦ ap (λ (l : List ℕ). raised_at l x k) (set_past bits x 0 ge) ∙ stays_at bits x k (omega (arith, is))
]

-- all stay
pub all_stay : (bits : List ℕ) (x : ℕ) (op : Op) (a b : Operand) (k : ℕ) → k ≡ bits_at bits x → a ≡ Var x → wants_both op ≡ true → raised_by bits b k ≡ bits → bits ≡ raised_own (slice_set bits x 0) (Binary op a b) k
all_stay bits x op a b k number same is other =
    sym (sym (both_raised (slice_set bits x 0) op a b k is)
    ∙ ap (λ o. raised_by (raised_by (slice_set bits x 0) o k) b k) same ∙ ap (λ (l : List ℕ). raised_by l b k) (set_again bits x k number) ∙ other)
