-- A claim that can be tested may be proved by cases on any statement, also on one that cannot be tested. For proofs
-- only.
use Rattle.std.proofs.Common.{◌≡◌, ◌≤◌, ◌⊎◌, ℕ, Bool, true, false, refl, sym, ◌∙◌, inl, inr, true≢false}
use Rattle.std.proofs.Math.Decide.{dec_le}

-- b says whether P
abbrev pub Is : Bool → Type 0 → Type 0
Is true P = P
Is false P = ¬ P

-- it follows from not being false
abbrev pub Stable : Type 0 → Type 0
Stable A = ¬ (¬ A) → A

-- what can be tested is stable
pub stable_of_dec : {A : Type 0} → Dec A → Stable A
stable_of_dec (yes a) h = a
stable_of_dec (no n) h = absurd (h n)

-- so an inequality of numbers is
pub stable_le : (x y : ℕ) → Stable (x ≤ y)
stable_le x y = stable_of_dec (dec_le x y)

-- that a bit has a value can be tested
pub dec_is : (b v : Bool) → Dec (b ≡ v)
dec_is true true = yes refl
dec_is true false = no true≢false
dec_is false true = no (λ e. true≢false (sym e))
dec_is false false = yes refl

-- and a disjunction of what can be tested
pub dec_or : {A B : Type 0} → Dec A → Dec B → Dec (A ⊎ B)
dec_or (yes a) d = yes (inl a)
dec_or (no n) (yes b) = yes (inr b)
dec_or (no n) (no m) = no (λ h. elim h [ inl a ↦ n a | inr b ↦ m b ])

-- and a conjunction
pub dec_both : {A B : Type 0} → Dec A → Dec B → Dec (A × B)
dec_both (yes a) (yes b) = yes (a, b)
dec_both (yes a) (no n) = no (λ h. n h.1)
dec_both (no n) d = no (λ h. n h.0)

-- by cases on P
pub stable_cases : {A : Type 0} (P : Type 0) → Stable A → (P → A) → (¬ P → A) → A
stable_cases P s f g = s (λ na. na (g (λ p. na (f p))))

-- so P may be taken as a bit
pub decide_bit : {A : Type 0} (P : Type 0) → Stable A → ((b : Bool) → Is b P → A) → A
decide_bit P s f = stable_cases P s (λ p. f true p) (λ n. f false n)

-- by cases on a bit, keeping the equation
pub split_bit : {A : Type 0} (b : Bool) → (b ≡ true → A) → (b ≡ false → A) → A
split_bit true f g = f refl
split_bit false f g = g refl

-- no bit is both set and unset
pub not_both : {A : Type 0} {b : Bool} → b ≡ true → b ≡ false → A
not_both t f = absurd (true≢false (sym t ∙ f))

-- one number is at most another, by cases on P
pub with_bit_le : (P : Type 0) (x y : ℕ) → ((b : Bool) → Is b P → x ≤ y) → x ≤ y
with_bit_le P x y f = decide_bit P (stable_le x y) f
