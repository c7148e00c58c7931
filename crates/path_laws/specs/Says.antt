-- What combined bits say: a conjunction, a disjunction, a negation, a bit that is not set, and two that say the same.
-- For proofs only, here and above.
use Rattle.std.proofs.Common.{◌≡◌, ◌⊎◌, ◌↔◌, ◌||◌, ◌&&◌, not, Bool, true, false, refl, inl, inr, sym, true≢false}

-- both are set
pub both_say : (a b : Bool) → ((a && b) ≡ true) ↔ ((a ≡ true) × (b ≡ true))
both_say true b = (λ h. (refl, h), λ h. h.1)
both_say false b = (λ h. absurd (true≢false (sym h)), λ h. h.0)

-- one is set
pub either_says : (a b : Bool) → ((a || b) ≡ true) ↔ ((a ≡ true) ⊎ (b ≡ true))
either_says true b = (λ h. inl refl, λ h. refl)
either_says false b = (λ h. inr h, λ h. elim h [ inl on ↦ absurd (true≢false (sym on)) | inr on ↦ on ])

-- it is not set
pub not_says : (a : Bool) → (not a ≡ true) ↔ (a ≡ false)
not_says true = (λ h. sym h, λ h. sym h)
not_says false = (λ h. refl, λ h. refl)

-- it is not so that it is set
pub off_says : (a : Bool) → (a ≡ false) ↔ ((a ≡ true) → ⊥)
off_says true = (λ h on. true≢false h, λ off. absurd (off refl))
off_says false = (λ h on. true≢false (sym on), λ off. refl)

-- bits that say the same are equal
pub same_says : (a b : Bool) → (a ≡ true) ↔ (b ≡ true) → a ≡ b
same_says true b same = sym (same.0 refl)
same_says false true same = same.1 refl
same_says false false same = refl
