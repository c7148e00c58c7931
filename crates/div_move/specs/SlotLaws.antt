-- The laws of known slots, ordered by implication. Cited by the ghost members of `Slots`.
use Rattle.std.proofs.Common.{◌≡◌, ◌≢◌, ◌⊎◌, ◌+◌, ◌<◌, ◌≤◌, Bool, true, false, List, [], ◌∷◌, length, inl, inr, ap, ◌∙◌, arith}
use Rattle.std.proofs.lemmas.Bool.{or_left, or_right}
use Rattle.fix_solve.specs.Order.{IsLeastUpper, OrderLaws}
use Rattle.fix_solve.specs.Pointwise.{pointwise_antisym, pointwise_length, pointwise_refl, pointwise_rises, pointwise_trans}
use Rattle.flow_graph.specs.Sums.{one_if}
use Rattle.path_laws.specs.OrderLaws.{bit_rises, or_least, same_bit}
use Rattle.div_move.specs.Slots.{BelowSlot, BelowSlots, or_pairs, slot_rank, slots_rank}

-- ---- an order

-- pairs of bits that imply each other are equal
same_slot : (x y : Bool × Bool) → BelowSlot x y → BelowSlot y x → x ≡ y
same_slot x y p q = ap (λ a. (a, x.1)) (same_bit x.0 y.0 p.0 q.0) ∙ ap (λ b. (y.0, b)) (same_bit x.1 y.1 p.1 q.1)

-- a pair of bits that implies another is equal to it, or counts less
slot_rises : (x y : Bool × Bool) → BelowSlot x y → (x ≡ y) ⊎ (slot_rank x < slot_rank y)
slot_rises x y h = both (bit_rises x.0 y.0 h.0) (bit_rises x.1 y.1 h.1)
  where
    both : (x.0 ≡ y.0) ⊎ (one_if x.0 < one_if y.0) → (x.1 ≡ y.1) ⊎ (one_if x.1 < one_if y.1) → (x ≡ y) ⊎ (one_if x.0 + one_if x.1 < one_if y.0 + one_if y.1)
    both (inl p) (inl q) = inl (ap (λ a. (a, x.1)) p ∙ ap (λ b. (y.0, b)) q)
    both (inl p) (inr q) = inr (omega (arith, ap one_if p, q))
    both (inr p) (inl q) = inr (omega (arith, p, ap one_if q))
    both (inr p) (inr q) = inr (omega (arith, p, q))

-- values that lie below others and differ from them have fewer known slots
rises_strictly : (xs ys : List (Bool × Bool)) → BelowSlots xs ys → xs ≢ ys → slots_rank xs < slots_rank ys
rises_strictly xs ys p d = elim (pointwise_rises BelowSlot slot_rank slot_rises xs ys p) as (λ _. slots_rank xs < slots_rank ys) [ inl e ↦ absurd (d e) | inr l ↦ l ]

-- these are values that can be solved for
pub slots_laws : OrderLaws BelowSlots length slots_rank
slots_laws = record {
  reflexive = pointwise_refl BelowSlot (λ x. (λ h. h, λ h. h));
  transitive = pointwise_trans BelowSlot (λ x y z p q. (λ h. q.0 (p.0 h), λ h. q.1 (p.1 h)));
  antisymmetric = pointwise_antisym BelowSlot same_slot;
  same_size = pointwise_length BelowSlot;
  rises = rises_strictly;
}

-- no more than two slots of each are known
pub slots_rank_le : (xs : List (Bool × Bool)) → slots_rank xs ≤ length xs + length xs
slots_rank_le [] = omega arith
slots_rank_le (x ∷ xs) = let a = slots_rank_le xs in let b = one_le x.0 in let c = one_le x.1 in omega (arith, a, b, c)
  where
    one_le : (b : Bool) → one_if b ≤ 1
    one_le true = omega arith
    one_le false = omega arith

-- ---- the least upper bound

-- what is known in either lies above the first
below_left : (xs ys : List (Bool × Bool)) → length xs ≡ length ys → BelowSlots xs (or_pairs xs ys)
below_left [] ys e = tt
below_left (x ∷ xs) [] e = absurd (omega (arith, e))
below_left (x ∷ xs) (y ∷ ys) e = ((or_left x.0 y.0, or_left x.1 y.1), below_left xs ys (omega (arith, e)))

-- and above the second
below_right : (xs ys : List (Bool × Bool)) → length xs ≡ length ys → BelowSlots ys (or_pairs xs ys)
below_right [] [] e = tt
below_right [] (y ∷ ys) e = absurd (omega (arith, e))
below_right (x ∷ xs) [] e = absurd (omega (arith, e))
below_right (x ∷ xs) (y ∷ ys) e = ((or_right x.0 y.0, or_right x.1 y.1), below_right xs ys (omega (arith, e)))

-- and below whatever lies above both
below_least : (xs ys zs : List (Bool × Bool)) → BelowSlots xs zs → BelowSlots ys zs → BelowSlots (or_pairs xs ys) zs
below_least [] ys zs p q = p
below_least (x ∷ xs) [] [] p q = absurd p
below_least (x ∷ xs) [] (z ∷ zs) p q = absurd q
below_least (x ∷ xs) (y ∷ ys) [] p q = absurd p
below_least (x ∷ xs) (y ∷ ys) (z ∷ zs) p q = ((or_least x.0 y.0 z.0 p.0.0 q.0.0, or_least x.1 y.1 z.1 p.0.1 q.0.1), below_least xs ys zs p.1 q.1)

-- what is known in either is the least upper bound
pub or_pairs_join : (xs ys : List (Bool × Bool)) → length xs ≡ length ys → IsLeastUpper BelowSlots xs ys (or_pairs xs ys)
or_pairs_join xs ys e = record { left = below_left xs ys e; right = below_right xs ys e; least = below_least xs ys }
