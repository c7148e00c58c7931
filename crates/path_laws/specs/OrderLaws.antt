-- The laws of rows ordered by implication. Cited by the ghost members of `Bits`; those of single bits are for proofs of
-- the crates above too.
use Rattle.std.specs.Prelude.{◌≡◌, ◌≢◌, ◌<◌, ◌≤◌, Bool, true, false, not, ◌||◌, ◌&&◌, List, [], ◌∷◌, length, refl}
use Rattle.std.proofs.lemmas.Bool.{and_parts, or_left, or_right}
use Rattle.std.proofs.Common.{ℕ, zero, suc, get_or, sym, ◌∙◌, ◌⊎◌, inl, inr, arith}
use Rattle.fix_solve.specs.Order.{OrderLaws, IsLeastUpper}
use Rattle.bit_rows.specs.BitLaws.{length_minus}
use Rattle.bit_rows.specs.Bits.{or_bits, minus_bits}
use Rattle.fix_solve.specs.Pointwise.{pointwise_antisym, pointwise_length, pointwise_refl, pointwise_rises, pointwise_trans}
use Rattle.flow_graph.specs.Sums.{one_if}
use Rattle.path_laws.specs.Order.{BelowBits, BelowBit, trues}

-- the order is reflexive
pub below_refl : (xs : List Bool) → BelowBits xs xs
below_refl = pointwise_refl BelowBit (λ x h. h)

-- and transitive
pub below_trans : (xs ys zs : List Bool) → BelowBits xs ys → BelowBits ys zs → BelowBits xs zs
below_trans = pointwise_trans BelowBit (λ x y z p q h. q (p h))

-- place by place
pub below_bit : (xs ys : List Bool) (k : ℕ) → BelowBits xs ys → get_or xs k false ≡ true → get_or ys k false ≡ true
below_bit [] ys k p h = absurd (cc)
below_bit (x ∷ xs) [] k p h = absurd p
below_bit (x ∷ xs) (y ∷ ys) zero p h = p.0 h
below_bit (x ∷ xs) (y ∷ ys) (suc k) p h = below_bit xs ys k p.1 h

-- bits that imply each other are equal
pub same_bit : (x y : Bool) → BelowBit x y → BelowBit y x → x ≡ y
same_bit true y p q = sym (p refl)
same_bit false true p q = q refl
same_bit false false p q = refl

-- so the order is antisymmetric
pub below_antisym : (xs ys : List Bool) → BelowBits xs ys → BelowBits ys xs → xs ≡ ys
below_antisym = pointwise_antisym BelowBit same_bit

-- only rows of one length are in order
pub below_length : (xs ys : List Bool) → BelowBits xs ys → length xs ≡ length ys
below_length = pointwise_length BelowBit

-- a bit that implies another and differs from it is false, and the other is true
pub bit_rises : (x y : Bool) → BelowBit x y → (x ≡ y) ⊎ (one_if x < one_if y)
bit_rises true true h = inl refl
bit_rises true false h = let bad : false ≡ true = h refl in absurd (cc)
bit_rises false true h = inr (omega arith)
bit_rises false false h = inl refl

-- the number of true places rises, and the rows are the same or it rises strictly
trues_rise : (xs ys : List Bool) → BelowBits xs ys → (xs ≡ ys) ⊎ (trues xs < trues ys)
trues_rise = pointwise_rises BelowBit one_if bit_rises

-- a row that lies below another and differs from it has fewer true bits
trues_rise_strictly : (xs ys : List Bool) → BelowBits xs ys → xs ≢ ys → trues xs < trues ys
trues_rise_strictly xs ys p d = elim (trues_rise xs ys p) as (λ _. trues xs < trues ys) [ inl e ↦ absurd (d e) | inr l ↦ l ]

-- so these are values that can be solved for
pub bits_laws : OrderLaws BelowBits length trues
bits_laws = record { reflexive = below_refl; transitive = below_trans; antisymmetric = below_antisym; same_size = below_length; rises = trues_rise_strictly }

-- the disjunction implies whatever both of its parts imply
pub or_least : (x y z : Bool) → BelowBit x z → BelowBit y z → BelowBit (x || y) z
or_least true y z p q h = p refl
or_least false y z p q h = q h

-- so the disjunction of two rows lies above the first
below_or_left : (xs ys : List Bool) → length xs ≡ length ys → BelowBits xs (or_bits xs ys)
below_or_left [] ys e = tt
below_or_left (x ∷ xs) [] e = absurd (omega (arith, e))
below_or_left (x ∷ xs) (y ∷ ys) e = (or_left x y, below_or_left xs ys (let e' : suc (length xs) ≡ suc (length ys) = e in omega arith))

-- and above the second
below_or_right : (xs ys : List Bool) → length xs ≡ length ys → BelowBits ys (or_bits xs ys)
below_or_right [] [] e = tt
below_or_right [] (y ∷ ys) e = absurd (omega (arith, e))
below_or_right (x ∷ xs) [] e = absurd (omega (arith, e))
below_or_right (x ∷ xs) (y ∷ ys) e = (or_right x y, below_or_right xs ys (let e' : suc (length xs) ≡ suc (length ys) = e in omega arith))

-- and below each row that lies above both
below_or_least : (xs ys zs : List Bool) → BelowBits xs zs → BelowBits ys zs → BelowBits (or_bits xs ys) zs
below_or_least [] ys zs p q = p
below_or_least (x ∷ xs) [] [] p q = absurd p
below_or_least (x ∷ xs) [] (z ∷ zs) p q = absurd q
below_or_least (x ∷ xs) (y ∷ ys) [] p q = absurd p
below_or_least (x ∷ xs) (y ∷ ys) (z ∷ zs) p q = (or_least x y z p.0 q.0, below_or_least xs ys zs p.1 q.1)

-- the disjunction is the least upper bound
pub or_joins : (xs ys : List Bool) → length xs ≡ length ys → IsLeastUpper BelowBits xs ys (or_bits xs ys)
or_joins xs ys e = record {
  left = below_or_left xs ys e;
  right = below_or_right xs ys e;
  least = below_or_least xs ys;
}

-- taking away the same bit from two keeps their order
minus_up : (x y s : Bool) → (x ≡ true → y ≡ true) → (x && not s) ≡ true → (y && not s) ≡ true
minus_up true y s p h = rw (p refl) h
minus_up false y s p h = absurd (cc)

-- taking bits away keeps the order
pub minus_mono : (xs ys s : List Bool) → BelowBits xs ys → BelowBits (minus_bits xs s) (minus_bits ys s)
minus_mono [] [] s p = tt
minus_mono [] (y ∷ ys) s p = absurd p
minus_mono (x ∷ xs) [] s p = absurd p
minus_mono (x ∷ xs) (y ∷ ys) [] p = tt
minus_mono (x ∷ xs) (y ∷ ys) (t ∷ s) p = (minus_up x y t p.0, minus_mono xs ys s p.1)

-- no more bits are true than there are
pub trues_le : (xs : List Bool) → trues xs ≤ length xs
trues_le [] = omega arith
trues_le (true ∷ xs) = let a : trues xs ≤ length xs = trues_le xs in omega arith
trues_le (false ∷ xs) = let a : trues xs ≤ length xs = trues_le xs in omega arith

-- what is left of a row is below it
pub minus_below : (xs ys : List Bool) → length xs ≡ length ys → BelowBits (minus_bits xs ys) xs
minus_below [] ys e = tt
minus_below (x ∷ xs) [] e = absurd (omega (arith, e))
minus_below (x ∷ xs) (y ∷ ys) e = (λ h. (and_parts x (not y) h).0, minus_below xs ys (let e' : suc (length xs) ≡ suc (length ys) = e in omega arith))

-- what a loop brings to its node is there already
pub loop_joins : (xs ys : List Bool) → length xs ≡ length ys → IsLeastUpper BelowBits xs (minus_bits xs ys) xs
loop_joins xs ys e = record { left = below_refl xs; right = minus_below xs ys e; least = λ zs p q. p }

-- what another edge brings
pub push_joins : (old from bar : List Bool) → length from ≡ length old → length bar ≡ length old
    → IsLeastUpper BelowBits old (minus_bits from bar) (or_bits old (minus_bits from bar))
push_joins old from bar e d = or_joins old (minus_bits from bar) (sym (length_minus from bar (e ∙ sym d) ∙ e))
