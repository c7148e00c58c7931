-- Which of the two slots of a node are known to lead to nodes that are down: a pair of bits for each expression. Cited by
-- contracts and by the ghost members of `Slots`.
use Rattle.std.specs.Prelude.{◌≡◌, ◌+◌, ◌||◌, ℕ, Bool, List, [], ◌∷◌, length}
use Rattle.fix_solve.specs.Pointwise.{Pointwise, total_rank}
use Rattle.flow_graph.specs.Sums.{one_if}
use Rattle.path_laws.specs.Order.{BelowBit}

-- the bits of two rows side by side
abbrev pub pairs : List Bool → List Bool → List (Bool × Bool)
pairs [] ys = []
pairs (x ∷ xs) [] = []
pairs (x ∷ xs) (y ∷ ys) = (x, y) ∷ pairs xs ys

-- two rows have so many bits
pub record HasBits (first second : List Bool) (bits : ℕ) : Type 0 where
  pub first_long : length first ≡ bits
  pub second_long : length second ≡ bits

-- what is known in the first is known in the second
abbrev pub BelowSlot : Bool × Bool → Bool × Bool → Type 0
BelowSlot x y = BelowBit x.0 y.0 × BelowBit x.1 y.1

-- of each expression, what is known in the first list is known in the second
abbrev pub BelowSlots : List (Bool × Bool) → List (Bool × Bool) → Type 0
BelowSlots = Pointwise BelowSlot

-- how many of two slots are known
abbrev pub slot_rank : Bool × Bool → ℕ
slot_rank x = one_if x.0 + one_if x.1

-- how many are of all expressions
abbrev pub slots_rank : List (Bool × Bool) → ℕ
slots_rank = total_rank slot_rank

-- what is known in either
abbrev pub or_pairs : List (Bool × Bool) → List (Bool × Bool) → List (Bool × Bool)
or_pairs [] ys = []
or_pairs (x ∷ xs) [] = []
or_pairs (x ∷ xs) (y ∷ ys) = (x.0 || y.0, x.1 || y.1) ∷ or_pairs xs ys
