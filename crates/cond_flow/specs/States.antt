-- What is known before a node, and its order: from what is surest to what is least known. Cited by contracts.
use Rattle.std.specs.Prelude.{◌≡◌, Bool, true, false, ℕ, suc, if◌then◌else◌, List, [], ◌∷◌, length}
use Rattle.fix_solve.specs.Pointwise.{Pointwise, total_rank}

-- no run comes to the node, in a graph with so many variables; or what is known of each variable
pub data NodeState (K : Type 0) : Type 0 where
  Unreached : (size : ℕ) → NodeState K
  Knows : (known : List K) → NodeState K

-- the number of variables
abbrev pub size_of : {K : Type 0} → NodeState K → ℕ
size_of (Unreached n) = n
size_of (Knows known) = length known

-- some run may come to the node
abbrev pub is_reached : {K : Type 0} → NodeState K → Bool
is_reached (Unreached n) = false
is_reached (Knows known) = true

-- a state by a truth value and a list, which counts only where the truth value is true
abbrev pub state_where : {K : Type 0} → Bool → List K → NodeState K
state_where reached known = if reached then Knows known else Unreached (length known)

-- "unreached" is below all, and what is known is in order variable by variable
abbrev pub BelowState : {K : Type 0} → (K → K → Type 0) → NodeState K → NodeState K → Type 0
BelowState below (Unreached n) (Unreached m) = n ≡ m
BelowState below (Unreached n) (Knows ys) = n ≡ length ys
BelowState below (Knows xs) (Unreached m) = ⊥
BelowState below (Knows xs) (Knows ys) = Pointwise below xs ys

-- the rank of a state in its order
abbrev pub state_rank : {K : Type 0} → (K → ℕ) → NodeState K → ℕ
state_rank rank (Unreached n) = 0
state_rank rank (Knows known) = suc (total_rank rank known)

-- what is known where two paths meet, variable by variable
abbrev pub joined_each : {K : Type 0} → (K → K → K) → List K → List K → List K
joined_each join [] ys = []
joined_each join (x ∷ xs) [] = x ∷ xs
joined_each join (x ∷ xs) (y ∷ ys) = join x y ∷ joined_each join xs ys

-- where two paths meet
abbrev pub joined : {K : Type 0} → (K → K → K) → NodeState K → NodeState K → NodeState K
joined join (Unreached n) t = t
joined join (Knows xs) (Unreached n) = Knows xs
joined join (Knows xs) (Knows ys) = Knows (joined_each join xs ys)
