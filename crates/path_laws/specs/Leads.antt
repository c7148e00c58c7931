-- Where a bit flows from, as a relation on nodes alone. Cited by contracts.
use Rattle.std.specs.Prelude.{◌≡◌, ℕ, ◌<◌, ◌↔◌, Bool, true, false, List}
use Rattle.flow_graph.specs.declared.nodes.Node.{Node}
use Rattle.flow_graph.specs.Paths.{HasEdge}
use Rattle.path_laws.specs.Paths.{AreRows, IsLastNode, has_bit}

-- from node n a way along these steps comes to a seed, and none of its nodes before that one bars
pub data Leads (steps : ℕ → ℕ → Type 0) (seed bar : ℕ → Bool) : ℕ → Type 0 where
  at_seed : (n : ℕ) → seed n ≡ true → Leads steps seed bar n
  one_more : (m n : ℕ) → steps m n → bar m ≡ false → Leads steps seed bar n → Leads steps seed bar m

-- a bit that flows against the edges comes from successors, and one that flows along them from predecessors
abbrev pub steps_of : Bool → List Node → ℕ → ℕ → Type 0
steps_of true nodes m n = HasEdge nodes m n
steps_of false nodes m n = HasEdge nodes n m

-- some node one step on from node n has the bit
abbrev pub SomeStep : Bool → List Node → List (List Bool) → ℕ → ℕ → Type 0
SomeStep against nodes rows bit n = (m : ℕ) × steps_of against nodes n m
    × (has_bit rows bit m ≡ true)

-- so many rows, each of so many bits, tell at which nodes each bit is true one step on
pub record TellSteps (against : Bool) (nodes : List Node) (bits : ℕ) (rows : List (List Bool))
    (count : ℕ) (all : List (List Bool)) : Type 0 where
  pub shape : AreRows count bits all
  pub are : (n b : ℕ) → n < count → (has_bit all b n ≡ true) ↔ SomeStep against nodes rows b n

-- so many rows, each of so many bits, tell which nodes are the last ones with each bit
pub record TellLasts (nodes : List Node) (bits : ℕ) (rows stop : List (List Bool)) (count : ℕ)
    (all : List (List Bool)) : Type 0 where
  pub shape : AreRows count bits all
  pub are : (n b : ℕ) → n < count → (has_bit all b n ≡ true) ↔ IsLastNode nodes rows stop b n
