-- Classes of nodes: the number of the class of each node, and the members of each class. Cited by contracts.
use Rattle.std.specs.Prelude.{◌≡◌, ◌≢◌, ℕ, ◌<◌, List, length, map, slice_set, ◌++◌, ◌⊎◌}
use Rattle.node_list.specs.Lists.{list_at}
use Rattle.mir_base.specs.Shapes.{AllBelow}
use Rattle.jump_clean.specs.declared.classes.Classes.{Classes}
use Rattle.flow_graph.specs.Numbering.{IsIn}
use Rattle.flow_graph.specs.NumberTables.{number_at}

-- the class of a node
abbrev pub class : List ℕ → ℕ → ℕ
class = number_at

-- the members of a class
abbrev pub members_of : List (List ℕ) → ℕ → List ℕ
members_of = list_at

-- each class has exactly its members, and each class number is that of a node
pub record HasMembers (of : List ℕ) (members : List (List ℕ)) : Type 0 where
  pub long : length members ≡ length of
  pub within : (n : ℕ) → n < length of → class of n < length of
  pub all : (n : ℕ) → n < length of → IsIn n (members_of members (class of n))
  pub only : (n c : ℕ) → IsIn n (members_of members c) → (n < length of) × (class of n ≡ c)

-- the members of each class, by its number
abbrev pub members_in : Classes → List (List ℕ)
members_in classes = map (λ v. v.items) classes.members.items

-- the members that a value of `Classes` keeps are exactly those of each class
abbrev pub HaveMembers : Classes → Type 0
HaveMembers classes = HasMembers classes.of.items (members_in classes)

-- each of so many nodes is in the class of its own number
abbrev pub AreAlone : ℕ → List ℕ → Type 0
AreAlone nodes of = (n : ℕ) → n < nodes → class of n ≡ n

-- the members of each class, with more in one of them
abbrev pub with_more : List (List ℕ) → ℕ → List ℕ → List (List ℕ)
with_more members c nodes = slice_set members c (members_of members c ++ nodes)

-- the nodes of the one class, which are these, have gone into the other, and all others are where they were
pub record AreMoved (of of' : List ℕ) (from into : ℕ) (moved : List ℕ) : Type 0 where
  pub long : length of' ≡ length of
  pub gone : (n : ℕ) → n < length of → class of n ≡ from → (class of' n ≡ into) × IsIn n moved
  pub stayed : (n : ℕ) → n < length of → class of n ≢ from → class of' n ≡ class of n
  pub below : AllBelow (length of) moved

-- the classes of a and b have become one, and all others are as they were; two nodes whose classes were apart before
-- are together now only where one of them was moved
pub record AreJoined (of of' : List ℕ) (a b : ℕ) (moved : List ℕ) : Type 0 where
  pub long : length of' ≡ length of
  pub together : class of' a ≡ class of' b
  pub still : (n m : ℕ) → n < length of → m < length of → class of n ≡ class of m
      → class of' n ≡ class of' m
  pub only : (n m : ℕ) → n < length of → m < length of → class of' n ≡ class of' m
      → (class of n ≡ class of m) ⊎ ((class of n ≡ class of a) × (class of m ≡ class of b))
      ⊎ ((class of n ≡ class of b) × (class of m ≡ class of a))
  pub by_move : (n m : ℕ) → n < length of → m < length of → class of' n ≡ class of' m
      → (class of n ≡ class of m) ⊎ IsIn n moved ⊎ IsIn m moved
  pub below : AllBelow (length of) moved
