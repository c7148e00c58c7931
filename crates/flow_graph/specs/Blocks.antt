-- The blocks of a graph: longest lists of nodes that are always passed one after the other. Cited by contracts, those
-- of path_laws too; what is kept while blocks are made only by those of src/blocks.rt.
use Rattle.std.specs.Prelude.{◌≡◌, ◌≢◌, ℕ, ◌+◌, ◌<◌, ◌≤◌, ◌⊎◌, Bool, true, not, is_some, if◌then◌else◌, List, [], ◌∷◌, ◌++◌, length, slice_get, slice_index_or, slice_range, vec_len, Option, Some, None, Vec}
use Rattle.std.specs.Vec.{vec_capacity}
use Rattle.flow_graph.specs.declared.nodes.Node.{Node}
use Rattle.flow_graph.specs.Edges.{preds_of}
use Rattle.flow_graph.specs.Graphs.{succs_at}
use Rattle.flow_graph.specs.Paths.{Begins, Ends}
use Rattle.node_list.specs.Lists.{times_in}

-- ---- what a block is

-- node m is no Test and has n as its successor, and n is entered by that one edge
pub record IsGlued (nodes : List Node) (m n : ℕ) : Type 0 where
  pub leaves : succs_at nodes m ≡ n ∷ []
  pub enters : preds_of nodes n ≡ m ∷ []

-- at least one node, each glued to the one before
abbrev pub IsChain : List Node → List ℕ → Type 0
IsChain nodes [] = ⊥
IsChain nodes (n ∷ []) = n < length nodes
IsChain nodes (m ∷ n ∷ chain) = IsGlued nodes m n × IsChain nodes (n ∷ chain)

-- no node goes before it in a block
abbrev pub IsFirst : List Node → ℕ → Type 0
IsFirst nodes n = (m : ℕ) → IsGlued nodes m n → ⊥

-- no node goes after it in a block
abbrev pub IsLast : List Node → ℕ → Type 0
IsLast nodes m = (n : ℕ) → IsGlued nodes m n → ⊥

-- a chain that cannot be made longer at either end
pub record IsBlock (nodes : List Node) (list : List ℕ) : Type 0 where
  pub chain : IsChain nodes list
  pub first : (n : ℕ) → Begins n list → IsFirst nodes n
  pub last : (m : ℕ) → Ends m list → IsLast nodes m

-- node n stands in the list of this number
pub record StandsIn (lists : List (List ℕ)) (b n : ℕ) : Type 0 where
  pub list : List ℕ
  pub listed : slice_get lists b ≡ Some list
  pub place : ℕ
  pub is : slice_get list place ≡ Some n

-- each list is a block, each node stands in one, and they are in order of their first nodes
pub record IsBlocks (nodes : List Node) (lists : List (List ℕ)) : Type 0 where
  pub blocks : (b : ℕ) (list : List ℕ) → slice_get lists b ≡ Some list → IsBlock nodes list
  pub ascend : (b c m n : ℕ) (early late : List ℕ) → b < c → slice_get lists b ≡ Some early
      → slice_get lists c ≡ Some late → Begins m early → Begins n late → m < n
  pub every : (n : ℕ) → n < length nodes → (b : ℕ) × StandsIn lists b n

-- the blocks as contracts see them, and how many nodes there are
pub record BlocksShape : Type 0 where
  pub nodes : ℕ
  pub lists : List (List ℕ)

-- the blocks of a graph with these nodes
pub record AreBlocksOf (nodes : List Node) (blocks : BlocksShape) : Type 0 where
  pub count : blocks.nodes ≡ length nodes
  pub are : IsBlocks nodes blocks.lists

-- any lists that are the blocks of these nodes are equal to these lists
abbrev pub AreOnlyBlocks : List Node → List (List ℕ) → Type 0
AreOnlyBlocks nodes lists = (others : List (List ℕ)) → IsBlocks nodes others → lists ≡ others

-- ---- what the calls look at

-- the only item of a list
abbrev pub only : List ℕ → Option ℕ
only [] = None
only (x ∷ []) = Some x
only (x ∷ y ∷ xs) = None

-- the node, where one edge enters it
abbrev pub next_from : List Node → Option ℕ → Option ℕ
next_from nodes None = None
next_from nodes (Some n) = if is_some (only (preds_of nodes n)) then Some n else None

-- the node after this one in its block
abbrev pub next_of : List Node → ℕ → Option ℕ
next_of nodes m = next_from nodes (only (succs_at nodes m))

-- whether the node that one edge comes from has more than one successor, or there is no one such node
abbrev pub first_from : List Node → Option ℕ → Bool
first_from nodes None = true
first_from nodes (Some m) = not (is_some (only (succs_at nodes m)))

-- whether a node is the first of its block
abbrev pub is_first : List Node → ℕ → Bool
is_first nodes n = first_from nodes (only (preds_of nodes n))

-- ---- how they are kept

-- the parts of a list between each number and the next
abbrev pub parts_at : List ℕ → List ℕ → List (List ℕ)
parts_at order [] = []
parts_at order (s ∷ []) = []
parts_at order (s ∷ e ∷ starts) = slice_range order s e ∷ parts_at order (e ∷ starts)

-- none is above the next, and the last is this one
abbrev pub AreStarts : ℕ → List ℕ → Type 0
AreStarts end [] = ⊥
AreStarts end (s ∷ []) = s ≡ end
AreStarts end (s ∷ e ∷ starts) = (s ≤ e) × AreStarts end (e ∷ starts)

-- what `Blocks` keeps: the nodes in order of blocks, where each block begins, and the block of each node
pub record AreParts (order starts block_of : List ℕ) : Type 0 where
  pub starts_are : AreStarts (length order) starts
  pub stands : (n : ℕ) → n < length block_of
      → StandsIn (parts_at order starts) (slice_index_or block_of n 0) n

-- ---- while they are made

-- a node that has its block; the others have a number that is none
abbrev pub IsPlaced : ℕ → List ℕ → ℕ → Type 0
IsPlaced none block_of n = slice_index_or block_of n none ≢ none

-- a node that has no block yet
abbrev pub IsUnplaced : ℕ → List ℕ → ℕ → Type 0
IsUnplaced none block_of n = slice_index_or block_of n none ≡ none

-- a node that has its block is glued only to a node that has its block
abbrev pub GluedToPlaced : List Node → List ℕ → Type 0
GluedToPlaced nodes block_of = (m n : ℕ) → IsGlued nodes m n → IsPlaced (length nodes) block_of n
    → IsPlaced (length nodes) block_of m

-- the blocks whose first nodes are below this number
pub record AreMade (nodes : List Node) (below : ℕ) (lists : List (List ℕ))
    (block_of : List ℕ) : Type 0 where
  pub long : length block_of ≡ length nodes
  pub few : length lists ≤ below
  pub blocks : (b : ℕ) (list : List ℕ) → slice_get lists b ≡ Some list → IsBlock nodes list
  pub under : (b n : ℕ) (list : List ℕ) → slice_get lists b ≡ Some list → Begins n list → n < below
  pub ascend : (b c m n : ℕ) (early late : List ℕ) → b < c → slice_get lists b ≡ Some early
      → slice_get lists c ≡ Some late → Begins m early → Begins n late → m < n
  pub firsts : (n : ℕ) → n < below → IsFirst nodes n → IsPlaced (length nodes) block_of n
  pub placed_under : (n : ℕ) → IsFirst nodes n → IsPlaced (length nodes) block_of n → n < below
  pub closed : GluedToPlaced nodes block_of
  pub sound : (n : ℕ) → IsPlaced (length nodes) block_of n
      → StandsIn lists (slice_index_or block_of n (length nodes)) n
  pub complete : (b n : ℕ) → StandsIn lists b n → IsPlaced (length nodes) block_of n

-- and how they are kept
pub record AreStored (nodes : List Node) (below : ℕ) (order starts block_of : List ℕ) : Type 0 where
  pub starts_are : AreStarts (length order) starts
  pub made : AreMade nodes below (parts_at order starts) block_of

-- from its first node a block has been followed to this node
pub record IsBlockSoFar (nodes : List Node) (head node block : ℕ)
    (order longer block_of after : List ℕ) : Type 0 where
  pub chain : List ℕ
  pub longer_is : longer ≡ order ++ chain
  pub is_chain : IsChain nodes chain
  pub begins : Begins head chain
  pub ends : Ends node chain
  pub long : length after ≡ length nodes
  pub were : (n : ℕ)
      → (slice_index_or after n (length nodes) ≡ slice_index_or block_of n (length nodes))
      ⊎ ((slice_index_or after n (length nodes) ≡ block) × ((i : ℕ) × (slice_get chain i ≡ Some n)))
  pub put : (i n : ℕ) → slice_get chain i ≡ Some n → slice_index_or after n (length nodes) ≡ block
  pub closed : (m n : ℕ) → IsGlued nodes m n → IsPlaced (length nodes) after n
      → IsPlaced (length nodes) after m × (m ≢ node)

-- a block has been followed from its first node to its last
abbrev pub IsFollowedBlock : List Node → ℕ → ℕ → List ℕ → List ℕ → List ℕ → List ℕ → Type 0
IsFollowedBlock nodes head block order longer block_of after = (node : ℕ)
    × IsBlockSoFar nodes head node block order longer block_of after × IsLast nodes node

-- how many have no block yet
abbrev pub unplaced : ℕ → List ℕ → ℕ
unplaced = times_in

-- a list has room for the nodes that have no block yet
abbrev pub HasRoomForUnplaced : {A : Type 0} → ℕ → Vec ℕ A → List ℕ → Type 0
HasRoomForUnplaced none order block_of = vec_len order + unplaced none block_of ≤ vec_capacity order
