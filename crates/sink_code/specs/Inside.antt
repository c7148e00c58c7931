-- What the occurrences of patterns come to in their blocks, and what comes past the nodes of a block. Cited by
-- contracts of private functions.
use Rattle.std.specs.Prelude.{◌≡◌, ℕ, suc, ◌<◌, ◌≤◌, ◌&&◌, Bool, true, false, not, Contains, List, drop, length, slice_get, Some}
use Rattle.mir_base.specs.declared.instructions.Rhs.{Rhs}
use Rattle.flow_graph.specs.declared.nodes.Node.{Node}
use Rattle.flow_graph.specs.Blocks.{AreBlocksOf}
use Rattle.flow_graph.specs.Graphs.{GraphShape}
use Rattle.flow_graph.specs.Paths.{is_return}
use Rattle.path_laws.specs.Between.{ahead_of}
use Rattle.path_laws.specs.Blockwise.{passed_all}
use Rattle.sink_code.specs.declared.inserting.PutBefore.{PutBefore}
use Rattle.sink_code.specs.declared.inside.InBlock.{InBlock}
use Rattle.sink_code.specs.declared.inside.Inside.{Inside}
use Rattle.sink_code.specs.declared.inside.Leaving.{Leaving}
use Rattle.sink_code.specs.declared.patterns.Pattern.{Pattern}
use Rattle.sink_code.specs.declared.places.BlockPlaces.{BlockPlaces}
use Rattle.graph_edit.specs.Accesses.{blocks_at, occurs_at}
use Rattle.sink_code.specs.BlockPlaces.{AreTakenIn, first_where, stops_at}
use Rattle.sink_code.specs.Puts.{put_at}
use Rattle.sink_code.specs.PatternTables.{AreSinkableBelow, pattern_of}

-- ---- past nodes

-- the pattern x <- t comes past these nodes of a block, where it came to the first of them or not: it occurs at one, or
-- came to the first, and no later one blocks it
abbrev pub comes_past : GraphShape → ℕ → Rhs → Bool → List ℕ → Bool
comes_past graph x t came path = passed_all (occurs_at x t graph) (blocks_at x t graph) came path

-- paths go on from the last node of the list: it is no Return
abbrev pub goes_on : GraphShape → List ℕ → Bool
goes_on graph list = not (is_return (slice_get graph.nodes (ahead_of false list)))

-- the pattern comes past all nodes of a block, and paths go on from there
abbrev pub leaves : GraphShape → ℕ → Rhs → Bool → List ℕ → Bool
leaves graph x t came list = goes_on graph list && comes_past graph x t came list

-- ---- from occurrences

-- the pattern occurs at this index of the list
pub record OccursAt (graph : GraphShape) (list : List ℕ) (index : ℕ) (p : Pattern) : Type 0 where
  pub at : ℕ
  pub node : Node
  pub listed : slice_get list index ≡ Some at
  pub is : slice_get graph.nodes at ≡ Some node
  pub occurs : pattern_of node ≡ Some p

-- the index of the first node from this one on that stops a pattern, and the length of the list where none does
abbrev pub stop_from : GraphShape → List ℕ → ℕ → Pattern → ℕ
stop_from graph list index p = first_where (stops_at graph p.var p.rhs) index (drop index list)

-- an insertion of a pattern before the first node after an occurrence of it, in its block, that stops it
pub record IsSunkInside (graph : GraphShape) (lists : List (List ℕ))
    (put : PutBefore) : Type 0 where
  pub block : ℕ
  pub list : List ℕ
  pub index : ℕ
  pub p : Pattern
  pub is_block : slice_get lists block ≡ Some list
  pub occurs : OccursAt graph list index p
  pub stops : slice_get list (stop_from graph list (suc index) p) ≡ Some put.node
  pub is : put ≡ put_at put.node p

-- a pattern of the table that leaves a block in which it occurs
pub record LeavesBlock (graph : GraphShape) (lists : List (List ℕ)) (table : List Pattern)
    (left : Leaving) : Type 0 where
  pub list : List ℕ
  pub index : ℕ
  pub p : Pattern
  pub is_block : slice_get lists left.block ≡ Some list
  pub numbered : slice_get table left.number ≡ Some p
  pub occurs : OccursAt graph list index p
  pub free : length list ≤ stop_from graph list (suc index) p
  pub on : goes_on graph list ≡ true

-- what an occurrence at an index of a block comes to is found: the insertion, or that its pattern leaves the block
pub record IsFoundAt (graph : GraphShape) (block : ℕ) (list : List ℕ) (index : ℕ) (p : Pattern)
    (found : Inside) : Type 0 where
  pub put : (n : ℕ) → slice_get list (stop_from graph list (suc index) p) ≡ Some n
      → Contains found.puts.items (put_at n p)
  pub left : length list ≤ stop_from graph list (suc index) p → goes_on graph list ≡ true
      → (i : ℕ) × (number : ℕ)
      × (slice_get found.leaving.items i ≡ Some (record { block = block; number = number }))
      × (slice_get found.table number ≡ Some p)

-- what is found is so, and the patterns that leave blocks are over the graph's variables and do not divide
pub record AreSunkInside (graph : GraphShape) (lists : List (List ℕ))
    (found : Inside) : Type 0 where
  pub sinkable : AreSinkableBelow (length graph.vars) found.table
  pub puts : (i : ℕ) (put : PutBefore) → slice_get found.puts.items i ≡ Some put
      → IsSunkInside graph lists put
  pub leaving : (i : ℕ) (left : Leaving) → slice_get found.leaving.items i ≡ Some left
      → LeavesBlock graph lists found.table left

-- and of the occurrences at the indices of this block from one on, and in the later blocks, all is found
pub record AreFoundFrom (graph : GraphShape) (lists : List (List ℕ)) (block index : ℕ)
    (found : Inside) : Type 0 where
  pub sunk : AreSunkInside graph lists found
  pub here : (i : ℕ) (list : List ℕ) (p : Pattern) → index ≤ i → slice_get lists block ≡ Some list
      → OccursAt graph list i p → IsFoundAt graph block list i p found
  pub later : (b i : ℕ) (list : List ℕ) (p : Pattern) → block < b → slice_get lists b ≡ Some list
      → OccursAt graph list i p → IsFoundAt graph b list i p found

-- of all occurrences
pub record AreInside (graph : GraphShape) (lists : List (List ℕ)) (found : Inside) : Type 0 where
  pub sunk : AreSunkInside graph lists found
  pub all : (b i : ℕ) (list : List ℕ) (p : Pattern) → slice_get lists b ≡ Some list
      → OccursAt graph list i p → IsFoundAt graph b list i p found

-- of all blocks from this one on
abbrev pub AreInsideFrom : GraphShape → List (List ℕ) → ℕ → Inside → Type 0
AreInsideFrom graph lists block found = AreSunkInside graph lists found
    × ((b i : ℕ) (list : List ℕ) (p : Pattern) → block ≤ b → slice_get lists b ≡ Some list
    → OccursAt graph list i p → IsFoundAt graph b list i p found)

-- ---- one block

-- the list is that of the block, whose graph and blocks these are, and it is known whether paths go on from its end
pub record IsInBlock (at : InBlock) : Type 0 where
  pub blocks : AreBlocksOf at.graph.now.nodes at.blocks.now
  pub is : slice_get at.blocks.now.lists at.block ≡ Some at.list.now
  pub on : at.goes_on ≡ goes_on at.graph.now at.list.now

-- all is found of the occurrences at the indices of the block from this one on, and in the later blocks
abbrev pub AreFoundInBlock : InBlock → ℕ → Inside → Type 0
AreFoundInBlock at index found = AreFoundFrom at.graph.now at.blocks.now.lists at.block index found

-- the places are those of its nodes from this index on
abbrev pub AreTakenInBlock : InBlock → ℕ → BlockPlaces → Type 0
AreTakenInBlock at index places = AreTakenIn at.graph.now at.block index at.list.now places

-- at this index of the block stands this node
abbrev pub IsNodeAt : InBlock → ℕ → Node → Type 0
IsNodeAt at index node = (n : ℕ) × (slice_get at.list.now index ≡ Some n)
    × (slice_get at.graph.now.nodes n ≡ Some node)
