-- A graph with its edges, its blocks and a table of patterns, as the functions see it that look for the places of these
-- patterns block by block. Cited by contracts of private functions.
use Rattle.std.specs.Prelude.{◌≡◌, ℕ, Bool, List, length}
use Rattle.flow_graph.specs.Blocks.{AreBlocksOf}
use Rattle.flow_graph.specs.Edges.{edges_of}
use Rattle.path_laws.specs.Paths.{AreRows}
use Rattle.sink_code.specs.declared.inserting.PutBefore.{PutBefore}
use Rattle.sink_code.specs.declared.over.OverBlocks.{OverBlocks}
use Rattle.sink_code.specs.BlockRows.{AreBlockRows, AreInto, is_blocked_in, leaves_own}
use Rattle.sink_code.specs.FoundPuts.{AreFromHeads, ArePutAtEnds}
use Rattle.sink_code.specs.PatternTables.{AreSinkableBelow}

-- its edges and blocks are those of its graph, and its patterns do not divide and are over the graph's variables
pub record IsOverBlocks (over : OverBlocks) : Type 0 where
  pub edges : over.edges.now ≡ edges_of over.graph.now.nodes
  pub blocks : AreBlocksOf over.graph.now.nodes over.blocks.now
  pub sinkable : AreSinkableBelow (length over.graph.now.vars) over.table.now

-- the lists of nodes of its blocks
abbrev pub lists_of : OverBlocks → List (List ℕ)
lists_of over = over.blocks.now.lists

-- one row for each block, one bit for each pattern
abbrev pub HaveShapeOver : OverBlocks → List (List Bool) → Type 0
HaveShapeOver over rows = AreRows (length (lists_of over)) (length over.table.now) rows

-- the rows say which patterns are blocked in each block
abbrev pub AreBlockedOver : OverBlocks → List (List Bool) → Type 0
AreBlockedOver over rows =
    AreBlockRows (lists_of over) over.table.now (is_blocked_in over.graph.now) rows

-- which leave a block in which they occur
abbrev pub AreLeavingOver : OverBlocks → List (List Bool) → Type 0
AreLeavingOver over rows =
    AreBlockRows (lists_of over) over.table.now (leaves_own over.graph.now) rows

-- and which come into it: they are delayed at its first node
abbrev pub AreIntoOver : OverBlocks → List (List Bool) → Type 0
AreIntoOver over rows = AreInto over.graph.now (lists_of over) over.table.now rows

-- of the patterns that come into these blocks, by number, each is put or leaves its block, and all else is as it was
abbrev pub AreFromHeadsOver : OverBlocks → List (List Bool) → List (List Bool) → List PutBefore
    → (ℕ → ℕ → Type 0) → List (List Bool) → List PutBefore → Type 0
AreFromHeadsOver over into leaves puts done rows now =
    AreFromHeads over.graph.now (lists_of over) over.table.now into leaves puts done rows now

-- at the ends of the blocks below this number their patterns are put
abbrev pub ArePutAtEndsOver : OverBlocks → List (List Bool) → List (List Bool) → ℕ → List PutBefore
    → List PutBefore → Type 0
ArePutAtEndsOver over into leaves below puts now =
    ArePutAtEnds over.graph.now (lists_of over) over.table.now into leaves below puts now
