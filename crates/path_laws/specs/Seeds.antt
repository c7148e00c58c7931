-- Where the bits of a path problem are seeded, and where they are barred. Cited by contracts. The two problems on
-- every path are solved by their complements: from where some path ends with no birth.
use Rattle.std.specs.Prelude.{◌≡◌, ℕ, Bool, true, false, nat_eq, if◌then◌else◌, List, length, map, replicate, slice_get}
use Rattle.std.specs.List.{range_with_len}
use Rattle.bit_rows.specs.Bits.{minus_bits, not_bits, or_bits, row_of}
use Rattle.flow_graph.specs.Blocks.{AreBlocksOf, BlocksShape}
use Rattle.flow_graph.specs.declared.nodes.Node.{Node}
use Rattle.flow_graph.specs.Edges.{EdgesShape, edges_of}
use Rattle.flow_graph.specs.Graphs.{AllWithin, GraphShape}
use Rattle.flow_graph.specs.Paths.{is_return}
use Rattle.path_laws.specs.Paths.{AreRows, HaveShape, width}

-- where paths end of themselves: at a Return those from a node, at Start, read against the edges, those to one
abbrev pub is_end : Bool → List Node → ℕ → Bool
is_end true nodes n = is_return (slice_get nodes n)
is_end false nodes n = nat_eq n 0

-- all bits at such a node, and else those that the node stops
abbrev pub ending_row : Bool → List Node → List Bool → ℕ → List Bool
ending_row against nodes stop n =
    if is_end against nodes n then replicate (length stop) true else stop

-- the seeds of a node: for every path the bits whose paths may end there, without those born there, and else those born
abbrev pub seed_row : Bool → Bool → List Node → List (List Bool) → List (List Bool) → ℕ → List Bool
seed_row true against nodes born stop n =
    minus_bits (ending_row against nodes (row_of stop n) n) (row_of born n)
seed_row false against nodes born stop n = row_of born n

-- the seeds of all nodes
abbrev pub seeds_of : Bool → Bool → List Node → List (List Bool) → List (List Bool)
    → List (List Bool)
seeds_of true against nodes born stop =
    map (seed_row true against nodes born stop) (range_with_len 0 (length nodes))
seeds_of false against nodes born stop = born

-- what bars a bit: for every path a birth, and else a stop
abbrev pub bars_of : Bool → List (List Bool) → List (List Bool) → List (List Bool)
bars_of true born stop = born
bars_of false born stop = stop

-- the edges are those of the graph, and the rows have one shape
pub record IsPathFlow (nodes : List Node) (edges : EdgesShape) (bits : ℕ)
    (born stop : List (List Bool)) : Type 0 where
  pub within : AllWithin nodes
  pub edges_are : edges ≡ edges_of nodes
  pub born_rows : AreRows (length nodes) bits born
  pub stop_rows : AreRows (length nodes) bits stop

-- the same for as many bits as the rows of births have
pub record AreFlowRows (graph : GraphShape) (edges : EdgesShape)
    (born stop : List (List Bool)) : Type 0 where
  pub edges_are : edges ≡ edges_of graph.nodes
  pub born_rows : HaveShape graph (width born) born
  pub stop_rows : HaveShape graph (width born) stop

-- the edges are those of the graph, the rows have one shape, and the blocks are those of the graph
pub record IsPathProblem (nodes : List Node) (edges : EdgesShape) (blocks : BlocksShape) (bits : ℕ)
    (born stop : List (List Bool)) : Type 0 where
  pub flow : IsPathFlow nodes edges bits born stop
  pub blocks_are : AreBlocksOf nodes blocks

-- a row after a node: its seeds, and what came that it does not bar
abbrev pub passed_row : Bool → Bool → List Node → List (List Bool) → List (List Bool) → ℕ
    → List Bool → List Bool
passed_row true against nodes born stop n row = if is_end against nodes n
    then not_bits (row_of born n) else minus_bits (or_bits row (row_of stop n)) (row_of born n)
passed_row false against nodes born stop n row =
    or_bits (minus_bits row (row_of stop n)) (row_of born n)
