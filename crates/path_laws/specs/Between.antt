-- The edges between blocks: those of the flow that leave a block's last node in the order of the flow, as edges of a
-- flow over blocks. Cited by contracts.
use Rattle.std.specs.Prelude.{◌≡◌, ℕ, zero, suc, nat_eq, if◌then◌else◌, ◌+◌, ◌<◌, ◌≤◌, Bool, true, false, List, [], ◌∷◌, ◌++◌, length, slice_get, Some}
use Rattle.flow_graph.specs.declared.edges.Edge.{Edge}
use Rattle.flow_graph.specs.declared.nodes.Node.{Node}
use Rattle.flow_graph.specs.Blocks.{BlocksShape, StandsIn}
use Rattle.flow_graph.specs.Paths.{Begins, Ends}
use Rattle.flow_graph.specs.Edges.{edges_from}
use Rattle.flow_graph.specs.Graphs.{GraphShape}
use Rattle.node_list.specs.Lists.{list_at}
use Rattle.path_laws.specs.declared.between.BlockEdges.{BlockEdges}
use Rattle.path_laws.specs.Leads.{steps_of}
use Rattle.flow_graph.specs.FlowEdges.{edge_at, first_out, flow_edges}
use Rattle.flow_graph.specs.NumberTables.{number_at}

-- node n is the one from which the flow leaves the list: along the edges its last, against them its first
abbrev pub IsAhead : Bool → ℕ → List ℕ → Type 0
IsAhead true n list = Begins n list
IsAhead false n list = Ends n list

-- the same as a number
abbrev pub ahead_of : Bool → List ℕ → ℕ
ahead_of true [] = 0
ahead_of true (n ∷ list) = n
ahead_of false [] = 0
ahead_of false (n ∷ []) = n
ahead_of false (m ∷ n ∷ list) = ahead_of false (n ∷ list)

-- the node from which an edge leads in the direction of the flow
abbrev pub end_at : Bool → Edge → ℕ
end_at true edge = edge.target
end_at false edge = edge.source

-- how many edges lead from node n in that direction
abbrev pub count_at : Bool → ℕ → List Edge → ℕ
count_at way n [] = 0
count_at way n (edge ∷ edges) = (if nat_eq (end_at way edge) n then 1 else 0) + count_at way n edges

-- and how many from the blocks below this number
abbrev pub out_below : Bool → List (List ℕ) → List Edge → ℕ → ℕ
out_below way lists edges zero = 0
out_below way lists edges (suc b) =
    out_below way lists edges b + count_at way (ahead_of way (list_at lists b)) edges

-- and so it is of the block of this number
pub record IsAheadOf (against : Bool) (lists : List (List ℕ)) (b n : ℕ) : Type 0 where
  pub list : List ℕ
  pub listed : slice_get lists b ≡ Some list
  pub ahead : IsAhead against n list

-- an edge from a block comes from the node ahead of it, and enters the block of a node that steps back to that one
pub record IsBetween (against : Bool) (nodes : List Node) (lists : List (List ℕ))
    (edge : Edge) : Type 0 where
  pub within : edge.target < length lists
  pub from : ℕ
  pub to : ℕ
  pub leaves : IsAheadOf against lists edge.source from
  pub enters : StandsIn lists edge.target to
  pub step : steps_of against nodes to from

-- the edges that leave this block
pub record AreOutFrom (against : Bool) (nodes : List Node) (lists : List (List ℕ)) (block from : ℕ)
    (out : List Edge) : Type 0 where
  pub few : length out ≤ count_at against from (edges_from 0 nodes)
  pub source : (e : ℕ) (edge : Edge) → slice_get out e ≡ Some edge → edge.source ≡ block
  pub sound : (e : ℕ) (edge : Edge) → slice_get out e ≡ Some edge
      → IsBetween against nodes lists edge
  pub complete : (to : ℕ) → steps_of against nodes to from
      → (e : ℕ) × (edge : Edge) × (slice_get out e ≡ Some edge) × StandsIn lists edge.target to

-- the edges that leave the blocks below this number, in order of these, and the number of the first edge of each
pub record AreBetween (against : Bool) (nodes : List Node) (lists : List (List ℕ)) (below : ℕ)
    (edges : List Edge) (firsts : List ℕ) : Type 0 where
  pub few : length edges ≤ out_below against lists (edges_from 0 nodes) below
  pub long : length firsts ≡ below + 1
  pub last : number_at firsts below ≡ length edges
  pub under : (n : ℕ) → number_at firsts n ≤ length edges
  pub source : (e : ℕ) (edge : Edge) → slice_get edges e ≡ Some edge → edge.source < below
  pub only : (e n : ℕ) (edge : Edge) → slice_get edges e ≡ Some edge → number_at firsts n ≤ e
      → e < number_at firsts (suc n) → edge.source ≡ n
  pub stands : (e : ℕ) (edge : Edge) → slice_get edges e ≡ Some edge
      → (number_at firsts edge.source ≤ e) × (e < number_at firsts (suc edge.source))
  pub sound : (e : ℕ) (edge : Edge) → slice_get edges e ≡ Some edge
      → IsBetween against nodes lists edge
  pub complete : (b from to : ℕ) → b < below → IsAheadOf against lists b from
      → steps_of against nodes to from
      → (e : ℕ) × (edge : Edge) × (slice_get edges e ≡ Some edge) × (edge.source ≡ b)
      × StandsIn lists edge.target to

-- the edges that leave all blocks
abbrev pub AreBlockEdges : Bool → List Node → List (List ℕ) → BlockEdges → Type 0
AreBlockEdges against nodes lists made =
    AreBetween against nodes lists (length lists) made.edges.items made.firsts.items

-- to a list of edges those are added that leave this block, whose last node in the order of the flow is `from`
abbrev pub AddsOut : Bool → GraphShape → BlocksShape → ℕ → ℕ → List Edge → List Edge → Type 0
AddsOut against graph blocks block from old new = (out : List Edge) × (new ≡ old ++ out)
    × AreOutFrom against graph.nodes blocks.lists block from out

-- those of them whose numbers in the flow go from this one up to that one, at the end of a list
pub record AreOutTo (against : Bool) (nodes : List Node) (lists : List (List ℕ))
    (block from first number : ℕ) (before list : List Edge) : Type 0 where
  pub out : List Edge
  pub list_is : list ≡ before ++ out
  pub many : first + length out ≡ number
  pub most : number ≤ first_out against nodes (suc from)
  pub source : (e : ℕ) (edge : Edge) → slice_get out e ≡ Some edge → edge.source ≡ block
  pub sound : (e : ℕ) (edge : Edge) → slice_get out e ≡ Some edge
      → IsBetween against nodes lists edge
  pub complete : (e : ℕ) → first ≤ e → e < number
      → (i : ℕ) × (edge : Edge) × (slice_get out i ≡ Some edge)
      × StandsIn lists edge.target (edge_at (flow_edges against nodes) e).target
