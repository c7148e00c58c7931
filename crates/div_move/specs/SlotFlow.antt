-- The flow of known slots against the edges of a graph, and what its least solution says. Cited by contracts of private
-- functions and by the ghost members of `SlotFlow`.
use Rattle.std.specs.Prelude.{◌≡◌, ◌+◌, ◌<◌, ◌&&◌, ◌||◌, ℕ, suc, Bool, true, false, not, nat_eq, List, [], ◌∷◌, length, replicate, slice_get, Option, Some, None}
use Rattle.bit_rows.specs.Bits.{row_of}
use Rattle.fix_solve.specs.Net.{AreOfSize, HoldsLeast, Net, value_at}
use Rattle.flow_graph.specs.declared.nodes.Node.{Node}
use Rattle.flow_graph.specs.Edges.{edges_of}
use Rattle.flow_graph.specs.FlowEdges.{edge_at, first_out, flow_edges}
use Rattle.flow_graph.specs.Graphs.{AllWithin, succs_at}
use Rattle.path_laws.specs.Paths.{AreRows}
use Rattle.div_move.specs.declared.flow.SlotFlow.{SlotFlow}
use Rattle.div_move.specs.MustCome.{halts}
use Rattle.div_move.specs.Slots.{BelowSlots}

-- ---- nodes

-- the successor, where there is one, is this node
abbrev pub is_node : ℕ → Option ℕ → Bool
is_node to None = false
is_node to (Some s) = nat_eq s to

-- this slot of a node leads to that one
abbrev pub leads_at : List Node → ℕ → ℕ → ℕ → Bool
leads_at nodes n slot to = is_node to (slice_get (succs_at nodes n) slot)

-- there is no successor
abbrev pub is_lacking : Option ℕ → Bool
is_lacking None = true
is_lacking (Some s) = false

-- a node does not have this slot
abbrev pub lacks_at : List Node → ℕ → ℕ → Bool
lacks_at nodes n slot = is_lacking (slice_get (succs_at nodes n) slot)

-- the node, where there is one, halts
abbrev pub node_halts : Option Node → Bool
node_halts None = false
node_halts (Some node) = halts node

-- node n does
abbrev pub halts_at : List Node → ℕ → Bool
halts_at nodes n = node_halts (slice_get nodes n)

-- ---- what is known of a node

-- of one expression: the node uses it, or both its slots are known, and it neither kills it nor halts
abbrev pub down_bit : Bool → Bool → Bool → Bool × Bool → Bool
down_bit halt used killed known = used || ((known.0 && known.1) && not (killed || halt))

-- of all
abbrev pub down_bits : Bool → List Bool → List Bool → List (Bool × Bool) → List Bool
down_bits halt [] kills known = []
down_bits halt (used ∷ uses) [] known = []
down_bits halt (used ∷ uses) (killed ∷ kills) [] = []
down_bits halt (used ∷ uses) (killed ∷ kills) (k ∷ known) =
    down_bit halt used killed k ∷ down_bits halt uses kills known

-- what becomes known of a predecessor: its first slot, and its second, where they lead to the node
abbrev pub arriving : Bool → Bool → List Bool → List (Bool × Bool)
arriving first second [] = []
arriving first second (down ∷ more) = (first && down, second && down) ∷ arriving first second more

-- ---- the flow

module _ {L : Type 0} (f : SlotFlow L) where
  -- which expressions are known to be down at node n, where these slots of it are known
  abbrev pub down_row : ℕ → List (Bool × Bool) → List Bool
  down_row n known = down_bits (halts_at f.graph.now.nodes n) (row_of f.uses.now n) (row_of f.kills.now n) known

  -- what becomes known of node m, where these are down at node s
  abbrev pub arriving_at : ℕ → ℕ → List Bool → List (Bool × Bool)
  arriving_at m s down = arriving (leads_at f.graph.now.nodes m 0 s) (leads_at f.graph.now.nodes m 1 s) down

  -- the flow goes against the edges; a slot that a node lacks is known from the first
  abbrev pub slot_net : Net (List (Bool × Bool))
  slot_net = record {
    nodes = length f.graph.now.nodes;
    edges = length (flow_edges true f.graph.now.nodes);
    source = λ e. (edge_at (flow_edges true f.graph.now.nodes) e).source;
    target = λ e. (edge_at (flow_edges true f.graph.now.nodes) e).target;
    start = λ n. first_out true f.graph.now.nodes n;
    stop = λ n. first_out true f.graph.now.nodes (suc n);
    size = f.bits;
    height = f.bits + f.bits;
    first = λ n. replicate f.bits (lacks_at f.graph.now.nodes n 0, lacks_at f.graph.now.nodes n 1);
    transfer = λ e known. arriving_at (edge_at (flow_edges true f.graph.now.nodes) e).target (edge_at (flow_edges true f.graph.now.nodes) e).source (down_row (edge_at (flow_edges true f.graph.now.nodes) e).source known);
  }

  -- its parts fit together
  pub record IsSlotFlow : Type 0 where
    pub edges_are : f.edges.now ≡ edges_of f.graph.now.nodes
    pub within : AllWithin f.graph.now.nodes
    pub use_rows : AreRows (length f.graph.now.nodes) f.bits f.uses.now
    pub kill_rows : AreRows (length f.graph.now.nodes) f.bits f.kills.now

  -- the values are the least solution
  pub record SolvesSlots (values : List (List (Bool × Bool))) : Type 0 where
    pub len : length values ≡ length f.graph.now.nodes
    pub sizes : AreOfSize length slot_net values
    pub least : HoldsLeast BelowSlots slot_net values

  -- the rows of the first nodes, so many, say which expressions are known to be down by these values
  pub record AreDownRowsTo (values : List (List (Bool × Bool))) (count : ℕ) (rows : List (List Bool)) : Type 0 where
    pub shape : AreRows count f.bits rows
    pub are : (n : ℕ) → n < count → row_of rows n ≡ down_row n (value_at slot_net values n)

  -- so do the rows of all nodes
  abbrev pub AreDownRows : List (List (Bool × Bool)) → List (List Bool) → Type 0
  AreDownRows values rows = AreDownRowsTo values (length f.graph.now.nodes) rows
