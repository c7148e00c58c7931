-- Liveness in a rewritten graph, told on the nodes of the graph that is rewritten.
use Rattle.std.specs.Prelude.{◌≡◌, ◌⊎◌, ◌<◌, ℕ, true, false, nat_eq, List, [], ◌∷◌, length, slice_get, Option, None, option_map}
use Rattle.mir_base.specs.Shapes.{rhs_vars}
use Rattle.flow_graph.specs.declared.nodes.Node.{Node}
use Rattle.flow_graph.specs.Graphs.{GraphShape}
use Rattle.flow_graph.specs.Numbering.{is_in}
use Rattle.flow_graph.specs.Paths.{HasEdge}
use Rattle.graph_edit.specs.Insertions.{Insertion, Rewriting, changed}
use Rattle.sink_code.specs.Sinking.{put_for}
use Rattle.graph_edit.specs.Accesses.{assigns_var, reads_var}

-- one of the insertions reads x, and none before it assigns x
abbrev pub ReadsFirst : ℕ → List Insertion → Type 0
ReadsFirst x [] = ⊥
ReadsFirst x (put ∷ puts) = (is_in x (rhs_vars put.rhs) ≡ true) ⊎ ((nat_eq x put.var ≡ false) × ReadsFirst x puts)

-- what becomes of node m
abbrev pub node_after : GraphShape → Rewriting → ℕ → Option Node
node_after graph r m = option_map (changed (r.changes m)) (slice_get graph.nodes m)

-- x is live in the rewritten graph before the old node m, behind what is put before it
pub data LiveOver (graph : GraphShape) (r : Rewriting) (x : ℕ) : ℕ → Type 0 where
  read_at : (m : ℕ) → reads_var graph x (node_after graph r m) ≡ true → LiveOver graph r x m
  read_before : (m s : ℕ) → assigns_var graph x (node_after graph r m) ≡ false → HasEdge graph.nodes m s → ReadsFirst x (r.inserts s) → LiveOver graph r x m
  goes_to : (m s : ℕ) → assigns_var graph x (node_after graph r m) ≡ false → HasEdge graph.nodes m s → put_for (r.inserts s) x ≡ None → LiveOver graph r x s → LiveOver graph r x m

-- two predicates that contain what is live before old nodes (`At`), and before what is put before them (`Before`)
pub record ContainsLive (graph : GraphShape) (r : Rewriting) (x : ℕ) (At Before : ℕ → Type 0) : Type 0 where
  pub reads : (m : ℕ) → reads_var graph x (node_after graph r m) ≡ true → At m
  pub back : (m s : ℕ) → HasEdge graph.nodes m s → assigns_var graph x (node_after graph r m) ≡ false → Before s → At m
  pub first : (s : ℕ) → s < length graph.nodes → ReadsFirst x (r.inserts s) → Before s
  pub enter : (s : ℕ) → s < length graph.nodes → put_for (r.inserts s) x ≡ None → At s → Before s
