-- Chains of Skips, and the nodes at which they end. Cited by contracts.
use Rattle.std.specs.Prelude.{◌≡◌, ℕ, zero, suc, ◌<◌, ◌≤◌, List, length, slice_get, slice_index_or, Some}
use Rattle.flow_graph.specs.declared.nodes.Node.{Node}
use Rattle.flow_graph.specs.declared.nodes.Node.TheVariants.{Skip}

-- so many Skips lead from node n to node m: the first is n itself, and each next one is the successor of the one before
abbrev pub Skips : List Node → ℕ → ℕ → ℕ → Type 0
Skips nodes zero n m = n ≡ m
Skips nodes (suc k) n m = (next : ℕ) × (slice_get nodes n ≡ Some (Skip next)) × Skips nodes k next m

-- some number of Skips, perhaps none, leads from node n to node m
pub record SkipsTo (nodes : List Node) (n m : ℕ) : Type 0 where
  pub count : ℕ
  pub skips : Skips nodes count n m

-- Chains end at node e: from each node to which Skips lead from e they lead back to it, and none has a lesser number.
-- So e is no Skip, or it is the least-numbered Skip of those that run in a circle
pub record EndsChains (nodes : List Node) (e : ℕ) : Type 0 where
  pub back : (m : ℕ) → SkipsTo nodes e m → SkipsTo nodes m e
  pub least : (m : ℕ) → SkipsTo nodes e m → e ≤ m

-- e is the end of the chain that begins at node n
pub record IsEnd (nodes : List Node) (n e : ℕ) : Type 0 where
  pub leads : SkipsTo nodes n e
  pub ends : EndsChains nodes e

-- the table has the end of chain of each node
pub record AreEnds (nodes : List Node) (ends : List ℕ) : Type 0 where
  pub long : length ends ≡ length nodes
  pub are : (n : ℕ) → n < length nodes → IsEnd nodes n (slice_index_or ends n 0)
