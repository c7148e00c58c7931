-- The path over a path where some nodes of a rewritten graph are removed: it is the path through the chains.
use Rattle.std.proofs.Common.{◌≡◌, ◌+◌, ℕ, Bool, List, [], length, slice_get, Option, Some, None, option_map, refl, sym, ap, ◌∙◌}
use Rattle.flow_graph.specs.declared.nodes.Node.{Node}
use Rattle.flow_graph.specs.Graphs.{GraphShape, IsGraph, succs_at, succs_of}
use Rattle.flow_graph.specs.Paths.{IsFullPath, is_return}
use Rattle.graph_edit.specs.ChangeLaws.{changed_succs}
use Rattle.graph_edit.specs.InsertionPaths.{rewritten_alone}
use Rattle.graph_edit.specs.Insertions.{CanRewrite, Rewriting, changed, rewritten_nodes}
use Rattle.graph_edit.specs.Over.{IsOver, over_path}
use Rattle.dead_code.specs.Pruned.{pruned_from, removed_if}
use Rattle.dead_code.specs.PrunedLaws.{pruned_get}
use Rattle.dead_code.specs.PrunedPathLaws.{full_by, pruned_length, return_stays}

module _ (dead : ℕ → Bool) (nodes : List Node) where
  -- a node has the same successors, removed or not
  pub same_succs : (n : ℕ) → succs_at (pruned_from dead 0 nodes) n ≡ succs_at nodes n
  same_succs n = ap succs_of (pruned_get dead nodes 0 n) ∙ at (slice_get nodes n)
    where
      at : (o : Option Node) → succs_of (option_map (changed (removed_if (dead (0 + n)))) o) ≡ succs_of o
      at None = refl
      at (Some node) = changed_succs (removed_if (dead (0 + n))) node

  -- so a full path without them is one with them
  pub full_stood : (path : List ℕ) → IsFullPath (pruned_from dead 0 nodes) path → IsFullPath nodes path
  full_stood = full_by (pruned_from dead 0 nodes) nodes (pruned_length dead 0 nodes) (λ n. sym (same_succs n))
      (λ n. sym (ap is_return (pruned_get dead nodes 0 n) ∙ return_stays (dead (0 + n)) (slice_get nodes n)))

-- so there is one path over a full path
pub pruned_over : (r : Rewriting) (graph : GraphShape) (dead : ℕ → Bool) → CanRewrite r [] graph → IsGraph graph.vars graph.received graph.nodes → (path over : List ℕ) → IsOver graph.nodes (pruned_from dead 0 (rewritten_nodes r graph.nodes)) path over
    → over ≡ over_path r.inserts (length graph.nodes) path
pruned_over r graph dead fits is_graph path over is = rewritten_alone r [] graph fits is_graph path over (record { full = full_stood dead (rewritten_nodes r graph.nodes) over is.full; same = is.same })
