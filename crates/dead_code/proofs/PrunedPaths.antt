-- A full path of a graph is one of the graph without its dead assignments, and no assignment stands more often on it.
use Rattle.std.proofs.Common.{◌≡◌, ◌≤◌, ◌+◌, ℕ, Bool, true, false, List, [], ◌∷◌, length, count_by, slice_get, Option, Some, None, option_map, refl, sym, ap, ◌∙◌, arith}
use Rattle.mir_base.specs.declared.instructions.Rhs.{Rhs}
use Rattle.flow_graph.specs.declared.nodes.Node.{Node}
use Rattle.flow_graph.specs.declared.nodes.Node.TheVariants.{Start, Skip, Assign, Print, Guard, Call, Test, Return}
use Rattle.flow_graph.specs.Graphs.{GraphShape, IsGraph, succs_at}
use Rattle.graph_edit.specs.Insertions.{changed}
use Rattle.flow_graph.specs.Paths.{IsFullPath, IsPath, is_return}
use Rattle.flow_graph.specs.Sums.{count_sums, one_if, sum_on}
use Rattle.graph_edit.specs.Accesses.{is_occurrence, occurs_at}
use Rattle.graph_edit.specs.NoMore.{HasNoMore}
use Rattle.graph_edit.specs.NoMoreLaws.{no_more_in_place}
use Rattle.dead_code.specs.Pruned.{IsPruned, removed_if}
use Rattle.dead_code.specs.PrunedLaws.{pruned_get, pruned_succs}
use Rattle.dead_code.specs.PrunedPathLaws.{full_by, pruned_length, return_stays}

-- a node is an occurrence, removed or not, only where it was one
occurs_less : (x : ℕ) (t : Rhs) (gone : Bool) (o : Option Node) → one_if (is_occurrence x t (option_map (changed (removed_if gone)) o)) ≤ one_if (is_occurrence x t o)
occurs_less x t gone None = omega arith
occurs_less x t gone (Some (Start next)) = omega arith
occurs_less x t gone (Some (Skip next)) = omega arith
occurs_less x t true (Some (Assign y rhs next)) = omega arith
occurs_less x t false (Some (Assign y rhs next)) = omega arith
occurs_less x t gone (Some (Print a next)) = omega arith
occurs_less x t gone (Some (Guard test number next)) = omega arith
occurs_less x t gone (Some (Call into unit operands next)) = omega arith
occurs_less x t gone (Some (Test test taken other)) = omega arith
occurs_less x t gone (Some (Return a)) = omega arith

module _ (graph pruned : GraphShape) (is_graph : IsGraph graph.vars graph.received graph.nodes) (p : IsPruned graph pruned) where
  node_is : (n : ℕ) → slice_get pruned.nodes n ≡ option_map (changed (removed_if (p.dead (0 + n)))) (slice_get graph.nodes n)
  node_is n = ap (λ (g : GraphShape). slice_get g.nodes n) p.is ∙ pruned_get p.dead graph.nodes 0 n

  as_many : length pruned.nodes ≡ length graph.nodes
  as_many = ap (λ (g : GraphShape). length g.nodes) p.is ∙ pruned_length p.dead 0 graph.nodes

  same_returns : (n : ℕ) → is_return (slice_get pruned.nodes n) ≡ is_return (slice_get graph.nodes n)
  same_returns n = ap is_return (node_is n) ∙ return_stays (p.dead (0 + n)) (slice_get graph.nodes n)

  -- so the full paths of the two graphs are the same
  full_stood : (path : List ℕ) → IsFullPath pruned.nodes path → IsFullPath graph.nodes path
  full_stood path full = full_by pruned.nodes graph.nodes as_many (λ n. sym (pruned_succs graph pruned is_graph p n)) (λ n. sym (same_returns n)) path full

  full_stays : (path : List ℕ) → IsFullPath graph.nodes path → IsFullPath pruned.nodes path
  full_stays path full = full_by graph.nodes pruned.nodes (sym as_many) (pruned_succs graph pruned is_graph p) same_returns path full

  fewer : (x : ℕ) (t : Rhs) (path : List ℕ) → sum_on (λ n. one_if (occurs_at x t pruned n)) path ≤ sum_on (λ n. one_if (occurs_at x t graph n)) path
  fewer x t [] = omega arith
  fewer x t (n ∷ path) =
      let same = ap {B = ℕ} (λ o. one_if (is_occurrence x t o)) (node_is n) in
      omega (arith, same, occurs_less x t (p.dead (0 + n)) (slice_get graph.nodes n), fewer x t path)

  -- on each path no assignment stands more often
  counts_less : (x : ℕ) (t : Rhs) (path : List ℕ) → count_by (occurs_at x t pruned) path ≤ count_by (occurs_at x t graph) path
  counts_less x t path = omega (arith, count_sums (occurs_at x t pruned) path, count_sums (occurs_at x t graph) path, fewer x t path)

  -- so it is on each full path, which is its own corresponding one
  pub pruned_no_more : HasNoMore graph pruned
  pruned_no_more = no_more_in_place graph pruned as_many full_stays full_stood counts_less
