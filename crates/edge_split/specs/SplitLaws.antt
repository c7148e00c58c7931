-- Dividing assignments stay in a split graph, each in its place. For proofs only.
use Rattle.std.proofs.Common.{◌≡◌, ℕ, zero, suc, ◌+◌, Bool, true, false, if◌then◌else◌, List, [], ◌∷◌, length, slice_get, Some, refl, sym, ap, ◌∙◌, subst}
use Rattle.flow_graph.specs.ListLaws.{get_left_some}
use Rattle.mir_base.specs.declared.instructions.Rhs.{Rhs}
use Rattle.flow_graph.specs.declared.nodes.Node.{Node}
use Rattle.flow_graph.specs.declared.nodes.Node.TheVariants.{Assign}
use Rattle.flow_graph.specs.Dividing.{DividesUnchanged}
use Rattle.flow_graph.specs.DividingLaws.{unchanged_in_place}
use Rattle.flow_graph.specs.Graphs.{GraphShape, node_succs}
use Rattle.edge_split.specs.Split.{IsEdgeSplit, is_join, joins_among, rerouted, split_nodes, through_skips, with_succs}

-- an assignment with another successor
module _ (join : ℕ → Bool) (x : ℕ) (rhs : Rhs) (next : ℕ) where
  assigns_still : (k : ℕ) → (after : ℕ) × (with_succs (Assign x rhs next) (through_skips join k (next ∷ [])) ≡ Assign x rhs after)
  assigns_still k = elim (join next) as (λ b. (after : ℕ) × (with_succs (Assign x rhs next) (if b then k ∷ [] else next ∷ []) ≡ Assign x rhs after)) [ true ↦ (k, refl) | false ↦ (next, refl) ]

  rerouted_assigns : (nodes : List Node) (k n : ℕ) → slice_get nodes n ≡ Some (Assign x rhs next)
      → (after : ℕ) × (slice_get (rerouted join k nodes) n ≡ Some (Assign x rhs after))
  rerouted_assigns [] k n is = cc
  rerouted_assigns (node ∷ nodes) k zero is =
      let same : node ≡ Assign x rhs next = cc in
      let still = assigns_still k in
      (still.0, ap (λ (m : Node). Some (with_succs m (through_skips join k (node_succs m)))) same ∙ ap Some still.1)
  rerouted_assigns (node ∷ nodes) k (suc n) is = rerouted_assigns nodes (k + length (joins_among join (node_succs node))) n is

-- so each stays at its number
pub split_unchanged : (graph result : GraphShape) → IsEdgeSplit graph result → DividesUnchanged graph.nodes result.nodes
split_unchanged graph result split = subst (DividesUnchanged graph.nodes) (sym split.nodes_are)
    (unchanged_in_place graph.nodes (split_nodes graph.nodes) (λ n x op left right next may_trap is.
    let there = rerouted_assigns (is_join graph.nodes) x _ next graph.nodes (length graph.nodes) n is in
    (there.0, get_left_some (rerouted (is_join graph.nodes) (length graph.nodes) graph.nodes) _ n _ there.1)))
