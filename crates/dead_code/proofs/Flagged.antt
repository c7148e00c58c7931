-- The graph in which each flagged node is a Skip.
use Rattle.std.proofs.Common.{◌≡◌, ℕ, suc, Bool, false, List, [], ◌∷◌, length, refl, ap, subst, ◌∙◌, arith}
use Rattle.std.proofs.lemmas.Option.{slice_get-get_or}
use Rattle.flow_graph.specs.declared.nodes.Node.{Node}
use Rattle.flow_graph.specs.Graphs.{GraphShape}
use Rattle.graph_edit.specs.ChangeLaws.{changed_not}
use Rattle.graph_edit.specs.Flagged.{flag_at, graph_flagged, pruned_from}
use Rattle.dead_code.specs.Dead.{NoneFlagged, TellDead}
use Rattle.dead_code.specs.Pruned.{IsPruned}
use Rattle.dead_code.specs.PrunedLaws.{pruned_alike}

-- is the graph without its dead assignments
pub flagged_prunes : (graph : GraphShape) (dead : List Bool) → TellDead graph dead → IsPruned graph (graph_flagged dead graph)
flagged_prunes graph dead tells = record {
  dead = flag_at dead;
  dead_are = λ n lt. tells.are n (flag_at dead n) (slice_get-get_or dead n false (let long = tells.long in omega (arith, lt, long)));
  is = refl;
}

-- which is the graph itself where no node is flagged
pub flagged_itself : (graph : GraphShape) (dead : List Bool) → TellDead graph dead → NoneFlagged dead → IsPruned graph graph
flagged_itself graph dead tells none = subst (IsPruned graph) (ap (λ (l : List Node). record graph { nodes = l }) (pruned_alike (flag_at dead) (λ n. false) graph.nodes (λ n lt. none n (let long = tells.long in omega (arith, lt, long))) ∙ none_pruned 0 graph.nodes)) (flagged_prunes graph dead tells)
  where
    none_pruned : (k : ℕ) (nodes : List Node) → pruned_from (λ n. false) k nodes ≡ nodes
    none_pruned k [] = refl
    none_pruned k (node ∷ nodes) = ap (λ l. l ∷ pruned_from (λ n. false) (suc k) nodes) (changed_not node) ∙ ap (λ l. node ∷ l) (none_pruned (suc k) nodes)
