-- Each clause follows from clause `exact` by the laws of the removal.
use Rattle.std.proofs.Common.{◌≡◌, Bool, List, length, ap, subst, sym, ◌∙◌}
use Rattle.flow_graph.specs.declared.nodes.Node.{Node}
use Rattle.flow_graph.specs.Graphs.{GraphShape, IsGraph}
use Rattle.graph_edit.specs.declared.flow.GraphFlow.{GraphFlow}
use Rattle.dead_code.specs.Dead.{TellDead}
use Rattle.graph_edit.specs.GraphFlows.{IsFlowOf, same_flow}
use Rattle.dead_code.specs.Pruned.{IsPruned}
use Rattle.dead_code.specs.PrunedLaws.{pruned_divides, pruned_keeps, pruned_splits, pruned_succs}
use Rattle.dead_code.specs.PrunedPathLaws.{pruned_length}
use Rattle.dead_code.proofs.Flagged.{flagged_itself, flagged_prunes}
use Rattle.dead_code.proofs.PrunedPaths.{pruned_no_more}
use Rattle.dead_code.proofs.pruning.pruned.Goals as goal
use Rattle.dead_code.proofs.pruning.pruned.Goals.{After-without_flagged-pruned, Else-has_dead}

-- what its nodes are told to be is true of the graph
graph_of : (graph : GraphShape) (nodes : List Node) → nodes ≡ graph.nodes → IsGraph graph.vars graph.received nodes → IsGraph graph.vars graph.received graph.nodes
graph_of graph nodes same is = subst (λ (l : List Node). IsGraph graph.vars graph.received l) same is

pub without_flagged-pruned-requires : goal.without_flagged-pruned-requires
without_flagged-pruned-requires c = ap (λ (l : List Bool). length l) c.as_slice-flags.ensures.value ∙ c.in_ok-dead.ensures.long

-- the edges and the blocks stay
pruned_flow : (graph pruned : GraphShape) → IsGraph graph.vars graph.received graph.nodes → IsPruned graph pruned → (flow : GraphFlow) → IsFlowOf graph.nodes flow → IsFlowOf pruned.nodes flow
pruned_flow graph pruned is_graph exact flow is = same_flow graph.nodes pruned.nodes (record {
  long = sym (ap (λ (g : GraphShape). length g.nodes) exact.is ∙ pruned_length exact.dead 0 graph.nodes);
  succs = λ n. sym (pruned_succs graph pruned is_graph exact n);
}) flow is

-- ---- where some node is dead

graph_then : (c : After-without_flagged-pruned) → IsGraph c.args.graph.vars c.args.graph.received c.args.graph.nodes
graph_then c = graph_of c.args.graph c.nodes-nodes.result.now c.nodes-nodes.ensures.value c.nodes-nodes.ensures.graph

exact_then : (c : After-without_flagged-pruned) → IsPruned c.args.graph c.without_flagged-pruned.result
exact_then c = subst (IsPruned c.args.graph) (sym c.without_flagged-pruned.ensures) (flagged_prunes c.args.graph c.as_slice-flags.result.now (subst (TellDead c.args.graph) (sym c.as_slice-flags.ensures.value) c.in_ok-dead.ensures))

pub returns-then-has_dead-clause-exact : goal.returns-then-has_dead-clause-exact
returns-then-has_dead-clause-exact c = exact_then (goal.at.returns-then-has_dead-clause-exact c).After-without_flagged-pruned

pub returns-then-has_dead-clause-keeps : goal.returns-then-has_dead-clause-keeps
returns-then-has_dead-clause-keeps c = let here = (goal.at.returns-then-has_dead-clause-keeps c).After-without_flagged-pruned in pruned_keeps c.args.graph c.without_flagged-pruned.result (graph_then here) (exact_then here)

pub returns-then-has_dead-clause-split : goal.returns-then-has_dead-clause-split
returns-then-has_dead-clause-split c = let here = (goal.at.returns-then-has_dead-clause-split c).After-without_flagged-pruned in pruned_splits c.args.graph c.without_flagged-pruned.result (graph_then here) (exact_then here)

pub returns-then-has_dead-clause-divides : goal.returns-then-has_dead-clause-divides
returns-then-has_dead-clause-divides c = let here = (goal.at.returns-then-has_dead-clause-divides c).After-without_flagged-pruned in pruned_divides c.args.graph c.without_flagged-pruned.result (graph_then here) (exact_then here)

pub returns-then-has_dead-clause-no_more : goal.returns-then-has_dead-clause-no_more
returns-then-has_dead-clause-no_more c = let here = (goal.at.returns-then-has_dead-clause-no_more c).After-without_flagged-pruned in pruned_no_more c.args.graph c.without_flagged-pruned.result (graph_then here) (exact_then here)

pub returns-then-has_dead-clause-flow : goal.returns-then-has_dead-clause-flow
returns-then-has_dead-clause-flow c = let here = (goal.at.returns-then-has_dead-clause-flow c).After-without_flagged-pruned in pruned_flow c.args.graph c.without_flagged-pruned.result (graph_then here) (exact_then here) c.args.flow.now c.requires

-- ---- where none is

graph_else : (c : Else-has_dead) → IsGraph c.args.graph.vars c.args.graph.received c.args.graph.nodes
graph_else c = graph_of c.args.graph c.nodes-nodes.result.now c.nodes-nodes.ensures.value c.nodes-nodes.ensures.graph

exact_else : (c : Else-has_dead) → IsPruned c.args.graph c.args.graph
exact_else c = flagged_itself c.args.graph c.as_slice-flags.result.now (subst (TellDead c.args.graph) (sym c.as_slice-flags.ensures.value) c.in_ok-dead.ensures) (c.has_dead.ensures.0 c.if-has_dead.false)

pub returns-clause-exact : goal.returns-clause-exact
returns-clause-exact c = exact_else (goal.at.returns-clause-exact c).Else-has_dead

pub returns-clause-keeps : goal.returns-clause-keeps
returns-clause-keeps c = let here = (goal.at.returns-clause-keeps c).Else-has_dead in pruned_keeps c.args.graph c.args.graph (graph_else here) (exact_else here)

pub returns-clause-divides : goal.returns-clause-divides
returns-clause-divides c = let here = (goal.at.returns-clause-divides c).Else-has_dead in pruned_divides c.args.graph c.args.graph (graph_else here) (exact_else here)

pub returns-clause-no_more : goal.returns-clause-no_more
returns-clause-no_more c = let here = (goal.at.returns-clause-no_more c).Else-has_dead in pruned_no_more c.args.graph c.args.graph (graph_else here) (exact_else here)
