use Rattle.std.proofs.Common.{◌≤◌, length, subst}
use Rattle.flow_graph.specs.Graphs.{IsGraph}
use Rattle.sink_rounds.proofs.Best.{is_best}
use Rattle.sink_rounds.proofs.repeating.next_round.Goals as goal

pub returns : goal.returns
returns c = record {
  round = c.in_ok-pruned.ensures.round;
  flow = c.in_ok-compared.ensures.flow;
  outline = c.in_ok-compared.ensures.outline;
  changed = c.in_ok-compared.ensures.changed;
  keeps = c.in_ok-pruned.ensures.keeps;
  best = is_best c.args.graph.now
      (subst (IsGraph c.args.graph.now.vars c.args.graph.now.received) c.nodes-nodes.ensures.value c.nodes-nodes.ensures.graph)
      c.requires.split c.in_ok-pruned.pruned.graph c.in_ok-pruned.ensures.round
      (subst (λ k. k ≤ length c.args.graph.now.vars) c.shared-shared.ensures.value c.shared-shared.ensures.shares.count)
      (subst (IsGraph c.in_ok-pruned.pruned.graph.vars c.in_ok-pruned.pruned.graph.received) c.nodes-made.ensures.value c.nodes-made.ensures.graph);
}
