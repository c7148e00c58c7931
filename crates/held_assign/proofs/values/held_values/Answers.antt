use Rattle.std.proofs.Common.{subst}
use Rattle.flow_graph.specs.Graphs.{CanMake}
use Rattle.held_assign.specs.HeldValueLaws.{held_values_agree}
use Rattle.held_assign.proofs.values.held_values.Goals as goal

pub returns : goal.returns
returns c = held_values_agree c.args.graph.now (subst (CanMake c.args.graph.now.vars c.args.graph.now.received) c.nodes-nodes.ensures.value c.nodes-nodes.ensures.graph.can)
