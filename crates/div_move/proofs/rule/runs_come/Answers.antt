use Rattle.std.proofs.Common.{subst}
use Rattle.flow_graph.specs.Graphs.{AllWithin}
use Rattle.div_move.proofs.RunsCome.{must_run}
use Rattle.div_move.proofs.rule.runs_come.Goals as goal

pub returns : goal.returns
returns c = λ e n lt must. must_run c.args.graph.now e (subst AllWithin c.nodes-nodes.ensures.value (λ m slot s edge. (c.nodes-nodes.ensures.graph.can.succs m slot s edge).1)) n lt must
