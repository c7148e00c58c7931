-- What is kept follows from clause `exact` by the laws of rewritten graphs.
use Rattle.std.proofs.Common.{subst}
use Rattle.flow_graph.specs.Graphs.{AllWithin}
use Rattle.sink_code.proofs.SunkKeeps.{sunk_round}
use Rattle.sink_code.proofs.sinking.sunk.Goals as goal

pub returns-clause-keeps : goal.returns-clause-keeps
returns-clause-keeps c = sunk_round c.args.graph.now c.in_ok-sunk.ensures.graph c.requires.split c.in_ok-sunk.sunk c.in_ok-sunk.ensures.exact
    (subst AllWithin c.nodes-nodes.ensures.value (λ m slot s edge. (c.nodes-nodes.ensures.graph.can.succs m slot s edge).1))
