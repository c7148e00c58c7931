use Rattle.flow_graph.proofs.LowerMade.{lowered_keeps}
use Rattle.flow_graph.proofs.LoweredDivisions.{divisions_lowered}
use Rattle.flow_graph.proofs.lowering.lower.Goals as goal

pub returns-clause-keeps : goal.returns-clause-keeps
returns-clause-keeps c = lowered_keeps c.args.unit.now c.in_ok-graph.graph c.lower_unit.ensures.tidy c.lower_unit.ensures.below c.requires c.in_ok-graph.ensures.lowered

pub returns-clause-divides : goal.returns-clause-divides
returns-clause-divides c = divisions_lowered c.args.unit.now c.in_ok-graph.graph c.lower_unit.ensures.below c.in_ok-graph.ensures.lowered
