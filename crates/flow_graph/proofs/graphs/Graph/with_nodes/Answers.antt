use Rattle.flow_graph.specs.MadeCalls.{made_calls}
use Rattle.flow_graph.proofs.Keeps.{made_same, made_cheaper}
use Rattle.flow_graph.proofs.Whole.{whole_retained}
use Rattle.flow_graph.proofs.graphs.Graph.with_nodes.Goals as goal

pub returns-clause-same : goal.returns-clause-same
returns-clause-same c = made_same c.args.self.now.name c.args.self.now.shared c.args.self.now.vars c.args.self.now.received c.args.nodes.items c.in_ok-graph.graph c.requires c.in_ok-graph.ensures

pub returns-clause-cheaper : goal.returns-clause-cheaper
returns-clause-cheaper c = made_cheaper c.args.self.now.name c.args.self.now.shared c.args.self.now.vars c.args.self.now.received c.args.nodes.items c.in_ok-graph.graph c.requires c.in_ok-graph.ensures

pub returns-clause-calls : goal.returns-clause-calls
returns-clause-calls c = λ called count.
    made_calls c.args.self.now.name c.args.self.now.shared c.args.self.now.vars c.args.self.now.received c.args.nodes.items c.in_ok-graph.graph c.in_ok-graph.ensures called count

pub returns-clause-whole : goal.returns-clause-whole
returns-clause-whole c = λ reached. whole_retained c.args.nodes.items c.in_ok-graph.graph.nodes (λ m slot s edge. (c.requires.succs m slot s edge).1) c.in_ok-graph.ensures.nodes_are reached
