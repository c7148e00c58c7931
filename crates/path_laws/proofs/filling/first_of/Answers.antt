use Rattle.path_laws.specs.Places.{node_in}
use Rattle.path_laws.proofs.filling.first_of.Goals as goal
use Rattle.flow_graph.specs.BlockLaws.{chain_some}

pub node_at-requires : goal.node_at-requires
node_at-requires c = chain_some c.args.problem.now.graph.now.nodes c.nodes.result.now (c.requires.problem.blocks_are.are.blocks c.args.block c.nodes.result.now c.nodes.ensures).chain

pub returns-clause-first : goal.returns-clause-first
returns-clause-first c = (node_in c.args.problem.now c.args.block 0 c.node_at.result c.nodes.result.now c.requires.problem c.nodes.ensures c.node_at.ensures).0

pub returns-clause-node : goal.returns-clause-node
returns-clause-node c = (node_in c.args.problem.now c.args.block 0 c.node_at.result c.nodes.result.now c.requires.problem c.nodes.ensures c.node_at.ensures).1
