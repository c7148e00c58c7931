use Rattle.path_laws.specs.Between.{AreBetween}
use Rattle.path_laws.proofs.between.edges_between.Given as goal

abbrev pub invariant-loop-block : goal.invariant-loop-block
invariant-loop-block l = AreBetween l.against l.graph.nodes l.blocks.lists l.block l.list.items l.firsts.items
