use Rattle.std.proofs.Common.{subst}
use Rattle.path_laws.specs.Paths.{AreRows}
use Rattle.path_laws.proofs.Arriving.{born_at_ends}
use Rattle.path_laws.proofs.heads.backward_some_ends.Goals as goal

pub returns-clause-shape : goal.returns-clause-shape
returns-clause-shape c = subst (λ n. AreRows n c.args.bits c.in_ok-rows.rows) c.requires.born.len c.in_ok-rows.ensures.joined.brought.shape

pub returns-clause-paths : goal.returns-clause-paths
returns-clause-paths c = λ bears stops back.
    born_at_ends c.args.graph.now (rw c.nodes-nodes.ensures.value at c.nodes-nodes.ensures.graph) c.args.blocks.now.lists c.requires.blocks.are c.args.bits bears stops c.args.born.now c.args.stop.now c.in_ok-rows.rows c.requires.born c.in_ok-rows.ensures back
