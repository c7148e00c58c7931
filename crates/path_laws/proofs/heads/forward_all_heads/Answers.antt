use Rattle.std.proofs.Common.{length, subst}
use Rattle.path_laws.specs.Paths.{AreRows}
use Rattle.path_laws.specs.RowLaws.{like_rows}
use Rattle.path_laws.proofs.Arriving.{born_at_heads}
use Rattle.path_laws.proofs.heads.forward_all_heads.Goals as goal

pub returns-clause-shape : goal.returns-clause-shape
returns-clause-shape c =
    let count = length c.args.blocks.now.lists in
    like_rows count c.args.bits c.in_ok-rows.rows c.flip_rows.new.self (subst (λ n. AreRows n c.args.bits c.in_ok-rows.rows) c.requires.lost.len c.in_ok-rows.ensures.joined.brought.shape) c.flip_rows.ensures.alike

pub returns-clause-paths : goal.returns-clause-paths
returns-clause-paths c = λ born stop along.
    born_at_heads c.args.graph.now (rw c.nodes-nodes.ensures.value at c.nodes-nodes.ensures.graph) c.args.blocks.now.lists c.requires.blocks.are c.args.bits born stop c.args.lost.now c.args.held.now c.in_ok-rows.rows c.flip_rows.new.self c.requires.lost c.in_ok-rows.ensures along
    c.flip_rows.ensures.before c.flip_rows.ensures.bits
