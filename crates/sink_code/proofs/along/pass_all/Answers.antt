use Rattle.std.proofs.Common.{get_or, refl, arith}
use Rattle.std.proofs.lemmas.Option.{slice_get-get_or}
use Rattle.flow_graph.specs.BlockLaws.{chain_within, edge_within}
use Rattle.sink_code.proofs.Carrying.{has_passed_more}
use Rattle.sink_code.proofs.along.pass_all.Goals as goal

pub pass_over-requires-clause-node : goal.pass_over-requires-clause-node
pass_over-requires-clause-node c =
    let nodes = c.args.over.now.graph.now.nodes in
    let list = c.args.list.now in
    chain_within nodes list c.loop-index.index (get_or list c.loop-index.index 0) (λ m k edge. edge_within nodes m k edge) (c.requires.over.blocks.are.blocks c.args.block list c.requires.list).chain (slice_get-get_or list c.loop-index.index 0 c.loop-index-test.true)

pub pass_over-requires-clause-row : goal.pass_over-requires-clause-row
pass_over-requires-clause-row c = omega (arith, c.loop-index.invariant.len)

pub pass_over-requires-clause-rows : goal.pass_over-requires-clause-rows
pass_over-requires-clause-rows c = record { len = refl; each = c.loop-index.invariant.each }

pub loop-index-preserved : goal.loop-index-preserved
loop-index-preserved c =
    let list = c.args.list.now in
    has_passed_more c.args.over.now c.args.block list c.loop-index.index (get_or list c.loop-index.index 0) c.loop-index.rows c.pass_over.new.rows (slice_get-get_or list c.loop-index.index 0 c.loop-index-test.true) c.loop-index.invariant c.pass_over.ensures
