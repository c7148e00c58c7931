use Rattle.std.proofs.Common.{◌≤◌, ◌∙◌, List, false, ap, length, replicate, arith}
use Rattle.flow_graph.specs.declared.nodes.Node.{Node}
use Rattle.sink_code.specs.Over.{lists_of}
use Rattle.sink_code.proofs.Carrying.{carried_all, carried_none}
use Rattle.sink_code.proofs.along.carried_rows.Goals as goal

pub loop-block-init : goal.loop-block-init
loop-block-init c =
    carried_none c.args.over.now c.in_ok-rows.rows (c.in_ok-rows.ensures ∙ ap (λ (l : List Node). replicate (length l) (replicate c.len.result false)) c.nodes-nodes.ensures.value ∙ ap (λ b. replicate (length c.args.over.now.graph.now.nodes) (replicate b false)) c.len.ensures.len)

pub returns : goal.returns
returns c =
    let late : length (lists_of c.args.over.now) ≤ c.loop-block.block = omega (arith, c.loop-block-test.false, c.len-block-end.ensures) in
    carried_all c.args.over.now c.loop-block.block c.loop-block.rows c.requires.over.blocks.are late c.loop-block.invariant
