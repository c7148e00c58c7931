use Rattle.std.proofs.Common.{List, Bool, subst, arith}
use Rattle.latest_place.specs.Parts.{AddsRow}
use Rattle.latest_place.proofs.PartRows.{below_all, below_more, below_none}
use Rattle.latest_place.proofs.parts.add_bits.Goals as goal

pub loop-node-init : goal.loop-node-init
loop-node-init c = below_none c.args.numbers.now c.args.part.now c.args.rows.now

pub loop-node-preserved : goal.loop-node-preserved
loop-node-preserved c =
    below_more c.args.numbers.now c.args.part.now c.args.rows.now c.loop-node.node c.loop-node.rows c.add_row.new.rows c.loop-node.invariant
    (subst (λ (row : List Bool). AddsRow c.args.numbers.now c.loop-node.node row c.loop-node.rows c.add_row.new.rows) c.row.ensures c.add_row.ensures)

pub returns : goal.returns
returns c = below_all c.args.numbers.now c.args.part.now c.args.rows.now c.loop-node.node c.loop-node.rows (omega (arith, c.loop-node-test.false, c.len-node-end.ensures)) c.loop-node.invariant
