use Rattle.std.proofs.lemmas.List.Elements.{All-more}
use Rattle.mir_print.specs.WellTyped.{OperandWellTyped}
use Rattle.mir_print.proofs.Prefixes.{prefix_whole}
use Rattle.mir_print.proofs.well_typed.hand_out_operands.Goals as goal

pub loop-operand-preserved : goal.loop-operand-preserved
loop-operand-preserved c = All-more OperandWellTyped c.args.operands.now c.loop-operand.operand-index _ c.loop-operand-test.true c.loop-operand.invariant c.hand_out_operand.ensures

pub returns : goal.returns
returns c = prefix_whole OperandWellTyped c.args.operands.now c.loop-operand.operand-index c.loop-operand-test.false c.loop-operand.invariant
