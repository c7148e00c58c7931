use Rattle.mir_base.specs.Text.{operand_text}
use Rattle.mir_base.specs.declared.instructions.Operand.TheVariants.{Var}
use Rattle.mir_print.specs.Scopes.{naming_of}
use Rattle.mir_print.proofs.Joined.{args_more}
use Rattle.mir_print.proofs.operands.put_args.Goals as goal

pub loop-number-preserved : goal.loop-number-preserved
loop-number-preserved c =
    args_more (operand_text (naming_of c.args.scope.now)) c.args.operands.now c.loop-number.number (Var 0) _ c.loop-number.text.items _ c.loop-number-test.true c.loop-number.invariant
    c.in_ok-put_arg.ensures
