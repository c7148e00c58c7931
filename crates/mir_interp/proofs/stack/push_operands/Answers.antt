use Rattle.std.proofs.Common.{◌-◌, ap, ◌∙◌, arith, rules, length, drop, length-drop, length-take, length-append, SFits, w64, to_z-of_z}
use Rattle.mir_base.specs.BelowLaws.{all_below_more}
use Rattle.mir_interp.proofs.Operands.{operand_below, operand_read, pushed_more}
use Rattle.mir_interp.proofs.stack.push_operands.Goals as goal

pub operand-value-requires : goal.operand-value-requires
operand-value-requires c =
    let read = c.deref.result.now in
    let values = c.args.values.now.items in
    let long = ap length (c.deref.ensures.value ∙ c.loop-a.invariant) ∙ length-append values _ in
    all_below_more _ _ _
    (omega (arith, long, length-take (length read - c.args.variables) (drop c.args.variables read), length-drop c.args.variables read, length-drop c.args.variables values))
    (operand_below _ c.args.operands.now c.loop-a.a-index _ c.loop-a-test.true c.requires.below)

pub loop-a-preserved : goal.loop-a-preserved
loop-a-preserved c =
    let below = operand_below _ c.args.operands.now c.loop-a.a-index _ c.loop-a-test.true c.requires.below in
    let read = operand_read c.args.values.now.items _ c.deref.result.now c.args.variables _ c.requires.long (c.deref.ensures.value ∙ c.loop-a.invariant) below in
    let fits : SFits w64 c.operand-value.result = search rules in
    pushed_more _ _ _ _ _ c.loop-a.a-index _ _ c.loop-a-test.true c.loop-a.invariant (to_z-of_z fits ∙ c.operand-value.ensures ∙ read) c.in_ok-push.ensures.items
