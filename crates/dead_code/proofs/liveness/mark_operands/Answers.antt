use Rattle.std.proofs.Common.{◌∙◌, true, [], flat_map, get_or, length, take, ap, sym, subst}
use Rattle.std.proofs.lemmas.List.{flat_map_more}
use Rattle.std.proofs.lemmas.Option.{slice_get-get_or}
use Rattle.mir_base.specs.declared.instructions.Operand.TheVariants.{Var}
use Rattle.mir_base.specs.BelowLaws.{all_below_item}
use Rattle.mir_base.specs.Shapes.{AllBelow, operand_vars}
use Rattle.bit_rows.specs.Bits.{row_of}
use Rattle.flow_graph.specs.ListLaws.{take_one}
use Rattle.dead_code.specs.LiveRows.{IsMarkedAt}
use Rattle.dead_code.proofs.PrunedMarks.{marked_both}
use Rattle.dead_code.proofs.liveness.mark_operands.Goals as goal

pub mark_operand-requires-clause-vars : goal.mark_operand-requires-clause-vars
mark_operand-requires-clause-vars c =
    let operands = c.args.operands.now in
    let i = c.loop-operand.operand-index in
    let operand = get_or operands i (Var 0) in
    subst (λ k. AllBelow k (operand_vars operand)) (sym (c.loop-operand.invariant.each c.args.n))
    (all_below_item operand_vars (length (row_of c.args.rows.now c.args.n)) operands i operand c.requires.vars (slice_get-get_or operands i (Var 0) c.loop-operand-test.true))

pub loop-operand-preserved : goal.loop-operand-preserved
loop-operand-preserved c =
    let operands = c.args.operands.now in
    let i = c.loop-operand.operand-index in
    let operand = get_or operands i (Var 0) in
    let at = slice_get-get_or operands i (Var 0) c.loop-operand-test.true in
    let flat = flat_map_more operand_vars [] (take i operands) operand ∙ ap (flat_map operand_vars) (sym (take_one operands i operand at)) in
    subst (λ xs. IsMarkedAt true c.args.n xs c.args.rows.now c.mark_operand.new.rows) flat
    (marked_both true c.args.n (flat_map operand_vars (take i operands)) (operand_vars operand) c.args.rows.now c.loop-operand.rows c.mark_operand.new.rows c.loop-operand.invariant c.mark_operand.ensures)
