use Rattle.std.proofs.Common.{◌∙◌, [], flat_map, get_or, take, ap, sym, subst}
use Rattle.std.proofs.lemmas.List.{flat_map_more}
use Rattle.std.proofs.lemmas.Option.{slice_get-get_or}
use Rattle.mir_base.specs.declared.instructions.Operand.TheVariants.{Var}
use Rattle.mir_base.specs.Shapes.{operand_vars}
use Rattle.flow_graph.specs.ListLaws.{take_one}
use Rattle.wanted_bits.specs.NewsShapes.{AreNoted}
use Rattle.wanted_bits.proofs.Noted.{noted_append, noted_none}
use Rattle.wanted_bits.proofs.touching.note_operands.Goals as goal

pub loop-i-init : goal.loop-i-init
loop-i-init c = noted_none c.args.noted.now

pub loop-i-preserved : goal.loop-i-preserved
loop-i-preserved c =
    let operands = c.args.operands.now in
    let i = c.loop-i.i in
    let operand = get_or operands i (Var 0) in
    let at = slice_get-get_or operands i (Var 0) c.loop-i-test.true in
    let flat = flat_map_more operand_vars [] (take i operands) operand ∙ ap (flat_map operand_vars) (sym (take_one operands i operand at)) in
    subst (λ xs. AreNoted xs c.args.noted.now c.note_operand.new.noted) flat (noted_append (flat_map operand_vars (take i operands)) (operand_vars operand) c.args.noted.now c.loop-i.noted c.note_operand.new.noted c.loop-i.invariant c.note_operand.ensures)
