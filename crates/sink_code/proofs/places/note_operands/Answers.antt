use Rattle.std.proofs.Common.{◌∙◌, List, [], flat_map, get_or, length, take, ap, sym, subst}
use Rattle.std.proofs.lemmas.List.{flat_map_more}
use Rattle.std.proofs.lemmas.Option.{slice_get-get_or}
use Rattle.mir_base.specs.declared.instructions.Operand.TheVariants.{Var}
use Rattle.mir_base.specs.BelowLaws.{all_below_item}
use Rattle.mir_base.specs.Shapes.{AllBelow, operand_vars}
use Rattle.flow_graph.specs.ListLaws.{take_one}
use Rattle.sink_code.specs.declared.places.BlockPlace.{BlockPlace}
use Rattle.sink_code.specs.BlockPlaces.{noted}
use Rattle.sink_code.proofs.Noted.{noted_append, noted_length}
use Rattle.sink_code.proofs.places.note_operands.Goals as goal

pub note_operand-requires : goal.note_operand-requires
note_operand-requires c =
    let operands = c.args.operands.now in
    let i = c.loop-operand.operand-index in
    let operand = get_or operands i (Var 0) in
    let long = ap (λ (l : List BlockPlace). length l) c.loop-operand.invariant ∙ noted_length c.args.place (flat_map operand_vars (take i operands)) c.args.places.now in
    subst (λ k. AllBelow k (operand_vars operand)) (sym long)
    (all_below_item operand_vars (length c.args.places.now) operands i operand c.requires (slice_get-get_or operands i (Var 0) c.loop-operand-test.true))

pub loop-operand-preserved : goal.loop-operand-preserved
loop-operand-preserved c =
    let operands = c.args.operands.now in
    let i = c.loop-operand.operand-index in
    let operand = get_or operands i (Var 0) in
    let at = slice_get-get_or operands i (Var 0) c.loop-operand-test.true in
    let flat = flat_map_more operand_vars [] (take i operands) operand ∙ ap (flat_map operand_vars) (sym (take_one operands i operand at)) in
    c.note_operand.ensures
    ∙ ap (noted c.args.place (operand_vars operand)) c.loop-operand.invariant
    ∙ sym (noted_append c.args.place (flat_map operand_vars (take i operands)) (operand_vars operand) c.args.places.now)
    ∙ ap (λ xs. noted c.args.place xs c.args.places.now) flat
