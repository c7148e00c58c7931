use Rattle.std.proofs.Common.{◌++◌, flat_map, subst, sym}
use Rattle.mir_base.specs.Frames.{shared_vars}
use Rattle.mir_base.specs.Shapes.{into_vars, operand_vars}
use Rattle.wanted_bits.specs.NewsShapes.{AreNoted}
use Rattle.wanted_bits.specs.Touching.{touched_vars}
use Rattle.wanted_bits.proofs.Noted.{noted_append}
use Rattle.wanted_bits.proofs.touching.note_node.Goals as goal

pub returns-in-Call : goal.returns-in-Call
returns-in-Call c =
    let old = c.args.noted.now in
    let globals = c.note_globals.new.noted in
    let new = c.note_call.new.noted in
    let call = subst (λ operands. AreNoted (into_vars c.in-Call.into ++ flat_map operand_vars operands) globals new) c.items.ensures c.note_call.ensures in
    subst (λ node. AreNoted (touched_vars c.args.shared c.args.back node) old new) (sym c.in-Call.is)
    (noted_append (shared_vars c.args.shared) (into_vars c.in-Call.into ++ flat_map operand_vars c.in-Call.args) old globals new c.note_globals.ensures call)

pub returns-in-Return : goal.returns-in-Return
returns-in-Return c =
    let old = c.args.noted.now in
    let globals = c.note_globals-in-Return.new.noted in
    let new = c.note_operand-in-Return.new.noted in
    subst (λ node. AreNoted (touched_vars c.args.shared c.args.back node) old new) (sym c.in-Return.is)
    (noted_append (shared_vars c.args.shared) (operand_vars c.in-Return.a) old globals new c.note_globals-in-Return.ensures c.note_operand-in-Return.ensures)
