use Rattle.std.proofs.Common.{List, map, flat_map, slice_get, ap, ◌∙◌}
use Rattle.mir_base.specs.Shapes.{UnitShape, ProgramShape}
use Rattle.mir_base.specs.Text.{unit_text, global_text}
use Rattle.mir_print.proofs.Joined.{units_more}
use Rattle.mir_print.proofs.printing.print.Goals as goal

pub loop-number-preserved : goal.loop-number-preserved
loop-number-preserved c =
    let units = c.items-units.result.now in
    let same = c.items-units.ensures ∙ ap (λ (program : ProgramShape). program.units) c.program.view_is in
    units_more (unit_text (map (λ (unit : UnitShape). unit.name) units)) units c.loop-number.number c.unit.result.now (flat_map global_text c.args.program.now.globals) c.loop-number.text.items c.put_unit.new.text.items
    (ap (λ (us : List UnitShape). slice_get us c.loop-number.number) same ∙ c.unit.ensures.unit) c.loop-number.invariant c.in_ok-put_unit.ensures
