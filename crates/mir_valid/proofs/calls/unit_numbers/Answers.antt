use Rattle.std.proofs.Common.{ap, ◌∙◌, sym}
use Rattle.mir_valid.specs.NameTables.{with_entry}
use Rattle.mir_valid.proofs.UnitNumbers.{unit_numbers_next}
use Rattle.mir_valid.proofs.calls.unit_numbers.Goals as goal

pub loop-number-preserved : goal.loop-number-preserved
loop-number-preserved c =
    c.in_ok-add.ensures.added
    ∙ ap (λ name. with_entry c.loop-number.table (name, c.loop-number.number)) (ap (λ u. u.name) c.unit.view_is)
    ∙ ap (λ table. with_entry table (c.index-units-number.result.name, c.loop-number.number)) c.loop-number.invariant
    ∙ sym (unit_numbers_next c.args.units.now c.loop-number.number c.index-units-number.result c.loop-number-test.true c.index-units-number.is)
