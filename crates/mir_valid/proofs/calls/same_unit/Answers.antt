use Rattle.std.proofs.Common.{◌≡◌, None, ap, ◌∙◌, is_none, not, if◌then◌else◌}
use Rattle.mir_parse.specs.RawUnit.{RawUnitShape}
use Rattle.mir_valid.specs.Names.{number_in}
use Rattle.mir_valid.specs.Refusals.{lesser}
use Rattle.mir_valid.specs.NameTables.{with_entry}
use Rattle.mir_valid.proofs.SameNames.{finds_next, same_next}
use Rattle.mir_valid.proofs.calls.same_unit.Goals as goal

pub loop-unit-preserved : goal.loop-unit-preserved
loop-unit-preserved c =
    let name : c.unit.inside.name ≡ c.unit-item.result.name = ap (λ (u : RawUnitShape). u.name) c.unit.view_is in
    let line : c.unit.inside.line ≡ c.unit-item.result.line = ap (λ (u : RawUnitShape). u.line) c.unit.view_is in
    record {
      seen =
          finds_next (λ (u : RawUnitShape). u.name) c.args.units.now c.loop-unit.unit-index c.unit-item.result c.loop-unit.seen c.add.new.self c.loop-unit-test.true c.unit-item.is
          c.loop-unit.invariant.seen (c.in_ok-is_new.ensures.added ∙ ap (λ x. with_entry c.loop-unit.seen (x, 0)) name);
      least =
          same_next (λ (u : RawUnitShape). u.name) (λ u. u.line) c.args.units.now c.loop-unit.unit-index c.unit-item.result c.loop-unit.seen None c.loop-unit.best c.lesser_if-best.result
          c.in_ok-is_new.is_new c.loop-unit-test.true c.unit-item.is c.loop-unit.invariant.seen c.loop-unit.invariant.least
          (c.in_ok-is_new.ensures.new ∙ ap (λ x. is_none (number_in c.loop-unit.seen x)) name)
          (c.lesser_if-best.ensures ∙ ap (λ n. if not c.in_ok-is_new.is_new then lesser c.loop-unit.best n else c.loop-unit.best) line);
    }
