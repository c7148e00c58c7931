use Rattle.std.proofs.Common.{◌≡◌, ◌∙◌, length, ap, arith}
use Rattle.program_pass.specs.UnitMakes.{each_more, long_more}
use Rattle.program_bounds.specs.Tables.{facts_of}
use Rattle.program_bounds.specs.Programs.{BoundedBy, IsBoundedBetween}
use Rattle.program_bounds.proofs.programs.bounded_units.Goals as goal

pub loop-number-preserved : goal.loop-number-preserved
loop-number-preserved c =
    let known = facts_of c.args.tables.now in
    let units = c.loop-number.units.items in
    let more = c.push.new.self.items in
    let target = c.in_ok-bounded_unit.field-0 in
    record {
      long = long_more units more c.loop-number.number target c.loop-number.invariant.long c.in_ok-push.ensures.items;
      units = each_more (BoundedBy known) (IsBoundedBetween known) c.args.program.now.units units more c.loop-number.number target c.loop-number.invariant.long c.loop-number.invariant.units c.in_ok-bounded_unit.ensures c.in_ok-push.ensures.items;
    }

pub returns : goal.returns
returns c =
    let same : c.items-number-end.result.now ≡ c.args.program.now.units = c.items-number-end.ensures ∙ ap (λ p. p.units) c.program.view_is in
    let long : length c.items-number-end.result.now ≡ length c.args.program.now.units = ap (λ l. length l) same in
    record { long = omega (arith, long, c.loop-number.invariant.long, c.loop-number-test.false, c.loop-number.auto.number-end); units = c.loop-number.invariant.units }
