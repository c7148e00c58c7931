use Rattle.std.proofs.Common.{◌≡◌, ◌∙◌, length, ap, arith}
use Rattle.program_pass.specs.UnitMakes.{each_more, long_more}
use Rattle.pass_chain.specs.GraphPasses.{Itself, OnlyResults}
use Rattle.pass_chain.proofs.over_units.units_through.Goals as goal

pub loop-number-preserved : goal.loop-number-preserved
loop-number-preserved g c =
    let units = c.loop-number.units.items in
    let more = c.push.new.self.items in
    let target = c.in_ok-unit_through.field-0 in
    record {
      long = long_more units more c.loop-number.number target c.loop-number.invariant.long c.in_ok-push.ensures.items;
      units = each_more (OnlyResults g.P.GraphPass.exact) Itself c.args.program.now.units units more c.loop-number.number target c.loop-number.invariant.long c.loop-number.invariant.units c.in_ok-unit_through.ensures c.in_ok-push.ensures.items;
    }

pub returns : goal.returns
returns g c =
    let same : c.items-number-end.result.now ≡ c.args.program.now.units = c.items-number-end.ensures ∙ ap (λ p. p.units) c.program.view_is in
    let long : length c.items-number-end.result.now ≡ length c.args.program.now.units = ap (λ l. length l) same in
    record { long = omega (arith, long, c.loop-number.invariant.long, c.loop-number-test.false, c.loop-number.auto.number-end); units = c.loop-number.invariant.units }
