use Rattle.std.proofs.Common.{◌≡◌, ◌∙◌, ◌+◌, length, ap, arith}
use Rattle.std.proofs.lemmas.List.{length_push}
use Rattle.flow_graph.specs.LoweringLaws.{fits_lower}
use Rattle.program_pass.specs.FrontLaws.{fronts_more}
use Rattle.program_pass.proofs.units.graphs_of.Goals as goal

pub lowered_clean-requires : goal.lowered_clean-requires
lowered_clean-requires c = fits_lower c.args.program.now.units c.args.program.now.globals c.unit.result.now c.unit.ensures.fits c.unit.ensures.shares

pub loop-number-preserved : goal.loop-number-preserved
loop-number-preserved c =
    let graphs = c.loop-number.graphs.items in
    let more = c.push.new.self.items in
    record {
      long = ap length c.in_ok-push.ensures.items ∙ length_push graphs c.in_ok-front.front.cleaned ∙ ap (λ n. n + 1) c.loop-number.invariant.long;
      are = fronts_more c.args.program.now.units graphs more c.loop-number.number c.unit.result.now c.in_ok-front.front.lowered c.in_ok-front.front.cleaned c.loop-number.invariant.long c.loop-number.invariant.are c.unit.ensures.unit c.in_ok-front.ensures c.in_ok-push.ensures.items;
    }

pub returns : goal.returns
returns c =
    let same : c.items-number-end.result.now ≡ c.args.program.now.units = c.items-number-end.ensures ∙ ap (λ p. p.units) c.program.view_is in
    let long : length c.items-number-end.result.now ≡ length c.args.program.now.units = ap (λ l. length l) same in
    record { long = omega (arith, long, c.loop-number.invariant.long, c.loop-number-test.false, c.loop-number.auto.number-end); are = c.loop-number.invariant.are }
