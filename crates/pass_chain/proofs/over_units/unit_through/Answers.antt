use Rattle.flow_graph.specs.LoweringLaws.{fits_lower}
use Rattle.program_pass.specs.UnitMakes.{passed_at}
use Rattle.pass_chain.specs.GraphPasses.{Itself, OnlyResults}
use Rattle.pass_chain.specs.GraphPassLaws.{keeps_itself}
use Rattle.pass_chain.proofs.over_units.unit_through.Goals as goal

pub lowered_clean-requires : goal.lowered_clean-requires
lowered_clean-requires g c = fits_lower c.args.program.now.units c.args.program.now.globals c.unit.result.now c.unit.ensures.fits c.unit.ensures.shares

pub returns : goal.returns
returns g c =
    let cleaned = c.in_ok-front.front.cleaned in
    let made = c.in_ok-unit.ensures in
    passed_at (OnlyResults g.P.GraphPass.exact) Itself c.args.program.now.units c.args.number c.unit.result.now c.in_ok-front.front.lowered cleaned made.passed c.in_ok-unit.unit
    c.unit.ensures.unit c.in_ok-front.ensures made.result (keeps_itself c.args.number cleaned made.passed made.keeps) made.laid
