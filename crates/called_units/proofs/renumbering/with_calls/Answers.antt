use Rattle.std.proofs.Common.{◌∙◌, ap}
use Rattle.mir_base.specs.Shapes.{UnitShape}
use Rattle.flow_graph.specs.NumberTables.{number_at}
use Rattle.called_units.proofs.Answered.{calls_tidy}
use Rattle.called_units.proofs.renumbering.with_calls.Goals as goal

pub invariant_of-result : goal.invariant_of-result
invariant_of-result c =
    calls_tidy (number_at c.args.to.now) c.args.unit.now.shared c.unit.inside.shared c.args.unit.now.vars c.in_ok-vars.vars c.insts.result.now c.of.result c.insts.ensures.tidy
    (ap (λ (u : UnitShape). u.shared) c.unit.view_is) (c.in_ok-vars.ensures.cases (λ item other e. e) ∙ ap (λ (u : UnitShape). u.vars) c.unit.view_is) (c.of.ensures ∙ c.in_ok-body.ensures)
