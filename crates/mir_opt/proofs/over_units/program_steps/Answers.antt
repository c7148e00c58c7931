use Rattle.std.proofs.Common.{rules, sym, subst}
use Rattle.flow_graph.specs.Keeps.{AsGraph, AsUnit, Keeps}
use Rattle.mir_opt.specs.Made.{AllLayDivisions, UnitMade}
use Rattle.mir_opt.specs.Stages.{AllKeep, AreLaid}
use Rattle.mir_opt.proofs.Zips.{zip_map}
use Rattle.mir_opt.proofs.over_units.program_steps.Goals as goal

pub program_at-requires : goal.program_at-requires
program_at-requires g c =
    subst (AllKeep g.T.UnitSteps.graph_at c.args.program.now.units) (sym c.items.ensures)
    (zip_map (UnitMade g.T.UnitSteps.graph_at g.T.UnitSteps.linked g.T.UnitSteps.best g.T.UnitSteps.within) (λ source unit. (stage : _) → Keeps (AsUnit source) (AsGraph (g.T.UnitSteps.graph_at unit stage))) (λ source unit made. made.keeps) c.args.program.now.units c.in_ok-units.units c.in_ok-units.ensures)

pub returns : goal.returns
returns g c = record {
  source = search rules;
  made = c.in_ok-units.ensures;
  laid = subst (λ units. AreLaid g.T.UnitSteps.graph_at c.args.last.now units c.in_ok-target.target.units) c.items.ensures c.in_ok-target.ensures.laid;
  globals = c.in_ok-target.ensures.globals;
  divides = subst (λ units. AllLayDivisions g.T.UnitSteps.graph_at c.args.last.now units c.in_ok-target.target.units) c.items.ensures c.in_ok-target.ensures.divides;
  keeps = c.in_ok-target.ensures.keeps;
}
