use Rattle.std.proofs.Common.{ap, sym, subst}
use Rattle.mir_base.specs.Shapes.{ProgramShape}
use Rattle.mir_opt.specs.Made.{AllLayDivisions}
use Rattle.mir_opt.specs.Stages.{AreLaid}
use Rattle.mir_opt.proofs.Linking.{are_laid, lay_divisions, laid_calls, laid_cheaper, laid_kept, laid_same}
use Rattle.mir_opt.proofs.over_units.program_at.Goals as goal

pub program_of_units-requires : goal.program_of_units-requires
program_of_units-requires g c = laid_kept g.T.UnitSteps.graph_at c.args.stage.now c.args.units.now c.in_ok-targets.targets.items c.in_ok-targets.ensures c.args.source.now.units c.requires

pub lift-requires : goal.lift-requires
lift-requires g c = record { units = laid_same g.T.UnitSteps.graph_at c.args.stage.now c.args.units.now c.in_ok-targets.targets.items c.in_ok-targets.ensures c.args.source.now c.in_ok-program.program c.in_ok-program.ensures.is c.program_of_units.ensures.fits c.requires }

pub returns-clause-laid : goal.returns-clause-laid
returns-clause-laid g c = subst (AreLaid g.T.UnitSteps.graph_at c.args.stage.now c.args.units.now) (sym (ap (λ (p : ProgramShape). p.units) c.in_ok-program.ensures.is)) (are_laid g.T.UnitSteps.graph_at c.args.stage.now c.args.units.now c.in_ok-targets.targets.items c.in_ok-targets.ensures)

pub returns-clause-keeps : goal.returns-clause-keeps
returns-clause-keeps g c = record {
  same = c.lift.ensures.same;
  cheaper = c.lift.ensures.cheaper (laid_cheaper g.T.UnitSteps.graph_at c.args.stage.now c.args.units.now c.in_ok-targets.targets.items c.in_ok-targets.ensures c.args.source.now c.in_ok-program.program c.in_ok-program.ensures.is c.program_of_units.ensures.fits c.requires);
  units = laid_same g.T.UnitSteps.graph_at c.args.stage.now c.args.units.now c.in_ok-targets.targets.items c.in_ok-targets.ensures c.args.source.now c.in_ok-program.program c.in_ok-program.ensures.is c.program_of_units.ensures.fits c.requires;
  shallower = c.lift.ensures.shallower;
  calls = laid_calls g.T.UnitSteps.graph_at c.args.stage.now c.args.units.now c.in_ok-targets.targets.items c.in_ok-targets.ensures c.args.source.now c.in_ok-program.program c.in_ok-program.ensures.is c.program_of_units.ensures.fits c.requires;
}

pub returns-clause-divides : goal.returns-clause-divides
returns-clause-divides g c = subst (AllLayDivisions g.T.UnitSteps.graph_at c.args.stage.now c.args.units.now) (sym (ap (λ (p : ProgramShape). p.units) c.in_ok-program.ensures.is)) (lay_divisions g.T.UnitSteps.graph_at c.args.stage.now c.args.units.now c.in_ok-targets.targets.items c.in_ok-targets.ensures)

pub returns-clause-globals : goal.returns-clause-globals
returns-clause-globals g c = ap (λ (p : ProgramShape). p.globals) c.in_ok-program.ensures.is
