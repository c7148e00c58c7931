use Rattle.program_pass.specs.FrontLaws.{graphs_are}
use Rattle.program_wanted.specs.WantedProgramLaws.{fit_together}
use Rattle.program_wanted.proofs.programs.program_demands.Goals as goal

pub least_demands-requires : goal.least_demands-requires
least_demands-requires c = fit_together c.args.program.now.globals c.args.program.now.units c.in_ok-graphs.graphs.items c.fits_together.ensures c.in_ok-graphs.ensures

pub returns : goal.returns
returns c = record {
  graphs = c.in_ok-graphs.graphs.items;
  are_graphs = graphs_are c.args.program.now.units c.in_ok-graphs.graphs.items c.in_ok-graphs.ensures;
  least = c.in_ok-tables.ensures;
}
