use Rattle.std.proofs.Common.{refl, sym, subst}
use Rattle.program_pass.specs.PassPrograms.{Rewrites}
use Rattle.program_pass.specs.PassProgramLaws.{passed_program}
use Rattle.pass_chain.specs.GraphPasses.{Itself, OnlyResults}
use Rattle.pass_chain.specs.GraphPassLaws.{made_rewrites}
use Rattle.pass_chain.specs.Passes.{PassesGraphs}
use Rattle.pass_chain.proofs.over_units.program_through.Goals as goal

pub with_units-requires : goal.with_units-requires
with_units-requires g c =
    passed_program (OnlyResults g.P.GraphPass.exact) Itself c.args.program.now (record { globals = c.args.program.now.globals; units = c.in_ok-units.units.items }) c.fits_together.ensures refl c.in_ok-units.ensures

pub returns : goal.returns
returns g c =
    subst (Rewrites (PassesGraphs g.P.GraphPass.exact) c.args.program.now) (sym c.in_ok-target.ensures)
    (made_rewrites g.P.GraphPass.exact c.args.program.now (record { globals = c.args.program.now.globals; units = c.in_ok-units.units.items }) c.fits_together.ensures refl c.in_ok-units.ensures)
