use Rattle.std.proofs.Common.{◌∙◌, refl, sym, subst}
use Rattle.mir_base.specs.Shapes.{ProgramShape}
use Rattle.program_pass.specs.PassPrograms.{IsOnly, KeepsRuns}
use Rattle.program_pass.specs.PassProgramLaws.{passed_program}
use Rattle.program_pass.specs.UnitMakes.{all_passed}
use Rattle.program_bounds.specs.Tables.{facts_of}
use Rattle.program_bounds.specs.Programs.{BoundedBy, IsBoundedBetween, IsBoundedProgram}
use Rattle.program_pass.specs.FrontLaws.{graphs_are}
use Rattle.program_bounds.specs.ProgramLaws.{bounded_keeps, bounded_only, fit_together}
use Rattle.program_bounds.proofs.programs.bounded_program.Goals as goal
use Rattle.program_bounds.proofs.programs.bounded_program.Goals.{In_ok-target}

-- the program of the units
abbrev target : (c : In_ok-target) → ProgramShape
target c = record { globals = c.args.program.now.globals; units = c.in_ok-units.units.items }

pub least_facts-requires : goal.least_facts-requires
least_facts-requires c = fit_together c.args.program.now.globals c.args.program.now.units c.in_ok-graphs.graphs.items c.fits_together.ensures c.in_ok-graphs.ensures

pub bounded_units-requires-clause-rows : goal.bounded_units-requires-clause-rows
bounded_units-requires-clause-rows c = c.in_ok-tables.ensures.least.served.fit.entries.long ∙ c.in_ok-graphs.ensures.long

pub with_units-requires : goal.with_units-requires
with_units-requires c =
    let known = facts_of c.in_ok-tables.tables in
    passed_program (BoundedBy known) (IsBoundedBetween known) c.args.program.now (record { globals = c.args.program.now.globals; units = c.in_ok-units.units.items }) c.fits_together.ensures refl c.in_ok-units.ensures

pub returns-clause-bounded : goal.returns-clause-bounded
returns-clause-bounded c =
    let known = facts_of c.in_ok-tables.tables in
    let to = target (goal.at.returns-clause-bounded c).In_ok-target in
    let graphs = c.in_ok-graphs.graphs.items in
    subst (IsBoundedProgram c.args.program.now) (sym c.in_ok-target.ensures)
    (record { graphs = graphs; are_graphs = graphs_are c.args.program.now.units graphs c.in_ok-graphs.ensures; known = known; least = c.in_ok-tables.ensures.least; passed = all_passed (BoundedBy known) (IsBoundedBetween known) c.args.program.now to refl c.in_ok-units.ensures })

pub returns-clause-keeps : goal.returns-clause-keeps
returns-clause-keeps c =
    let known = facts_of c.in_ok-tables.tables in
    let to = target (goal.at.returns-clause-keeps c).In_ok-target in
    subst (KeepsRuns c.args.program.now) (sym c.in_ok-target.ensures) (bounded_keeps known c.in_ok-graphs.graphs.items c.args.program.now to c.fits_together.ensures refl c.in_ok-units.ensures c.in_ok-graphs.ensures c.in_ok-tables.ensures.least)

pub returns-clause-only : goal.returns-clause-only
returns-clause-only c =
    let known = facts_of c.in_ok-tables.tables in
    let to = target (goal.at.returns-clause-only c).In_ok-target in
    subst (IsOnly (IsBoundedProgram c.args.program.now)) (sym c.in_ok-target.ensures)
    (λ other is. bounded_only known c.in_ok-graphs.graphs.items c.args.program.now to other refl c.in_ok-units.ensures c.in_ok-graphs.ensures c.in_ok-tables.ensures.least is)
