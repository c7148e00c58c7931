use Rattle.std.proofs.Common.{◌∙◌, refl, sym, subst}
use Rattle.mir_base.specs.Shapes.{ProgramShape}
use Rattle.program_pass.specs.PassPrograms.{IsOnly, KeepsRuns}
use Rattle.program_pass.specs.PassProgramLaws.{passed_program}
use Rattle.program_pass.specs.UnitMakes.{all_passed}
use Rattle.program_wanted.specs.ProgramRemoves.{ProgramRemovesMost}
use Rattle.program_wanted.specs.ProgramRuns.{ProgramRunsAgree}
use Rattle.program_wanted.specs.Tables.{demands_of}
use Rattle.program_wanted.specs.UnitPaths.{ProgramPathsKept}
use Rattle.program_wanted.specs.WantedPrograms.{IsWantedProgram, NarrowedTo, NarrowsTo}
use Rattle.program_pass.specs.FrontLaws.{graphs_are}
use Rattle.program_wanted.specs.WantedProgramLaws.{fit_together, wanted_keeps, wanted_only}
use Rattle.program_wanted.proofs.UnitsKept.{wanted_agree, wanted_paths, wanted_removes}
use Rattle.program_wanted.proofs.programs.wanted_program.Goals as goal
use Rattle.program_wanted.proofs.programs.wanted_program.Goals.{In_ok-target}

-- the program of the units
abbrev target : (c : In_ok-target) → ProgramShape
target c = record { globals = c.args.program.now.globals; units = c.in_ok-units.units.items }

pub least_demands-requires : goal.least_demands-requires
least_demands-requires c = fit_together c.args.program.now.globals c.args.program.now.units c.in_ok-graphs.graphs.items c.fits_together.ensures c.in_ok-graphs.ensures

pub narrowed_units-requires-clause-rows : goal.narrowed_units-requires-clause-rows
narrowed_units-requires-clause-rows c = c.in_ok-tables.ensures.served.fit.backs.long ∙ c.in_ok-graphs.ensures.long

pub with_units-requires : goal.with_units-requires
with_units-requires c =
    let demands = demands_of c.in_ok-tables.tables in
    passed_program (NarrowedTo demands) (NarrowsTo demands) c.args.program.now (record { globals = c.args.program.now.globals; units = c.in_ok-units.units.items }) c.fits_together.ensures refl c.in_ok-units.ensures

pub returns-clause-wanted : goal.returns-clause-wanted
returns-clause-wanted c =
    let demands = demands_of c.in_ok-tables.tables in
    let to = target (goal.at.returns-clause-wanted c).In_ok-target in
    let graphs = c.in_ok-graphs.graphs.items in
    subst (IsWantedProgram c.args.program.now) (sym c.in_ok-target.ensures)
    (record { graphs = graphs; are_graphs = graphs_are c.args.program.now.units graphs c.in_ok-graphs.ensures; demands = demands; least = c.in_ok-tables.ensures; passed = all_passed (NarrowedTo demands) (NarrowsTo demands) c.args.program.now to refl c.in_ok-units.ensures })

pub returns-clause-keeps : goal.returns-clause-keeps
returns-clause-keeps c =
    let demands = demands_of c.in_ok-tables.tables in
    let to = target (goal.at.returns-clause-keeps c).In_ok-target in
    subst (KeepsRuns c.args.program.now) (sym c.in_ok-target.ensures) (wanted_keeps demands c.in_ok-graphs.graphs.items c.args.program.now to c.fits_together.ensures refl c.in_ok-units.ensures c.in_ok-graphs.ensures c.in_ok-tables.ensures)

pub returns-clause-only : goal.returns-clause-only
returns-clause-only c =
    let demands = demands_of c.in_ok-tables.tables in
    let to = target (goal.at.returns-clause-only c).In_ok-target in
    subst (IsOnly (IsWantedProgram c.args.program.now)) (sym c.in_ok-target.ensures)
    (λ other is. wanted_only demands c.in_ok-graphs.graphs.items c.args.program.now to other refl c.in_ok-units.ensures c.in_ok-graphs.ensures c.in_ok-tables.ensures is)

pub returns-clause-most : goal.returns-clause-most
returns-clause-most c =
    let demands = demands_of c.in_ok-tables.tables in
    let to = target (goal.at.returns-clause-most c).In_ok-target in
    subst (ProgramRemovesMost c.args.program.now) (sym c.in_ok-target.ensures) (wanted_removes demands c.in_ok-graphs.graphs.items c.args.program.now to c.fits_together.ensures refl c.in_ok-units.ensures c.in_ok-graphs.ensures c.in_ok-tables.ensures)

pub returns-clause-agrees : goal.returns-clause-agrees
returns-clause-agrees c =
    let demands = demands_of c.in_ok-tables.tables in
    let to = target (goal.at.returns-clause-agrees c).In_ok-target in
    subst (ProgramRunsAgree c.args.program.now) (sym c.in_ok-target.ensures) (wanted_agree demands c.in_ok-graphs.graphs.items c.args.program.now to c.fits_together.ensures refl c.in_ok-units.ensures c.in_ok-graphs.ensures c.in_ok-tables.ensures)

pub returns-clause-paths : goal.returns-clause-paths
returns-clause-paths c =
    let demands = demands_of c.in_ok-tables.tables in
    let to = target (goal.at.returns-clause-paths c).In_ok-target in
    subst (ProgramPathsKept c.args.program.now) (sym c.in_ok-target.ensures) (wanted_paths demands c.in_ok-graphs.graphs.items c.args.program.now to c.fits_together.ensures refl c.in_ok-units.ensures c.in_ok-graphs.ensures c.in_ok-tables.ensures)
