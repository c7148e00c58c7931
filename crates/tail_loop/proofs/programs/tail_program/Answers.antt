use Rattle.std.proofs.Common.{◌≡◌, refl, sym, subst}
use Rattle.mir_base.specs.Shapes.{IsProgram, ProgramShape}
use Rattle.program_pass.specs.PassPrograms.{AllPassed, IsOnly, IsPassedProgram, KeepsRuns}
use Rattle.program_pass.specs.PassOneLaws.{program_one}
use Rattle.program_pass.specs.PassProgramLaws.{between_at, graph_program, graphs, middles, passed_program, passes_keep}
use Rattle.program_pass.specs.UnitMakes.{all_passed}
use Rattle.tail_loop.specs.OneLaws.{tailed_one}
use Rattle.tail_loop.specs.Tails.{Looped, Tailed}
use Rattle.tail_loop.specs.TailStacks.{loops_keep}
use Rattle.tail_loop.proofs.programs.tail_program.Goals as goal
use Rattle.tail_loop.proofs.programs.tail_program.Goals.{In_ok-target}

-- the graphs with loops keep the graphs, and so the target the source
keeps : (source target : ProgramShape) → IsProgram source.globals source.units → target.globals ≡ source.globals → AllPassed Tailed Looped source.units target.units → KeepsRuns source target
keeps source target program globals all = passes_keep Tailed Looped source target program globals all
    (loops_keep (graphs Tailed Looped source target program globals all) (middles Tailed Looped source target program globals all) (graph_program Tailed Looped source target program globals all) (between_at Tailed Looped source target program globals all))

-- the program of the units
abbrev target : (c : In_ok-target) → ProgramShape
target c = record { globals = c.args.program.now.globals; units = c.in_ok-units.units.items }

pub with_units-requires : goal.with_units-requires
with_units-requires c = passed_program Tailed Looped c.args.program.now (record { globals = c.args.program.now.globals; units = c.in_ok-units.units.items }) c.fits_together.ensures refl c.in_ok-units.ensures

pub returns-clause-tailed : goal.returns-clause-tailed
returns-clause-tailed c =
    let to = target (goal.at.returns-clause-tailed c).In_ok-target in
    subst (IsPassedProgram Tailed c.args.program.now) (sym c.in_ok-target.ensures) (all_passed Tailed Looped c.args.program.now to refl c.in_ok-units.ensures)

pub returns-clause-keeps : goal.returns-clause-keeps
returns-clause-keeps c =
    let to = target (goal.at.returns-clause-keeps c).In_ok-target in
    subst (KeepsRuns c.args.program.now) (sym c.in_ok-target.ensures) (keeps c.args.program.now to c.fits_together.ensures refl c.in_ok-units.ensures)

pub returns-clause-only : goal.returns-clause-only
returns-clause-only c =
    let to = target (goal.at.returns-clause-only c).In_ok-target in
    subst (IsOnly (IsPassedProgram Tailed c.args.program.now)) (sym c.in_ok-target.ensures) (λ other is. program_one Tailed Looped tailed_one c.args.program.now to other refl c.in_ok-units.ensures is)
