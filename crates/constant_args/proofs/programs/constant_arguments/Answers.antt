use Rattle.std.proofs.Common.{refl, sym, subst}
use Rattle.mir_base.specs.Shapes.{ProgramShape}
use Rattle.program_pass.specs.PassOneLaws.{program_one}
use Rattle.program_pass.specs.PassPrograms.{IsOnly, KeepsRuns}
use Rattle.program_pass.specs.PassProgramLaws.{passed_program}
use Rattle.program_pass.specs.UnitMakes.{all_passed}
use Rattle.constant_args.specs.ConstantArguments.{ArgumentsAssigned, HasConstantArguments, Knowing}
use Rattle.constant_args.proofs.Made.{calls_exist, knowing_keeps, knowing_one}
use Rattle.constant_args.proofs.programs.constant_arguments.Goals as goal
use Rattle.constant_args.proofs.programs.constant_arguments.Goals.{In_ok-target}

-- the program of the units
abbrev target : (c : In_ok-target) → ProgramShape
target c = record { globals = c.args.program.now.globals; units = c.in_ok-units.units.items }

pub gathered-requires : goal.gathered-requires
gathered-requires c = calls_exist c.args.program.now.units c.in_ok-graphs.graphs.items c.in_ok-graphs.ensures c.args.program.now.globals c.fits_together.ensures

pub with_units-requires : goal.with_units-requires
with_units-requires c =
    let sources = c.args.program.now.units in
    passed_program (Knowing sources) (ArgumentsAssigned sources) c.args.program.now (record { globals = c.args.program.now.globals; units = c.in_ok-units.units.items }) c.fits_together.ensures refl c.in_ok-units.ensures

pub returns-clause-exact : goal.returns-clause-exact
returns-clause-exact c =
    let to = target (goal.at.returns-clause-exact c).In_ok-target in
    let sources = c.args.program.now.units in
    subst (HasConstantArguments c.args.program.now) (sym c.in_ok-target.ensures) (all_passed (Knowing sources) (ArgumentsAssigned sources) c.args.program.now to refl c.in_ok-units.ensures)

pub returns-clause-keeps : goal.returns-clause-keeps
returns-clause-keeps c =
    let to = target (goal.at.returns-clause-keeps c).In_ok-target in
    subst (KeepsRuns c.args.program.now) (sym c.in_ok-target.ensures) (knowing_keeps c.args.program.now to c.fits_together.ensures refl c.in_ok-units.ensures)

pub returns-clause-only : goal.returns-clause-only
returns-clause-only c =
    let to = target (goal.at.returns-clause-only c).In_ok-target in
    let sources = c.args.program.now.units in
    subst (IsOnly (HasConstantArguments c.args.program.now)) (sym c.in_ok-target.ensures) (λ other is. program_one (Knowing sources) (ArgumentsAssigned sources) (knowing_one sources) c.args.program.now to other refl c.in_ok-units.ensures is)
