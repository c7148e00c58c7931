use Rattle.std.proofs.Common.{refl, sym, subst}
use Rattle.mir_base.specs.Shapes.{ProgramShape}
use Rattle.program_pass.specs.PassPrograms.{IsOnly, KeepsRuns}
use Rattle.program_pass.specs.PassProgramLaws.{passed_program}
use Rattle.program_pass.specs.UnitMakes.{all_passed}
use Rattle.unit_join.specs.JoinOneLaws.{joined_program_one}
use Rattle.unit_join.specs.JoinPrograms.{IsJoinedProgram}
use Rattle.unit_join.specs.JoinProgramLaws.{join_keeps}
use Rattle.unit_join.specs.Joins.{LeavesJoined, JoinedBetween}
use Rattle.unit_join.proofs.programs.join_program.Goals as goal
use Rattle.unit_join.proofs.programs.join_program.Goals.{In_ok-target}

-- the program of the units
abbrev target : (c : In_ok-target) → ProgramShape
target c = record { globals = c.args.program.now.globals; units = c.in_ok-units.units.items }

pub with_units-requires : goal.with_units-requires
with_units-requires c =
    let leaves = c.in_ok-leaves.leaves.units in
    passed_program (LeavesJoined leaves) (JoinedBetween leaves) c.args.program.now (record { globals = c.args.program.now.globals; units = c.in_ok-units.units.items }) c.fits_together.ensures refl c.in_ok-units.ensures

pub returns-clause-joined : goal.returns-clause-joined
returns-clause-joined c =
    let leaves = c.in_ok-leaves.leaves.units in
    let to = target (goal.at.returns-clause-joined c).In_ok-target in
    subst (IsJoinedProgram c.args.program.now) (sym c.in_ok-target.ensures)
    (record { leaves = leaves; are_leaves = c.in_ok-leaves.ensures.leaves; passed = all_passed (LeavesJoined leaves) (JoinedBetween leaves) c.args.program.now to refl c.in_ok-units.ensures })

pub returns-clause-keeps : goal.returns-clause-keeps
returns-clause-keeps c =
    let leaves = c.in_ok-leaves.leaves.units in
    let to = target (goal.at.returns-clause-keeps c).In_ok-target in
    subst (KeepsRuns c.args.program.now) (sym c.in_ok-target.ensures) (join_keeps leaves c.args.program.now to c.fits_together.ensures refl c.in_ok-units.ensures c.in_ok-leaves.ensures.made)

pub returns-clause-only : goal.returns-clause-only
returns-clause-only c =
    let leaves = c.in_ok-leaves.leaves.units in
    let to = target (goal.at.returns-clause-only c).In_ok-target in
    subst (IsOnly (IsJoinedProgram c.args.program.now)) (sym c.in_ok-target.ensures)
    (λ other is. joined_program_one leaves c.args.program.now to other refl c.in_ok-leaves.ensures.made c.in_ok-units.ensures is)
