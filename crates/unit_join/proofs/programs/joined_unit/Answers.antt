use Rattle.std.proofs.Common.{◌∙◌, sym}
use Rattle.flow_graph.specs.LoweringLaws.{fits_lower}
use Rattle.program_pass.specs.UnitMakes.{passed_at}
use Rattle.unit_join.specs.JoinProgramLaws.{leaf_calls_fit, leaves_share, no_leaf_calls}
use Rattle.unit_join.specs.Joins.{LeavesJoined, JoinedBetween}
use Rattle.unit_join.proofs.programs.joined_unit.Goals as goal

pub lowered_clean-requires : goal.lowered_clean-requires
lowered_clean-requires c = fits_lower c.args.program.now.units c.args.program.now.globals c.unit.result.now c.unit.ensures.fits c.unit.ensures.shares

pub joined_or_left-requires-clause-fit : goal.joined_or_left-requires-clause-fit
joined_or_left-requires-clause-fit c = leaf_calls_fit c.args.program.now.units c.args.leaves.now.units c.unit.result.now c.in_ok-front.front.lowered c.in_ok-front.front.cleaned c.requires.leaves c.unit.ensures.fits c.in_ok-front.ensures

pub joined_or_left-requires-clause-no_calls : goal.joined_or_left-requires-clause-no_calls
joined_or_left-requires-clause-no_calls c = no_leaf_calls c.args.program.now.units c.args.leaves.now.units c.requires.leaves

pub joined_or_left-requires-clause-globals : goal.joined_or_left-requires-clause-globals
joined_or_left-requires-clause-globals c =
    leaves_share c.args.program.now.globals c.args.program.now.units c.args.leaves.now.units c.in_ok-front.front.cleaned.shared c.fits_together.ensures (sym c.in_ok-front.ensures.keeps.same.shared ∙ c.unit.ensures.shares.count) c.requires.leaves

pub returns : goal.returns
returns c =
    let leaves = c.args.leaves.now.units in
    let made = c.in_ok-target.ensures in
    passed_at (LeavesJoined leaves) (JoinedBetween leaves) c.args.program.now.units c.args.number c.unit.result.now c.in_ok-front.front.lowered c.in_ok-front.front.cleaned made.passed c.in_ok-target.target c.unit.ensures.unit c.in_ok-front.ensures
    made.is made.keeps made.laid
