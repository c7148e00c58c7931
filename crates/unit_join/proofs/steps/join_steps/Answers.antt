use Rattle.std.proofs.Common.{◌≡◌, ◌∙◌, Some, subst, sym}
use Rattle.mir_base.specs.Shapes.{UnitShape}
use Rattle.flow_graph.specs.LoweringLaws.{fits_lower}
use Rattle.unit_join.specs.JoinProgramLaws.{leaf_calls_fit, leaves_share, no_leaf_calls}
use Rattle.unit_join.specs.JoinSteps.{IsJoinMade}
use Rattle.unit_join.proofs.Stepped.{join_made}
use Rattle.unit_join.proofs.steps.join_steps.Goals as goal

pub lowered_clean-requires : goal.lowered_clean-requires
lowered_clean-requires c = fits_lower c.args.program.now.units c.args.program.now.globals c.unit.result.now c.unit.ensures.fits c.unit.ensures.shares

pub join-requires-clause-fit : goal.join-requires-clause-fit
join-requires-clause-fit c = leaf_calls_fit c.args.program.now.units c.args.leaves.now.units c.unit.result.now c.in_ok-front.front.lowered c.in_ok-front.front.cleaned c.requires.leaves c.unit.ensures.fits c.in_ok-front.ensures

pub join-requires-clause-no_calls : goal.join-requires-clause-no_calls
join-requires-clause-no_calls c = no_leaf_calls c.args.program.now.units c.args.leaves.now.units c.requires.leaves

pub join-requires-clause-globals : goal.join-requires-clause-globals
join-requires-clause-globals c =
    leaves_share c.args.program.now.globals c.args.program.now.units c.args.leaves.now.units c.in_ok-front.front.cleaned.shared c.fits_together.ensures (sym c.in_ok-front.ensures.keeps.same.shared ∙ c.unit.ensures.shares.count) c.requires.leaves

-- the graphs are those of the unit of this number
pub returns : goal.returns
returns c =
    let leaves = c.args.leaves.now.units in
    let made = c.in_ok-made.made in
    let here : IsJoinMade leaves c.unit.result.now c.args.number made = join_made leaves c.unit.result.now c.args.number c.in_ok-front.front c.in_ok-joined.joined made c.in_ok-front.ensures c.in_ok-joined.ensures.joined c.in_ok-made.ensures in
    λ unit at.
    let both : Some c.unit.result.now ≡ Some unit = sym c.unit.ensures.unit ∙ at in
    let same : c.unit.result.now ≡ unit = cc in
    subst (λ (u : UnitShape). IsJoinMade leaves u c.args.number made) same here
