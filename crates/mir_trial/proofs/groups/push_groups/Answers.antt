use Rattle.std.proofs.Common.{◌≡◌, arith}
use Rattle.mir_trial.proofs.Growing.{begins, group_grows, ends_insts, ends_state}
use Rattle.mir_trial.proofs.groups.push_groups.Goals as goal

pub loop-group_number-init : goal.loop-group_number-init
loop-group_number-init c = begins c.args.count c.args.body.now.items c.args.draws.now.state

pub loop-group_number-preserved : goal.loop-group_number-preserved
loop-group_number-preserved c =
    let added = c.in_ok-push_group.ensures in
    group_grows c.args.count c.args.body.now.items c.args.draws.now.state c.loop-group_number.group_number c.loop-group_number.body.items c.loop-group_number.draws.state c.push_group.new.body.items c.push_group.new.draws.state
    c.loop-group_number-test.true c.loop-group_number.invariant added.insts added.state

pub returns-clause-insts : goal.returns-clause-insts
returns-clause-insts c =
    let end : c.loop-group_number.group_number ≡ c.args.count = omega (arith, c.loop-group_number.auto.group_number-end, c.loop-group_number-test.false) in
    ends_insts c.args.count c.args.body.now.items c.args.draws.now.state c.loop-group_number.group_number c.loop-group_number.body.items c.loop-group_number.draws.state end c.loop-group_number.invariant

pub returns-clause-state : goal.returns-clause-state
returns-clause-state c =
    let end : c.loop-group_number.group_number ≡ c.args.count = omega (arith, c.loop-group_number.auto.group_number-end, c.loop-group_number-test.false) in
    ends_state c.args.count c.args.body.now.items c.args.draws.now.state c.loop-group_number.group_number c.loop-group_number.body.items c.loop-group_number.draws.state end c.loop-group_number.invariant
