use Rattle.std.proofs.Common.{length, arith}
use Rattle.unit_join.proofs.Pushed.{call_within, joined_long, joined_on}
use Rattle.unit_join.proofs.joining.joined.Goals as goal

pub join_at-requires-clause-node : goal.join_at-requires-clause-node
join_at-requires-clause-node c = call_within c.args.leaves.now.units c.args.graph.now.nodes c.args.calls.now c.requires.calls c.loop-call.call-index c.loop-call-test.true

pub join_at-requires-clause-room : goal.join_at-requires-clause-room
join_at-requires-clause-room c = omega (arith, c.loop-call.invariant.long, call_within c.args.leaves.now.units c.args.graph.now.nodes c.args.calls.now c.requires.calls c.loop-call.call-index c.loop-call-test.true)

pub loop-call-preserved : goal.loop-call-preserved
loop-call-preserved c =
    let leaves = c.args.leaves.now.units in
    let graph = c.args.graph.now in
    let calls = c.args.calls.now in
    let i = c.loop-call.call-index in
    record {
      long = joined_long leaves c.args.table.now.units.items graph calls i c.loop-call.nodes.items c.join_at.new.nodes.items (length graph.nodes) c.requires.calls c.loop-call-test.true c.in_ok-join_at.ensures c.loop-call.invariant.long;
      goes_on = λ joined on. c.loop-call.invariant.goes_on joined (joined_on leaves c.args.table.now.units.items graph calls i c.loop-call.nodes.items c.join_at.new.nodes.items joined c.requires.calls c.loop-call-test.true c.in_ok-join_at.ensures on);
    }
