use Rattle.std.proofs.Common.{◌∙◌, length, slice_index_or, ap, arith}
use Rattle.program_pass.specs.Puts.{insertions}
use Rattle.tail_loop.proofs.OneLoop.{call_within, looped_long, looped_on}
use Rattle.tail_loop.proofs.looping.looped.Goals as goal

pub assignments-requires : goal.assignments-requires
assignments-requires c = call_within c.args.graph.now.shared c.args.graph.now.nodes c.args.unit c.args.calls.now c.requires c.loop-call.call-index c.loop-call-test.true

pub stand-requires : goal.stand-requires
stand-requires c = omega (arith, c.loop-call.invariant.long, call_within c.args.graph.now.shared c.args.graph.now.nodes c.args.unit c.args.calls.now c.requires c.loop-call.call-index c.loop-call-test.true)

pub loop-call-preserved : goal.loop-call-preserved
loop-call-preserved c =
    let graph = c.args.graph.now in
    let i = c.loop-call.call-index in
    let puts = insertions c.as_slice.result.now in
    let end = c.start_succ.result in
    record {
      long = looped_long c.loop-call.nodes.items c.stand.new.nodes.items (slice_index_or c.args.calls.now i 0) puts end (length graph.nodes) c.in_ok-stand.ensures c.loop-call.invariant.long;
      goes_on = λ looped on. c.loop-call.invariant.goes_on looped
          (looped_on graph c.args.unit c.args.calls.now i c.loop-call.nodes.items c.stand.new.nodes.items looped puts end c.requires c.loop-call-test.true (ap insertions c.as_slice.ensures.value ∙ c.in_ok-puts.ensures) c.start_succ.ensures c.in_ok-stand.ensures on);
    }
