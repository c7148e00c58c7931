use Rattle.std.proofs.Common.{◌+◌, ◌<◌, pos, ap, ◌∙◌, drop, length, length-append, arith, rules, SFits, w64, to_z-of_z}
use Rattle.std.proofs.lemmas.List.{get_or_default}
use Rattle.mir_base.specs.Frames.{shared_values}
use Rattle.mir_interp.specs.RunsSoFar.{values_of}
use Rattle.mir_interp.proofs.Frames.{pushed_global}
use Rattle.mir_interp.proofs.stack.push_globals.Goals as goal

pub index-value-requires : goal.index-value-requires
index-value-requires c =
    omega (arith, ap length c.loop-x.invariant ∙ length-append c.args.values.now.items (shared_values c.loop-x.x (values_of (drop c.args.variables c.args.values.now.items))), c.loop-x-test.true, c.requires)

pub loop-x-preserved : goal.loop-x-preserved
loop-x-preserved c =
    let fits : SFits w64 c.index-value.result.now = search rules in
    let low : c.args.variables + c.loop-x.x < length c.loop-x.values.items =
    omega (arith, ap length c.loop-x.invariant ∙ length-append c.args.values.now.items (shared_values c.loop-x.x (values_of (drop c.args.variables c.args.values.now.items))), c.loop-x-test.true, c.requires) in
    pushed_global c.args.values.now.items c.loop-x.values.items _ c.args.variables c.loop-x.x c.args.shared _ c.requires c.loop-x-test.true c.loop-x.invariant (to_z-of_z fits ∙ c.index-value.ensures ∙ get_or_default c.loop-x.values.items (c.args.variables + c.loop-x.x) c.index-value.result.now (pos 0) low) c.in_ok-push.ensures.items
