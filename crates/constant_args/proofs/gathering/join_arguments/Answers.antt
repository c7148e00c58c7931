use Rattle.std.proofs.Common.{◌∙◌, Some, ap, arith, sym}
use Rattle.std.proofs.lemmas.Option.{slice_get-get_or}
use Rattle.constant_args.proofs.Steps.{join_more}
use Rattle.constant_args.proofs.gathering.join_arguments.Goals as goal

pub loop-i-preserved : goal.loop-i-preserved
loop-i-preserved c =
    let now = c.loop-i.arguments.items in
    let i = c.loop-i.i in
    let state = c.index.result.now in
    join_more i c.args.operands.now c.args.kept.now c.args.arguments.now.items now state c.joined_at-state.result
    (slice_get-get_or now i state (omega (arith, c.loop-i-test.true, c.loop-i.auto.i-end, c.loop-i.invariant.long, c.len-i-end.ensures)) ∙ ap Some (sym c.index.ensures))
    c.joined_at-state.ensures c.loop-i.invariant
