use Rattle.std.proofs.Common.{refl}
use Rattle.mir_interp.proofs.Frames.{started_frame}
use Rattle.mir_interp.proofs.stack.Stack.new.Goals as goal

pub returns-clause-control : goal.returns-clause-control
returns-clause-control c =
    started_frame c.args.inputs.now c.in_ok-values.values.items c.push_zeros.new.values.items _ _ _ c.new.result.items c.in_ok-values.ensures.items c.in_ok-push_zeros.ensures refl c.new.ensures.items
