use Rattle.std.proofs.Common.{arith, w64, to_z, of_z, to_z-of_z}
use Rattle.mir_interp.proofs.Frames.{resumes_none, resumes_some, left_none, left_some}
use Rattle.mir_interp.proofs.stack.Stack.leave.Goals as goal

pub returns-in-Some-into-clause-control : goal.returns-in-Some-into-clause-control
returns-in-Some-into-clause-control c =
    resumes_some c.requires.0 c.args.self.now.values.items c.copy_globals.new.values.items _ c.args.self.now.running.arguments c.args.self.now.running.variables c.args.self.now.shared _ _ c.in-Some.caller c.args.answer
    c.in-Some.ensures.items c.copy_globals.ensures.copied c.copy_globals.ensures.long c.truncate.ensures.items c.requires.1.globals (omega (arith, c.requires.1.running.received, c.requires.1.running.long)) c.requires.1.callers c.in-Some-into.x _ c.in-Some-into.is (to_z-of_z c.ranges.answer)

pub returns-in_default-clause-control : goal.returns-in_default-clause-control
returns-in_default-clause-control c =
    resumes_none c.requires.0 c.args.self.now.values.items c.copy_globals.new.values.items _ c.args.self.now.running.arguments c.args.self.now.running.variables c.args.self.now.shared _ _ c.in-Some.caller c.args.answer
    c.in-Some.ensures.items c.copy_globals.ensures.copied c.copy_globals.ensures.long c.truncate.ensures.items c.requires.1.globals (omega (arith, c.requires.1.running.received, c.requires.1.running.long)) c.requires.1.callers c.in_default.is

pub returns-in-Some-into-clause-kept : goal.returns-in-Some-into-clause-kept
returns-in-Some-into-clause-kept c = λ program is.
    let left =
    left_some c.requires.0 c.args.self.now.values.items c.copy_globals.new.values.items _ c.args.self.now.running.arguments c.args.self.now.running.variables c.args.self.now.shared _ _ c.in-Some.caller c.args.answer
    c.in-Some.ensures.items c.copy_globals.ensures.copied c.copy_globals.ensures.long c.truncate.ensures.items c.requires.1.globals (omega (arith, c.requires.1.running.received, c.requires.1.running.long)) c.requires.1.callers
    program c.in-Some-into.x (to_z w64 (of_z w64 c.args.answer)) is.callers in
    record { globals = is.globals; running = left.0; callers = left.1 }

pub returns-in_default-clause-kept : goal.returns-in_default-clause-kept
returns-in_default-clause-kept c = λ program is.
    let left =
    left_none c.requires.0 c.args.self.now.values.items c.copy_globals.new.values.items _ c.args.self.now.running.arguments c.args.self.now.running.variables c.args.self.now.shared _ _ c.in-Some.caller c.args.answer
    c.in-Some.ensures.items c.copy_globals.ensures.copied c.copy_globals.ensures.long c.truncate.ensures.items c.requires.1.globals (omega (arith, c.requires.1.running.received, c.requires.1.running.long)) c.requires.1.callers
    program is.callers in
    record { globals = is.globals; running = left.0; callers = left.1 }
