use Rattle.std.proofs.Common.{arith}
use Rattle.mir_lex.proofs.Early.{stops_early}
use Rattle.mir_lex.proofs.scan.scan_all.Goals as goal

pub returns-in-Some-clause-value : goal.returns-in-Some-clause-value
returns-in-Some-clause-value c =
    let stops = rw c.in-Some.is at c.in_ok-step.ensures.value in
    stops_early c.args.text.now c.loop-i.i c.loop-i.scan c.in-Some.fault (omega (arith, c.loop-i-test.true)) c.loop-i.invariant.0 stops
