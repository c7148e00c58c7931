use Rattle.std.proofs.Common.{inl, inr, ℕ, drop}
use Rattle.unit_join.specs.Joins.{copy_number, entered}
use Rattle.unit_join.proofs.Pushed.{entered_done}
use Rattle.program_pass.specs.PutLaws.{pushed_all}
use Rattle.unit_join.proofs.joining.entered.Goals as goal
use Rattle.unit_join.proofs.joining.entered.Goals.{then-loop-i-test+else-i-operands, else-loop-i-test}

pub returns : goal.returns
returns c =
    let received = c.args.received.now in
    let operands = c.args.operands.now in
    let copy : ℕ → ℕ = copy_number c.args.to.shared c.args.to.base in
    let i = c.loop-i.i in
    let rest = entered copy (drop i received) (drop i operands) in
    let all = entered copy received operands in
    elim c.loop-i-test.branch [
      | then-loop-i-test+else-i-operands w ↦ pushed_all c.loop-i.puts.items rest all (entered_done copy i received operands (inr w.if-i-operands.false)) c.loop-i.invariant
      | else-loop-i-test w ↦ pushed_all c.loop-i.puts.items rest all (entered_done copy i received operands (inl w.loop-i-test.false)) c.loop-i.invariant
    ]
