use Rattle.std.proofs.Common.{◌≡◌, ◌<◌, ◌≤◌, ◌⊎◌, false, inl, inr, arith}
use Rattle.sink_rounds.proofs.RoundsSoFar.{is_last, last_kept, one_before}
use Rattle.sink_rounds.proofs.repeating.last_of_rounds.Goals as goal
use Rattle.sink_rounds.proofs.repeating.last_of_rounds.Goals.{Joined-last-2, then-rounds-test+else-before, else-rounds-test}

pub rounds-preserved : goal.rounds-preserved
rounds-preserved c =
    let few : c.rounds.before < 15 = omega (arith, c.if-before.true) in
    one_before c.args.graph c.rounds.before c.rounds.last c.in_ok-next.next c.rounds.invariant c.rounds-test.true few c.in_ok-next.ensures

-- how the loop ended
ends : (c : Joined-last-2) → (c.rounds.last.changed ≡ false) ⊎ (15 ≤ c.rounds.before)
ends c = elim c.rounds-test.branch [
  | then-rounds-test+else-before w ↦ inr (omega (arith, w.if-before.false))
  | else-rounds-test w ↦ inl w.rounds-test.false
]

pub returns-clause-exact : goal.returns-clause-exact
returns-clause-exact c = is_last c.args.graph c.rounds.before c.rounds.last c.rounds.invariant (ends c)

pub returns-clause-keeps : goal.returns-clause-keeps
returns-clause-keeps c = last_kept c.args.graph c.rounds.before c.rounds.last c.rounds.invariant (ends c)
