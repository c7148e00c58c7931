use Rattle.std.proofs.Common.{◌≡◌, ◌∙◌, ◌<◌, ◌≤◌, ◌++◌, ◌∷◌, ◌⊎◌, List, [], false, inl, inr, length, sym, subst, arith}
use Rattle.flow_graph.specs.Graphs.{GraphShape}
use Rattle.sink_rounds.specs.RoundGraphs.{AreRounds}
use Rattle.sink_rounds.specs.RoundLaws.{last_keeps, rounds_are_one}
use Rattle.sink_rounds.specs.RoundsKept.{RoundsKeep}
use Rattle.sink_rounds.specs.Steps.{AreBestSteps}
use Rattle.sink_rounds.proofs.RoundsSoFar.{AreSoFar, all_best, all_keep, all_rounds, one_more}
use Rattle.sink_rounds.proofs.repeating.rounds.Goals as goal
use Rattle.sink_rounds.proofs.repeating.rounds.Goals.{After-of, then-rounds-test+else-len, else-rounds-test}

pub rounds-preserved : goal.rounds-preserved
rounds-preserved c =
    let graph = c.args.graph.now in
    let rounds = c.rounds.rounds.items in
    let few : length c.rounds.rounds.items < 15 = omega (arith, c.if-len.true, c.len.ensures) in
    let more = one_more graph rounds c.rounds.last c.in_ok-next.next c.rounds.invariant c.rounds-test.true few c.in_ok-next.ensures in
    subst (λ (l : List GraphShape). AreSoFar graph l c.in_ok-next.next) (sym c.in_ok-push.ensures.items) more

-- how the loop ended
ends : (c : After-of) → (c.rounds.last.changed ≡ false) ⊎ (15 ≤ length c.rounds.rounds.items)
ends c = elim c.rounds-test.branch [
  | then-rounds-test+else-len w ↦ inr (omega (arith, w.if-len.false, w.len.ensures))
  | else-rounds-test w ↦ inl w.rounds-test.false
]

-- the list that is returned: the rounds of the loop, and the last one
list_is : (c : After-of) → c.of.result ≡ c.rounds.rounds.items ++ c.rounds.last.graph ∷ []
list_is c = c.of.ensures ∙ c.in_ok-push-2.ensures.items

are_rounds : (c : After-of) → AreRounds c.args.graph.now c.of.result
are_rounds c = subst (AreRounds c.args.graph.now) (sym (list_is c)) (all_rounds c.args.graph.now c.rounds.rounds.items c.rounds.last c.rounds.invariant (ends c))

they_keep : (c : After-of) → RoundsKeep c.args.graph.now c.of.result
they_keep c = subst (RoundsKeep c.args.graph.now) (sym (list_is c)) (all_keep c.args.graph.now c.rounds.rounds.items c.rounds.last c.rounds.invariant)

pub returns-clause-rounds : goal.returns-clause-rounds
returns-clause-rounds c = are_rounds (goal.at.returns-clause-rounds c).After-of

pub returns-clause-only : goal.returns-clause-only
returns-clause-only c = λ other are. rounds_are_one c.args.graph.now other c.of.result are (are_rounds (goal.at.returns-clause-only c).After-of)

pub returns-clause-keeps : goal.returns-clause-keeps
returns-clause-keeps c = they_keep (goal.at.returns-clause-keeps c).After-of

pub returns-clause-last : goal.returns-clause-last
returns-clause-last c =
    let known = (goal.at.returns-clause-last c).After-of in
    last_keeps c.args.graph.now c.of.result (are_rounds known) (they_keep known)

pub returns-clause-best : goal.returns-clause-best
returns-clause-best c =
    let known = (goal.at.returns-clause-best c).After-of in
    subst (AreBestSteps known.args.graph.now) (sym (list_is known)) (all_best known.args.graph.now known.rounds.rounds.items known.rounds.last known.rounds.invariant)
