-- What is known of the rounds that a loop has made.
use Rattle.std.proofs.Common.{◌≡◌, ℕ, ◌+◌, ◌<◌, ◌≤◌, ◌++◌, ◌∷◌, ◌⊎◌, true, false, List, [], length, inl, inr, refl, sym, ◌∙◌, subst, arith, length-append}
use Rattle.std.proofs.lemmas.Bool.{true≢false}
use Rattle.flow_graph.specs.Graphs.{GraphShape}
use Rattle.sink_rounds.specs.declared.repeating.MadeRound.{MadeRound}
use Rattle.sink_code.specs.RoundKept.{RoundKeeps}
use Rattle.sink_rounds.specs.RoundGraphs.{AreRounds, IsLastRound, last_round}
use Rattle.sink_rounds.specs.RoundsKept.{RoundsKeep}
use Rattle.sink_rounds.specs.RoundsMade.{IsMadeRound}
use Rattle.sink_rounds.specs.Steps.{AreBestSteps, IsBestStep}
use Rattle.sink_rounds.specs.RoundLaws.{LeadBy, keep_on, last_keeps, lead_on, rounds_are_one, rounds_end}

-- the rounds lead from the graph to one of which `last` is a round, and keep what they should
pub record AreSoFar (graph : GraphShape) (rounds : List GraphShape) (last : MadeRound) : Type 0 where
  pub before : GraphShape
  pub leads : LeadBy graph rounds before
  pub kept : RoundsKeep graph rounds
  pub best : AreBestSteps graph rounds
  pub made : IsMadeRound before last
  pub few : length rounds ≤ 15

-- one more of them is the best step too
best_on : (graph : GraphShape) (rounds : List GraphShape) (last next : GraphShape) → LeadBy graph rounds last → AreBestSteps graph rounds → IsBestStep last next → AreBestSteps graph (rounds ++ next ∷ [])
best_on graph [] last next same best is = (subst (λ g. IsBestStep g next) (sym same) is, tt)
best_on graph (round ∷ rounds) last next leads best is = (best.0, best_on round rounds last next leads.1.1 best.1 is)

-- at first there is one, which is not in the list yet
pub first_round : (graph : GraphShape) (last : MadeRound) → IsMadeRound graph last → AreSoFar graph [] last
first_round graph last made = record { before = graph; leads = refl; kept = tt; best = tt; made = made; few = omega arith }

-- a round that changes the layout, and one more
pub one_more : (graph : GraphShape) (rounds : List GraphShape) (last next : MadeRound) → AreSoFar graph rounds last → last.changed ≡ true → length rounds < 15 → IsMadeRound last.graph next → AreSoFar graph (rounds ++ last.graph ∷ []) next
one_more graph rounds last next so_far changed few made = record {
  before = last.graph;
  leads = lead_on graph rounds so_far.before last.graph so_far.leads so_far.made.round (λ one. true≢false (sym changed ∙ so_far.made.changed.1 one));
  kept = keep_on graph rounds so_far.before last.graph so_far.leads so_far.kept so_far.made.keeps;
  best = best_on graph rounds so_far.before last.graph so_far.leads so_far.best so_far.made.best;
  made = made;
  few = omega (arith, few, length-append rounds (last.graph ∷ []));
}

-- the whole list, with the last round
pub all_rounds : (graph : GraphShape) (rounds : List GraphShape) (last : MadeRound) → AreSoFar graph rounds last → ((last.changed ≡ false) ⊎ (15 ≤ length rounds)) → AreRounds graph (rounds ++ last.graph ∷ [])
all_rounds graph rounds last so_far ends = rounds_end graph rounds so_far.before last.graph so_far.leads so_far.made.round so_far.few (elim ends [
  | inl same ↦ inr (so_far.made.changed.0 same)
  | inr many ↦ inl (omega (arith, many, so_far.few))
])

-- which keep what they should
pub all_keep : (graph : GraphShape) (rounds : List GraphShape) (last : MadeRound) → AreSoFar graph rounds last → RoundsKeep graph (rounds ++ last.graph ∷ [])
all_keep graph rounds last so_far = keep_on graph rounds so_far.before last.graph so_far.leads so_far.kept so_far.made.keeps

-- and each is the best step
pub all_best : (graph : GraphShape) (rounds : List GraphShape) (last : MadeRound) → AreSoFar graph rounds last → AreBestSteps graph (rounds ++ last.graph ∷ [])
all_best graph rounds last so_far = best_on graph rounds so_far.before last.graph so_far.leads so_far.best so_far.made.best

-- ---- only the last is kept

-- so many rounds lead from the graph to one of which `last` is a round
pub record AreBefore (graph : GraphShape) (before : ℕ) (last : MadeRound) : Type 0 where
  pub rounds : List GraphShape
  pub so_far : AreSoFar graph rounds last
  pub many : length rounds ≡ before

-- at first there is none
pub none_before : (graph : GraphShape) (last : MadeRound) → IsMadeRound graph last → AreBefore graph 0 last
none_before graph last made = record { rounds = []; so_far = first_round graph last made; many = refl }

-- a round that changes the layout, and one more
pub one_before : (graph : GraphShape) (before : ℕ) (last next : MadeRound) → AreBefore graph before last → last.changed ≡ true → before < 15 → IsMadeRound last.graph next → AreBefore graph (before + 1) next
one_before graph before last next so changed few made = record {
  rounds = so.rounds ++ last.graph ∷ [];
  so_far = one_more graph so.rounds last next so.so_far changed (omega (arith, few, so.many)) made;
  many = omega (arith, so.many, length-append so.rounds (last.graph ∷ []));
}

-- the last of a list is what stands at its end
last_pushed : (graph : GraphShape) (rounds : List GraphShape) (last : GraphShape) → last_round graph (rounds ++ last ∷ []) ≡ last
last_pushed graph [] last = refl
last_pushed graph (round ∷ rounds) last = last_pushed round rounds last

module _ (graph : GraphShape) (before : ℕ) (last : MadeRound) (so : AreBefore graph before last) (ends : (last.changed ≡ false) ⊎ (15 ≤ before)) where
  -- with the last one they are the rounds of the graph
  all_before : AreRounds graph (so.rounds ++ last.graph ∷ [])
  all_before = all_rounds graph so.rounds last so.so_far (elim ends [
    | inl same ↦ inl same
    | inr many ↦ inr (omega (arith, many, so.many))
  ])

  -- of which it is the last
  pub is_last : IsLastRound graph last.graph
  is_last = record {
    rounds = so.rounds ++ last.graph ∷ [];
    are_rounds = all_before;
    only = λ other are. rounds_are_one graph other (so.rounds ++ last.graph ∷ []) are all_before;
    is = sym (last_pushed graph so.rounds last.graph);
  }

  -- and keeps what it should
  pub last_kept : RoundKeeps graph last.graph
  last_kept = subst (RoundKeeps graph) (last_pushed graph so.rounds last.graph) (last_keeps graph (so.rounds ++ last.graph ∷ []) all_before (all_keep graph so.rounds last so.so_far))
