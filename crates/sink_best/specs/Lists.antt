-- Lists of steps, of any length, with which rounds that have come to rest are compared. Cited by contracts, those of the
-- crates above too.
use Rattle.std.specs.Prelude.{List, [], ◌∷◌}
use Rattle.flow_graph.specs.Graphs.{GraphShape}
use Rattle.sink_rounds.specs.RoundGraphs.{HaveOneLayout, last_round}
use Rattle.sink_rounds.specs.Steps.{AreBestSteps, IsNoHeavier, IsNoWorse, IsStep}

-- a list of steps leads from the graph to the result: none, or one more from where it led before
pub data AreSteps (graph : GraphShape) : GraphShape → Type 0 where
  no_step : AreSteps graph graph
  one_more : (between result : GraphShape) → AreSteps graph between → IsStep between result
      → AreSteps graph result

-- the last of the rounds has the layout of the graph before it
abbrev pub ComeToRest : GraphShape → List GraphShape → Type 0
ComeToRest graph [] = ⊥
ComeToRest graph (round ∷ []) = HaveOneLayout graph round
ComeToRest graph (round ∷ next ∷ rounds) = ComeToRest round (next ∷ rounds)

-- the result is the best of all that lists of steps make of the graph: none of these leaves fewer of a plain or movable
-- assignment on any full path of the graph, or lighter ones
pub record IsBestOfLists (graph result : GraphShape) : Type 0 where
  pub no_worse : (other : GraphShape) → AreSteps graph other → IsNoWorse graph result other
  pub no_heavier : (other : GraphShape) → AreSteps graph other → IsNoHeavier graph result other

-- where the rounds come to rest, the last of them is the best of all that lists of steps make of the graph
abbrev pub AreBestAtRest : GraphShape → List GraphShape → Type 0
AreBestAtRest graph rounds = ComeToRest graph rounds → IsBestOfLists graph (last_round graph rounds)

-- each of the rounds is the best of all single steps from the graph before it; and where they come to rest, the last is
-- the best of all that lists of steps make of the graph
pub record AreBestRounds (graph : GraphShape) (rounds : List GraphShape) : Type 0 where
  pub steps : AreBestSteps graph rounds
  pub at_rest : AreBestAtRest graph rounds
