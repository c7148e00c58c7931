-- Rounds of sinking: one round, and the rounds that are made of a graph. Cited by contracts.
use Rattle.std.specs.Prelude.{◌≡◌, ◌⊎◌, ◌↔◌, ℕ, zero, suc, Bool, false, List, [], ◌∷◌}
use Rattle.mir_base.specs.Shapes.{UnitShape}
use Rattle.flow_graph.specs.Graphs.{GraphShape}
use Rattle.flow_graph.specs.Layouts.{IsLayout}
use Rattle.sink_code.specs.SunkGraphs.{IsSunk}
use Rattle.dead_code.specs.Pruned.{IsPruned, KeepsHandedOn}

-- assignments sink, and then the dead ones go
pub record IsRound (graph result : GraphShape) : Type 0 where
  pub sunk : GraphShape
  pub is_sunk : IsSunk graph sunk
  pub is_pruned : IsPruned sunk result

-- a graph has no other round
abbrev pub IsOnlyRound : GraphShape → GraphShape → Type 0
IsOnlyRound graph round = (other : GraphShape) → IsRound graph other → other ≡ round

-- no last assignment of a global before a call or a return is removed: where the assignments have sunk, each of a
-- global whose value is handed on stays in the round
abbrev pub KeepsGlobals : GraphShape → GraphShape → Type 0
KeepsGlobals graph round = (sunk : GraphShape) → IsSunk graph sunk → KeepsHandedOn sunk round

-- the two graphs have one layout
pub record HaveOneLayout (first second : GraphShape) : Type 0 where
  pub unit : UnitShape
  pub of_first : IsLayout first unit
  pub of_second : IsLayout second unit

-- it says whether the two graphs have different layouts
abbrev pub SaysChanged : GraphShape → GraphShape → Bool → Type 0
SaysChanged first second changed = (changed ≡ false) ↔ HaveOneLayout first second

-- the last of at most so many more rounds after this one is `next`, or there are more
abbrev pub AreRoundsFrom : ℕ → GraphShape → GraphShape → List GraphShape → Type 0
AreRoundsFrom more graph next [] = IsRound graph next × ((more ≡ 0) ⊎ HaveOneLayout graph next)
AreRoundsFrom zero graph next (later ∷ rest) = ⊥
AreRoundsFrom (suc more) graph next (later ∷ rest) = IsRound graph next
    × (¬ (HaveOneLayout graph next) × AreRoundsFrom more next later rest)

-- the rounds of a graph: the first is a round of the graph, each other one of the one before. There are one to sixteen;
-- only the last may have the layout of the graph before it, and it has unless there are sixteen
abbrev pub AreRounds : GraphShape → List GraphShape → Type 0
AreRounds graph [] = ⊥
AreRounds graph (next ∷ rest) = AreRoundsFrom 15 graph next rest

-- a graph has no other rounds
abbrev pub AreOnlyRounds : GraphShape → List GraphShape → Type 0
AreOnlyRounds graph rounds = (other : List GraphShape) → AreRounds graph other → other ≡ rounds

-- the last graph of the list, and this one where there is none
abbrev pub last_round : GraphShape → List GraphShape → GraphShape
last_round graph [] = graph
last_round graph (round ∷ rounds) = last_round round rounds

-- it is the last of the rounds of the graph, which has no others
pub record IsLastRound (graph last : GraphShape) : Type 0 where
  pub rounds : List GraphShape
  pub are_rounds : AreRounds graph rounds
  pub only : AreOnlyRounds graph rounds
  pub is : last ≡ last_round graph rounds
