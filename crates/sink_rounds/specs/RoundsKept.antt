-- What rounds keep of a split graph, and of each other. Cited by contracts.
use Rattle.std.specs.Prelude.{List, [], ◌∷◌}
use Rattle.flow_graph.specs.Graphs.{GraphShape}
use Rattle.sink_code.specs.RoundKept.{RoundKeeps}

-- the graph is kept from it to the first of these, and from each of them to the next
abbrev pub RoundsKeep : GraphShape → List GraphShape → Type 0
RoundsKeep graph [] = Unit {0}
RoundsKeep graph (round ∷ rounds) = RoundKeeps graph round × RoundsKeep round rounds
