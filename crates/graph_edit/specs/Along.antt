-- The path along which a run goes to its return, and when the runs of a rewritten graph follow those of the graph.
-- Cited by contracts of motion_rewrite.
use Rattle.std.specs.Prelude.{◌≡◌, ℕ, List, [], ◌∷◌, length}
use Rattle.mir_base.specs.Frames.{CallEntry, Answer, Frame, first_frame, resumed, Transition, Continues, Prints, Calls, Returns, Traps, Code}
use Rattle.mir_base.specs.UnitRuns.{Machine, AreAnswers, EndsInReturn, IsEntry, unit_run}
use Rattle.flow_graph.specs.Graphs.{GraphShape}
use Rattle.flow_graph.specs.Machines.{machine_of}
use Rattle.graph_edit.specs.Over.{IsOver}
use Rattle.flow_graph.specs.Paths.{IsFullPath}

-- a transition at a node after which these nodes of the path are left: the run goes on along them, or returns where
-- none is left. A call takes the next answer
abbrev pub StepsAlong : List ℕ → (Frame → List Answer → Type 0) → Transition → List Answer → Type 0
StepsAlong rest Goes (Continues counted next) answers = Goes next answers
StepsAlong rest Goes (Prints value next) answers = Goes next answers
StepsAlong rest Goes (Calls unit entry into next) [] = ⊥
StepsAlong rest Goes (Calls unit entry into next) (answer ∷ answers) =
    Goes (resumed into answer next) answers
StepsAlong [] Goes (Returns answer) answers = Unit {0}
StepsAlong (n ∷ rest) Goes (Returns answer) answers = ⊥
StepsAlong rest Goes (Traps kind counted) answers = ⊥

-- from this frame the run goes along these places to its return
abbrev pub GoesAlong : Code → List ℕ → Frame → List Answer → Type 0
GoesAlong code [] frame answers = ⊥
GoesAlong code (n ∷ path) frame answers = (frame.place ≡ n)
    × StepsAlong path (GoesAlong code path) (code frame) answers

-- the run of the machine with these arguments and answers goes along the path to its return
abbrev pub RunsAlong : Machine → CallEntry → List Answer → List ℕ → Type 0
RunsAlong machine entry answers path = GoesAlong machine.code path (first_frame entry) answers

-- where a run of the graph goes along a full path to its return, the run of the result with the same arguments and
-- answers goes along the corresponding path of it
pub record RunsFollow (graph result : GraphShape) : Type 0 where
  pub follow : (path over : List ℕ) (entry : CallEntry) (answers : List Answer)
      → IsFullPath graph.nodes path
      → IsOver graph.nodes result.nodes path over → IsEntry (machine_of graph) entry
      → AreAnswers graph.shared answers
      → RunsAlong (machine_of graph) entry answers path
      → RunsAlong (machine_of result) entry answers over

-- the run of the graph with these arguments and answers goes along a full path, and that of the result along the
-- corresponding path of it, at whose end it returns
pub record RunOver (graph result : GraphShape) (entry : CallEntry)
    (answers : List Answer) : Type 0 where
  pub path : List ℕ
  pub full : IsFullPath graph.nodes path
  pub along : RunsAlong (machine_of graph) entry answers path
  pub over : List ℕ
  pub is_over : IsOver graph.nodes result.nodes path over
  pub along_over : RunsAlong (machine_of result) entry answers over
  pub returns : EndsInReturn (unit_run (machine_of result) entry answers (length over)).events
