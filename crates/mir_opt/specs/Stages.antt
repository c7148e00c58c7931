-- The graphs of the stages of a unit, and that each of them keeps the unit; and what a program keeps of another. Cited
-- by contracts.
use Rattle.std.specs.Prelude.{ℕ, zero, suc, max, List, [], ◌∷◌, ◌++◌, codes, decimal, fold, length}
use Rattle.std.specs.List.{AllZip}
use Rattle.mir_base.specs.Runs.{Cheaper, Same}
use Rattle.mir_base.specs.Shapes.{ProgramShape, UnitShape}
use Rattle.mir_sim.specs.Calls.{CallsNoMore}
use Rattle.mir_sim.specs.Machines.{Shallower}
use Rattle.mir_sim.specs.Pairs.{AllUnitsSame}
use Rattle.flow_graph.specs.Graphs.{AllWithin, GraphShape}
use Rattle.flow_graph.specs.Keeps.{AsGraph, AsUnit, Keeps}
use Rattle.flow_graph.specs.Layouts.{IsLayout}
use Rattle.sink_rounds.specs.RoundGraphs.{last_round}
use Rattle.mir_opt.specs.declared.stages.Stage.{Stage}
use Rattle.mir_opt.specs.declared.stages.Stage.TheVariants.{Lower, Clean, Fold, Number, Copies, Split, Motion, CopiesAfterMotion, Round, Result}
use Rattle.mir_opt.specs.declared.stages.MoveStage.{MoveStage}
use Rattle.mir_opt.specs.declared.stages.MoveStage.TheVariants as moves
use Rattle.mir_opt.specs.declared.trails.MoveUnit.{MoveUnit}
use Rattle.mir_opt.specs.declared.trails.UnitTrail.{UnitTrail}

-- the graph after so many of these rounds on a graph; after the last one it stays
abbrev pub after_rounds : GraphShape → List GraphShape → ℕ → GraphShape
after_rounds graph [] count = graph
after_rounds graph (round ∷ rounds) zero = graph
after_rounds graph (round ∷ rounds) (suc count) = after_rounds round rounds count

-- the graph of a unit at a stage of all passes; a unit with fewer rounds shows its last one
abbrev pub graph_at : UnitTrail → Stage → GraphShape
graph_at unit Lower = unit.lowered
graph_at unit Clean = unit.cleaned
graph_at unit Fold = unit.folded
graph_at unit Number = unit.numbered
graph_at unit Copies = unit.copied
graph_at unit Split = unit.split
graph_at unit Motion = unit.moved
graph_at unit CopiesAfterMotion = unit.recopied
graph_at unit (Round count) = after_rounds unit.recopied unit.rounds.graphs count
graph_at unit Result = unit.swept

-- the name of a stage
abbrev pub stage_name : Stage → List ℕ
stage_name Lower = codes "lower"
stage_name Clean = codes "clean"
stage_name Fold = codes "fold"
stage_name Number = codes "number"
stage_name Copies = codes "copies"
stage_name Split = codes "split"
stage_name Motion = codes "motion"
stage_name CopiesAfterMotion = codes "copies after motion"
stage_name (Round count) = codes "round " ++ decimal count
stage_name Result = codes "result"

-- the greatest number of rounds that any of these units had
abbrev pub longest_rounds : List UnitTrail → ℕ
longest_rounds units = fold (λ most unit. max most (length unit.rounds.graphs)) 0 units

-- so many rounds
abbrev pub first_rounds : ℕ → List Stage
first_rounds zero = []
first_rounds (suc count) = first_rounds count ++ Round (suc count) ∷ []

-- the stages before the rounds, in their order
abbrev pub before_rounds : List Stage
before_rounds = Lower ∷ Clean ∷ Fold ∷ Number ∷ Copies ∷ Split ∷ Motion ∷ CopiesAfterMotion ∷ []

-- the stages of these units, in their order
abbrev pub stages_in : List UnitTrail → List Stage
stages_in units = (before_rounds ++ first_rounds (longest_rounds units)) ++ Result ∷ []

-- the graph of a unit at a stage of code motion alone
abbrev pub move_graph_at : MoveUnit → MoveStage → GraphShape
move_graph_at unit moves.Lower = unit.lowered
move_graph_at unit moves.Clean = unit.cleaned
move_graph_at unit moves.Split = unit.split
move_graph_at unit moves.Motion = unit.moved
move_graph_at unit moves.Result = unit.swept

-- the edges of the graphs of a unit that are cleaned lead to nodes
abbrev pub CleansWithin : UnitTrail → Type 0
CleansWithin unit = AllWithin unit.lowered.nodes
    × AllWithin (last_round unit.recopied unit.rounds.graphs).nodes

-- and of one whose code is moved alone
abbrev pub MotionCleansWithin : MoveUnit → Type 0
MotionCleansWithin unit = AllWithin unit.lowered.nodes × AllWithin unit.moved.nodes

-- at each stage the graph of each unit keeps the unit of the source of its number
abbrev pub AllKeep : {T S : Type 0} → (T → S → GraphShape) → List UnitShape → List T → Type 0
AllKeep {S = S} graph_of sources units =
    AllZip (λ source unit. (stage : S) → Keeps (AsUnit source) (AsGraph (graph_of unit stage)))
    sources units

-- these units are the layouts of the graphs of a stage
abbrev pub AreLaid : {T S : Type 0} → (T → S → GraphShape) → S → List T → List UnitShape → Type 0
AreLaid graph_of stage units targets =
    AllZip (λ unit target. IsLayout (graph_of unit stage) target) units targets

-- the second program is the same as the first, as a whole and unit by unit, evaluates no more operators, never has more
-- frames, and calls no units but those that the first calls
pub record KeepsProgram (first second : ProgramShape) : Type 0 where
  pub same : Same first second
  pub cheaper : Cheaper first second
  pub units : AllUnitsSame first second
  pub shallower : Shallower first second
  pub calls : CallsNoMore first second
