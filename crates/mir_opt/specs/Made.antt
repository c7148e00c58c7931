-- What the passes make of the units of a program, as the crate's own functions say it. Cited by contracts of private
-- functions.
use Rattle.std.specs.Prelude.{◌≡◌, ℕ, List}
use Rattle.std.specs.List.{AllZip}
use Rattle.mir_base.specs.declared.instructions.Expr.{Expr}
use Rattle.mir_base.specs.Shapes.{ProgramShape, UnitShape}
use Rattle.flow_graph.specs.DividingUnits.{DivisionsLaid, DivisionsLowered}
use Rattle.flow_graph.specs.Edges.{IsSplit}
use Rattle.flow_graph.specs.Graphs.{AllWithin, GraphShape}
use Rattle.flow_graph.specs.Keeps.{AsGraph, AsUnit, Keeps}
use Rattle.flow_graph.specs.Layouts.{IsLayout}
use Rattle.flow_graph.specs.Lowered.{CanLower}
use Rattle.flow_graph.specs.Passes.{GraphDivides, GraphDividesUnchanged, GraphKeeps}
use Rattle.cond_const.specs.Folded.{KeepsDivisions}
use Rattle.motion_rewrite.specs.Flatten.{IsFlattened}
use Rattle.motion_rewrite.specs.ExprTables.{movable_exprs}
use Rattle.sink_rounds.specs.RoundGraphs.{last_round}
use Rattle.sink_code.specs.RoundKept.{RoundKeeps}
use Rattle.sink_rounds.specs.RoundsKept.{RoundsKeep}
use Rattle.sink_best.specs.Lists.{AreBestRounds}
use Rattle.latest_place.specs.Lazy.{IsLazyPlacement}
use Rattle.div_move.specs.MustCome.{MustComeTo}
use Rattle.div_move.specs.Moves.{InsertionsCome}
use Rattle.mir_opt.specs.declared.back.Back.{Back}
use Rattle.mir_opt.specs.declared.front.FrontGraphs.{FrontGraphs}
use Rattle.mir_opt.specs.declared.front.Lowered.{Lowered}
use Rattle.mir_opt.specs.declared.front.Valued.{Valued}
use Rattle.mir_opt.specs.declared.moving.Moved.{Moved}
use Rattle.mir_opt.specs.declared.moving.PlacedCode.{PlacedCode}
use Rattle.mir_opt.specs.declared.trails.MoveUnit.{MoveUnit}
use Rattle.mir_opt.specs.declared.trails.UnitTrail.{UnitTrail}
use Rattle.mir_opt.specs.declared.over_units.ProgramSteps.{ProgramSteps}
use Rattle.mir_opt.specs.Best.{IsBest, MotionIsBest, MovesBest, RoundsAreBest, SinksNoMore}
use Rattle.mir_opt.specs.Divisions.{DivisionsStay}
use Rattle.mir_opt.specs.Links.{IsBack, IsBeforeMotion, IsDivisionMotion, IsMotion, IsStart}
use Rattle.mir_opt.specs.Stages.{AreLaid, KeepsProgram}

-- after all passes the code motion of a unit is the best, divisions stay, the last round has no more of any assignment
-- than the graph before the rounds, each round is the best of all steps, and the last of all lists of steps where the
-- rounds come to rest
pub record UnitBest (source : UnitShape) (unit : UnitTrail) : Type 0 where
  pub moves : MovesBest unit
  pub lowers : DivisionsLowered source unit.lowered
  pub divisions : DivisionsStay unit
  pub sinks : SinksNoMore unit
  pub rounds : RoundsAreBest unit

-- after code motion alone it is the best, and divisions stay as they are
pub record MoveBest (source : UnitShape) (unit : MoveUnit) : Type 0 where
  pub moves : MotionIsBest unit
  pub lowers : DivisionsLowered source unit.lowered
  pub divisions : GraphDividesUnchanged unit.lowered unit.swept

-- the steps are linked, their code motion is the best, the graph of each stage keeps the unit, and those that are
-- cleaned lead to nodes
pub record UnitMade {T S : Type 0} (graph_of : T → S → GraphShape)
    (Links Best : UnitShape → T → Type 0) (Within : T → Type 0) (source : UnitShape)
    (unit : T) : Type 0 where
  pub linked : Links source unit
  pub best : Best source unit
  pub keeps : (stage : S) → Keeps (AsUnit source) (AsGraph (graph_of unit stage))
  pub within : Within unit

-- so it is of the steps of each unit of a program
abbrev pub AllMade : {T S : Type 0} → (T → S → GraphShape) → (UnitShape → T → Type 0)
    → (UnitShape → T → Type 0) → (T → Type 0) → List UnitShape → List T → Type 0
AllMade graph_of Links Best Within sources units =
    AllZip (UnitMade graph_of Links Best Within) sources units

-- the first steps: each graph keeps what comes before it
pub record LoweredMade (source : UnitShape) (made : Lowered) : Type 0 where
  pub start : IsStart source made.lowered made.cleaned
  pub within : AllWithin made.lowered.nodes
  pub lowered_keeps : Keeps (AsUnit source) (AsGraph made.lowered)
  pub cleaned_keeps : GraphKeeps made.lowered made.cleaned
  pub lowered_divides : DivisionsLowered source made.lowered
  pub divides : GraphDividesUnchanged made.lowered made.cleaned

-- the passes on values, on a clean graph
pub record ValuesMade (cleaned : GraphShape) (made : Valued) : Type 0 where
  pub values : IsBeforeMotion cleaned made.folded made.numbered made.copied
  pub folded_keeps : GraphKeeps cleaned made.folded
  pub numbered_keeps : GraphKeeps made.folded made.numbered
  pub copied_keeps : GraphKeeps made.numbered made.copied
  pub folded_divides : KeepsDivisions cleaned made.folded
  pub copied_divides : GraphDivides made.folded made.copied

-- the steps up to code motion
pub record FrontMade (source : UnitShape) (made : FrontGraphs) : Type 0 where
  pub start : LoweredMade source made.start
  pub values : ValuesMade made.start.cleaned made.values

-- the steps after code motion, from the moved graph on
pub record BackMade (moved : GraphShape) (made : Back) : Type 0 where
  pub back : IsBack moved made.recopied made.rounds.graphs made.swept
  pub recopied_keeps : GraphKeeps moved made.recopied
  pub rounds_keep : RoundsKeep made.recopied made.rounds.graphs
  pub last_keeps : RoundKeeps made.recopied (last_round made.recopied made.rounds.graphs)
  pub rounds_best : AreBestRounds made.recopied made.rounds.graphs
  pub swept_keeps : GraphKeeps (last_round made.recopied made.rounds.graphs) made.swept
  pub divides : GraphDivides moved made.swept

-- the rewriting of a split graph by the lazy placement of a table: the moved graph keeps it, and stays split
pub record CodeMade (Down : GraphShape → Expr → ℕ → Type 0) (split : GraphShape) (table : List Expr)
    (made : PlacedCode) : Type 0 where
  pub placed : IsLazyPlacement Down split table made.placement
  pub flattened : IsFlattened split table made.placement made.moved
  pub best : IsBest Down split table made.placement made.moved
  pub is_split : IsSplit made.moved.nodes
  pub keeps : GraphKeeps split made.moved
  pub divides : GraphDividesUnchanged split made.moved

-- code motion by a down rule on a graph: each graph keeps the one before
pub record MotionMade (Down : GraphShape → Expr → ℕ → Type 0) (graph : GraphShape)
    (made : Moved) : Type 0 where
  pub motion : IsMotion movable_exprs Down graph made.split made.table made.placement made.moved
  pub best : IsBest Down made.split made.table made.placement made.moved
  pub is_split : IsSplit made.moved.nodes
  pub split_keeps : GraphKeeps graph made.split
  pub moved_keeps : GraphKeeps made.split made.moved
  pub divides : GraphDividesUnchanged graph made.moved

-- the motion of divisions on a graph: each graph keeps the one before
pub record DivisionsMade (graph : GraphShape) (made : Moved) : Type 0 where
  pub motion : IsDivisionMotion graph made.split made.table made.placement made.moved
  pub best : IsBest MustComeTo made.split made.table made.placement made.moved
  pub comes : InsertionsCome made.split made.table made.placement
  pub split_keeps : GraphKeeps graph made.split
  pub moved_keeps : GraphKeeps made.split made.moved

-- the unit is the layout of the graph, keeps it and its divisions, and can be lowered again
pub record IsLaidOut (graph : GraphShape) (unit : UnitShape) : Type 0 where
  pub layout : IsLayout graph unit
  pub keeps : Keeps (AsGraph graph) (AsUnit unit)
  pub divides : DivisionsLaid graph unit
  pub lowers : CanLower unit.shared unit.body

-- the unit keeps that of the source, and can be lowered again
pub record IsKept (source target : UnitShape) : Type 0 where
  pub keeps : Keeps (AsUnit source) (AsUnit target)
  pub lowers : CanLower target.shared target.body

-- the units are the layouts of the graphs at a stage, one by one
abbrev pub AllLaidOut : {T S : Type 0} → (T → S → GraphShape) → S → List T → List UnitShape → Type 0
AllLaidOut graph_of stage units targets =
    AllZip (λ unit target. IsLaidOut (graph_of unit stage) target) units targets

-- each division of the graphs at a stage is an instruction of the unit of its number
abbrev pub AllLayDivisions : {T S : Type 0} → (T → S → GraphShape) → S → List T → List UnitShape
    → Type 0
AllLayDivisions graph_of stage units targets =
    AllZip (λ unit target. DivisionsLaid (graph_of unit stage) target) units targets

-- what is made of the units of a program: the steps of each unit, and the program of the layouts of their last
-- graphs, which keeps the program
pub record ProgramMade {T S : Type 0} (graph_of : T → S → GraphShape) (last : S)
    (Links Best : UnitShape → T → Type 0) (Within : T → Type 0) (program : ProgramShape)
    (steps : ProgramSteps T) : Type 0 where
  pub source : steps.source ≡ program
  pub made : AllMade graph_of Links Best Within program.units steps.units
  pub laid : AreLaid graph_of last steps.units steps.target.units
  pub globals : steps.target.globals ≡ program.globals
  pub divides : AllLayDivisions graph_of last steps.units steps.target.units
  pub keeps : KeepsProgram program steps.target
