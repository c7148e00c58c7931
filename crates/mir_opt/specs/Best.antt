-- That the code motion of a trail is the best: on no full path does an admissible placement evaluate an expression less
-- often; that sinking leaves no more assignments on any, each round no more than any single step; and that rounds at
-- rest leave no more than any list of steps. Cited by contracts.
use Rattle.std.specs.Prelude.{ℕ, List}
use Rattle.mir_base.specs.declared.instructions.Expr.{Expr}
use Rattle.graph_edit.specs.Along.{RunsFollow}
use Rattle.flow_graph.specs.Graphs.{GraphShape}
use Rattle.motion_rewrite.specs.declared.placement.Placement.{Placement}
use Rattle.motion_rewrite.specs.Over.{HasOverEach}
use Rattle.motion_rewrite.specs.Placements.{AreOptimal, IsAnticipatable}
use Rattle.div_move.specs.MustCome.{MustComeTo}
use Rattle.div_move.specs.Moves.{InsertionsCome}
use Rattle.graph_edit.specs.NoMore.{HasNoMore}
use Rattle.sink_rounds.specs.RoundGraphs.{last_round}
use Rattle.sink_best.specs.Lists.{AreBestRounds}
use Rattle.mir_opt.specs.declared.trails.MoveUnit.{MoveUnit}
use Rattle.mir_opt.specs.declared.trails.UnitTrail.{UnitTrail}

-- of each expression of the table the placement is admissible by the rule, and on every full path of the split graph it
-- counts at most what any admissible placement counts; what it counts is what the moved graph evaluates on the
-- corresponding path of that one; and where a run of the split graph goes along a full path, that of the moved graph
-- goes along the corresponding path of it
pub record IsBest (Down : GraphShape → Expr → ℕ → Type 0) (split : GraphShape) (table : List Expr)
    (placement : Placement) (moved : GraphShape) : Type 0 where
  pub optimal : AreOptimal split table (Down split) placement
  pub evaluates : HasOverEach split table placement moved
  pub follows : RunsFollow split moved

-- so it is in a unit after all passes, where expressions may stand where they are anticipatable
abbrev pub MovesBest : UnitTrail → Type 0
MovesBest unit = IsBest IsAnticipatable unit.split unit.table unit.placement unit.moved

-- and in one whose code is moved alone
abbrev pub MotionIsBest : MoveUnit → Type 0
MotionIsBest unit = IsBest IsAnticipatable unit.split unit.table unit.placement unit.moved

-- and in one whose divisions are moved: they may stand where a run must come to them, and each is inserted only where a
-- run is sure to come to that very division
pub record DivisionsAreBest (unit : MoveUnit) : Type 0 where
  pub best : IsBest MustComeTo unit.split unit.table unit.placement unit.moved
  pub comes : InsertionsCome unit.split unit.table unit.placement

-- on the corresponding path of each full path the last round has no more of any plain or movable assignment than the
-- graph before the rounds
abbrev pub SinksNoMore : UnitTrail → Type 0
SinksNoMore unit = HasNoMore unit.recopied (last_round unit.recopied unit.rounds.graphs)

-- each round is the best of all single steps from the graph before it: none leaves fewer of a plain or movable
-- assignment on any full path, or lighter ones; and where a round leaves the layout as it is, none leaves fewer than
-- stand there, and no list of steps from the graph before the rounds, of any length, leaves fewer than that round, or
-- lighter ones
abbrev pub RoundsAreBest : UnitTrail → Type 0
RoundsAreBest unit = AreBestRounds unit.recopied unit.rounds.graphs
