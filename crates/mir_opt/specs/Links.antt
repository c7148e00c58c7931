-- When a trail is linked: each part is the exact result of its pass on the part before. Cited by contracts.
use Rattle.std.specs.Prelude.{◌≡◌, ℕ, List}
use Rattle.std.specs.List.{AllZip}
use Rattle.mir_base.specs.declared.instructions.Expr.{Expr}
use Rattle.mir_base.specs.Shapes.{ProgramShape, UnitShape}
use Rattle.flow_graph.specs.declared.nodes.Node.{Node}
use Rattle.flow_graph.specs.Graphs.{GraphShape}
use Rattle.flow_graph.specs.Lowered.{IsLowered}
use Rattle.jump_clean.specs.Cleaned.{IsClean}
use Rattle.edge_split.specs.Split.{IsEdgeSplit}
use Rattle.cond_const.specs.Folded.{IsFolded}
use Rattle.value_number.specs.Numbered.{IsNumbered}
use Rattle.copy_flow.specs.Copied.{IsCopied}
use Rattle.sink_rounds.specs.RoundGraphs.{AreRounds, last_round}
use Rattle.motion_rewrite.specs.declared.placement.Placement.{Placement}
use Rattle.motion_rewrite.specs.Flatten.{IsFlattened}
use Rattle.motion_rewrite.specs.Placements.{IsAnticipatable}
use Rattle.motion_rewrite.specs.ExprTables.{dividing_exprs, movable_exprs}
use Rattle.latest_place.specs.Lazy.{IsLazyPlacement}
use Rattle.div_move.specs.MustCome.{MustComeTo}
use Rattle.mir_opt.specs.declared.trails.UnitTrail.{UnitTrail}
use Rattle.mir_opt.specs.declared.trails.Trail.{Trail}
use Rattle.mir_opt.specs.declared.trails.MoveUnit.{MoveUnit}
use Rattle.mir_opt.specs.declared.trails.MoveTrail.{MoveTrail}
use Rattle.mir_opt.specs.declared.stages.Stage.TheVariants.{Result}
use Rattle.mir_opt.specs.declared.stages.MoveStage.TheVariants as moves
use Rattle.mir_opt.specs.Stages.{AreLaid, graph_at, move_graph_at}

-- ---- code motion

-- the steps of code motion: the split graph, the expressions of it that are moved, their lazy placement by the rule,
-- and the graph rewritten by it
pub record IsMotion (exprs : List Node → List Expr) (Down : GraphShape → Expr → ℕ → Type 0)
    (graph split : GraphShape)
    (table : List Expr) (placement : Placement) (moved : GraphShape) : Type 0 where
  pub splits : IsEdgeSplit graph split
  pub table_is : table ≡ exprs split.nodes
  pub placed : IsLazyPlacement Down split table placement
  pub flattened : IsFlattened split table placement moved

-- the motion of the movable expressions, which may stand where they are anticipatable
abbrev pub IsSafeMotion : GraphShape → GraphShape → List Expr → Placement → GraphShape → Type 0
IsSafeMotion graph split table placement moved =
    IsMotion movable_exprs IsAnticipatable graph split table placement moved

-- the motion of the expressions that divide, which may stand where a run must come to them
abbrev pub IsDivisionMotion : GraphShape → GraphShape → List Expr → Placement → GraphShape → Type 0
IsDivisionMotion graph split table placement moved =
    IsMotion dividing_exprs MustComeTo graph split table placement moved

-- ---- one unit

-- how a unit becomes a graph with clean jumps
pub record IsStart (source : UnitShape) (lowered cleaned : GraphShape) : Type 0 where
  pub lowers : IsLowered source lowered
  pub cleans : IsClean lowered cleaned

-- what comes between this and code motion
pub record IsBeforeMotion (cleaned folded numbered copied : GraphShape) : Type 0 where
  pub folds : IsFolded cleaned folded
  pub numbers : IsNumbered folded numbered
  pub copies : IsCopied numbered copied

-- what comes after it
pub record IsBack (moved recopied : GraphShape) (rounds : List GraphShape)
    (swept : GraphShape) : Type 0 where
  pub copies : IsCopied moved recopied
  pub sinks : AreRounds recopied rounds
  pub sweeps : IsClean (last_round recopied rounds) swept

-- the steps of one unit of the source
pub record LinksUnit (source : UnitShape) (unit : UnitTrail) : Type 0 where
  pub start : IsStart source unit.lowered unit.cleaned
  pub front : IsBeforeMotion unit.cleaned unit.folded unit.numbered unit.copied
  pub motion : IsSafeMotion unit.copied unit.split unit.table unit.placement unit.moved
  pub back : IsBack unit.moved unit.recopied unit.rounds.graphs unit.swept

-- and those of code motion alone
pub record LinksMove (source : UnitShape) (unit : MoveUnit) : Type 0 where
  pub start : IsStart source unit.lowered unit.cleaned
  pub motion : IsSafeMotion unit.cleaned unit.split unit.table unit.placement unit.moved
  pub sweeps : IsClean unit.moved unit.swept

-- and those of the motion of divisions
pub record LinksDivision (source : UnitShape) (unit : MoveUnit) : Type 0 where
  pub start : IsStart source unit.lowered unit.cleaned
  pub motion : IsDivisionMotion unit.cleaned unit.split unit.table unit.placement unit.moved
  pub sweeps : IsClean unit.moved unit.swept

-- ---- all units

-- each unit of the source has its steps, and the unit of its number in the target is the layout of
-- their last graph; the target has no other units, and the globals of the source
pub record AllLinked {T S : Type 0} (graph_of : T → S → GraphShape) (last : S)
    (Links : UnitShape → T → Type 0)
    (source : ProgramShape) (units : List T) (target : ProgramShape) : Type 0 where
  pub steps : AllZip Links source.units units
  pub laid : AreLaid graph_of last units target.units
  pub globals : target.globals ≡ source.globals

-- the trail of `optimise`
abbrev pub IsLinked : Trail → Type 0
IsLinked trail = AllLinked graph_at Result LinksUnit trail.source trail.units trail.target

-- the trail of `motion`
abbrev pub IsMoveLinked : MoveTrail → Type 0
IsMoveLinked trail =
    AllLinked move_graph_at moves.Result LinksMove trail.source trail.units trail.target

-- the trail of `divisions`
abbrev pub IsDivisionLinked : MoveTrail → Type 0
IsDivisionLinked trail =
    AllLinked move_graph_at moves.Result LinksDivision trail.source trail.units trail.target

-- no other trail of the program is linked
abbrev pub IsOnlyTrail : ProgramShape → Trail → Type 0
IsOnlyTrail program trail = (other : Trail) → other.source ≡ program → IsLinked other
    → trail ≡ other

-- no other move trail of the program is linked
abbrev pub IsOnlyMoveTrail : ProgramShape → MoveTrail → Type 0
IsOnlyMoveTrail program trail = (other : MoveTrail) → other.source ≡ program → IsMoveLinked other
    → trail ≡ other

-- no other division trail of the program is linked
abbrev pub IsOnlyDivisionTrail : ProgramShape → MoveTrail → Type 0
IsOnlyDivisionTrail program trail = (other : MoveTrail) → other.source ≡ program
    → IsDivisionLinked other
    → trail ≡ other

-- a unit of the source has no two values of linked steps, where those of one lead to nodes
abbrev pub HasOneLink : {T : Type 0} → (T → Type 0) → (UnitShape → T → Type 0) → Type 0
HasOneLink {T = T} Within Links =
    (source : UnitShape) (a b : T) → Within a → Links source a → Links source b → a ≡ b
