-- What the motion of divisions finds out of a unit. Cited by contracts.
use Rattle.std.specs.Prelude.{◌≡◌, List, Bool, length}
use Rattle.down_safe.specs.Busy.{AreBusyRows}
use Rattle.div_move.specs.MustCome.{MustComeTo}
use Rattle.latest_place.specs.Lazy.{AreLateRows}
use Rattle.live_range.specs.Held.{AreHeldEdges}
use Rattle.mir_opt.specs.declared.trails.MoveUnit.{MoveUnit}
use Rattle.mir_opt.specs.Links.{IsDivisionMotion}
use Rattle.motion_rewrite.specs.Expressions.{kills}
use Rattle.motion_rewrite.specs.Placements.{IsAnticipatable}
use Rattle.motion_rewrite.specs.Rows.{AreRowsOf, AreRowsWhere}
use Rattle.division_table.specs.declared.rows.BoundRows.{BoundRows}
use Rattle.division_table.specs.declared.rows.DivisionRows.{DivisionRows}
use Rattle.division_table.specs.declared.rows.SureRows.{SureRows}

-- what a linked trail says of the motion of the divisions of a unit
abbrev pub IsUnitDivision : MoveUnit → Type 0
IsUnitDivision unit = IsDivisionMotion unit.cleaned unit.split unit.table unit.placement unit.moved

-- the rows say of each expression of the split graph where it is used and available, where each run is sure to come to
-- it, where it is earliest, delayed, latest and isolated by this rule, and on which edges the lazy placement holds its
-- temporary
pub record AreSureRows (unit : MoveUnit) (rows : SureRows) : Type 0 where
  pub busy_are : AreBusyRows unit.split unit.table (MustComeTo unit.split) rows.busy
  pub late_are : AreLateRows unit.split unit.table (MustComeTo unit.split) rows.late
  pub held_are : AreHeldEdges unit.split unit.table unit.placement rows.held.edges

-- where it is killed, and where every path evaluates it
pub record AreBoundRows (unit : MoveUnit) (rows : BoundRows) : Type 0 where
  pub kills_are : AreRowsOf unit.split unit.table (kills unit.split) rows.kills
  pub anticipatable_are : AreRowsWhere unit.split unit.table
      (IsAnticipatable unit.split) rows.anticipatable

-- and all of this
pub record AreDivisionRows (unit : MoveUnit) (rows : DivisionRows) : Type 0 where
  pub sure_are : AreSureRows unit rows.sure
  pub bounds_are : AreBoundRows unit rows.bounds
