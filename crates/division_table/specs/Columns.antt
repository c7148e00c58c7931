-- The columns of what the motion of divisions finds out, which are its rows. Cited by contracts of private functions.
use Rattle.std.specs.Prelude.{◌≡◌}
use Rattle.motion_rewrite.specs.declared.placement.Placement.{Placement}
use Rattle.division_table.specs.declared.columns.DelayColumns.{DelayColumns}
use Rattle.division_table.specs.declared.columns.DivisionColumns.{DivisionColumns}
use Rattle.division_table.specs.declared.columns.FlowColumns.{FlowColumns}
use Rattle.division_table.specs.declared.columns.PlacedColumns.{PlacedColumns}
use Rattle.division_table.specs.declared.rows.DivisionRows.{DivisionRows}
use Rattle.division_table.specs.declared.rows.SureRows.{SureRows}

-- where expressions are used and killed, and what comes to them
pub record AreFlowColumns (rows : DivisionRows) (columns : FlowColumns) : Type 0 where
  pub uses_are : columns.uses ≡ rows.sure.busy.uses
  pub kills_are : columns.kills ≡ rows.bounds.kills
  pub available_are : columns.available ≡ rows.sure.busy.available
  pub anticipatable_are : columns.anticipatable ≡ rows.bounds.anticipatable
  pub sure_are : columns.sure ≡ rows.sure.busy.anticipatable

-- how far they can be delayed
pub record AreDelayColumns (rows : SureRows) (columns : DelayColumns) : Type 0 where
  pub earliest_are : columns.earliest ≡ rows.busy.earliest
  pub delayed_are : columns.delayed ≡ rows.late.delayed
  pub latest_are : columns.latest ≡ rows.late.latest
  pub isolated_are : columns.isolated ≡ rows.late.isolated

-- the placement, and where temporaries live
pub record ArePlacedColumns (placement : Placement) (rows : SureRows)
    (columns : PlacedColumns) : Type 0 where
  pub inserted_are : columns.inserted ≡ placement.insert
  pub replaced_are : columns.replaced ≡ placement.replace
  pub held_are : columns.held ≡ rows.held.edges

-- and all of this
pub record AreDivisionColumns (placement : Placement) (rows : DivisionRows)
    (columns : DivisionColumns) : Type 0 where
  pub flow_are : AreFlowColumns rows columns.flow
  pub delays_are : AreDelayColumns rows.sure columns.delays
  pub placed_are : ArePlacedColumns placement rows.sure columns.placed
