-- The lines of what code motion finds out, which are its rows in columns. Cited by contracts of private functions.
use Rattle.std.specs.Prelude.{◌≡◌}
use Rattle.motion_rewrite.specs.declared.placement.Placement.{Placement}
use Rattle.down_safe.specs.declared.safety.Busy.{Busy}
use Rattle.latest_place.specs.declared.delays.Late.{Late}
use Rattle.mir_opt.specs.declared.trails.UnitTrail.{UnitTrail}
use Rattle.pass_table.specs.declared.motion.MotionRows.{MotionRows}
use Rattle.pass_table.specs.declared.motion_lines.LateLines.{LateLines}
use Rattle.pass_table.specs.declared.motion_lines.MotionLines.{MotionLines}
use Rattle.pass_table.specs.declared.motion_lines.PlacedLines.{PlacedLines}
use Rattle.pass_table.specs.declared.motion_lines.SafeLines.{SafeLines}
use Rattle.pass_table.specs.Motion.{AreMotionRows}

-- ---- lines of rows

-- where expressions are used and killed, and where they are safe
pub record AreSafeLines (rows : MotionRows) (lines : SafeLines) : Type 0 where
  pub uses_are : lines.uses ≡ rows.places.busy.uses
  pub kills_are : lines.kills ≡ rows.bounds.kills
  pub available_are : lines.available ≡ rows.places.busy.available
  pub anticipatable_are : lines.anticipatable ≡ rows.places.busy.anticipatable
  pub earliest_are : lines.earliest ≡ rows.places.busy.earliest

-- how far they can be delayed
pub record AreLateLines (late : Late) (lines : LateLines) : Type 0 where
  pub delayed_are : lines.delayed ≡ late.delayed
  pub latest_are : lines.latest ≡ late.latest
  pub isolated_are : lines.isolated ≡ late.isolated

-- the placement, and where temporaries live
pub record ArePlacedLines (placement : Placement) (rows : MotionRows)
    (lines : PlacedLines) : Type 0 where
  pub busy_held_are : lines.busy_held ≡ rows.places.busy_held.edges
  pub insert_are : lines.insert ≡ placement.insert
  pub replace_are : lines.replace ≡ placement.replace
  pub held_are : lines.held ≡ rows.bounds.held.edges

-- and all of this
pub record AreMotionLines (placement : Placement) (rows : MotionRows)
    (lines : MotionLines) : Type 0 where
  pub safe_are : AreSafeLines rows lines.safe
  pub late_are : AreLateLines rows.places.late lines.late
  pub placed_are : ArePlacedLines placement rows lines.placed

-- ---- rows of lines

-- the rows of the busy placement
abbrev pub busy_of : MotionLines → Busy
busy_of lines = record {
  uses = lines.safe.uses;
  available = lines.safe.available;
  anticipatable = lines.safe.anticipatable;
  earliest = lines.safe.earliest;
}

-- those of how far expressions can be delayed; the rows of where these are used are those of the busy placement
abbrev pub late_of : MotionLines → Late
late_of lines =
    record {
      uses = lines.safe.uses;
      delayed = lines.late.delayed;
      latest = lines.late.latest;
      isolated = lines.late.isolated;
    }

-- all that code motion found out
abbrev pub rows_of_lines : MotionLines → MotionRows
rows_of_lines lines = record {
  places = record {
    busy = busy_of lines;
    late = late_of lines;
    busy_held = record { edges = lines.placed.busy_held };
  };
  bounds = record { kills = lines.safe.kills; held = record { edges = lines.placed.held } };
}

-- the placement
abbrev pub placement_of_lines : MotionLines → Placement
placement_of_lines lines = record { insert = lines.placed.insert; replace = lines.placed.replace }

-- the lines are those of rows that say of a unit what code motion finds out, and of its placement
pub record TellMotion (unit : UnitTrail) (lines : MotionLines) : Type 0 where
  pub rows_are : AreMotionRows unit (rows_of_lines lines)
  pub placement_is : placement_of_lines lines ≡ unit.placement
