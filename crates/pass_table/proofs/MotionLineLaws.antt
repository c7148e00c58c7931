-- Lines of rows stand for these: what is found out holds of the rows of lines too.
use Rattle.std.proofs.Common.{◌≡◌, refl, subst, sym}
use Rattle.mir_opt.specs.declared.trails.UnitTrail.{UnitTrail}
use Rattle.pass_table.specs.declared.motion.MotionRows.{MotionRows}
use Rattle.pass_table.specs.declared.motion_lines.MotionLines.{MotionLines}
use Rattle.pass_table.specs.Motion.{AreMotionRows}
use Rattle.pass_table.specs.MotionLines.{AreMotionLines, TellMotion, rows_of_lines}

-- the rows that lines show, where those of uses are the ones of the busy placement
abbrev shown : MotionRows → MotionRows
shown rows = record {
  places = record {
    busy = rows.places.busy;
    late = record {
      uses = rows.places.busy.uses;
      delayed = rows.places.late.delayed;
      latest = rows.places.late.latest;
      isolated = rows.places.late.isolated;
    };
    busy_held = rows.places.busy_held;
  };
  bounds = rows.bounds;
}

-- they tell the same
shown_tell : (unit : UnitTrail) (rows : MotionRows) → AreMotionRows unit rows → AreMotionRows unit (shown rows)
shown_tell unit rows found = record {
  places_are = record {
    busy_are = found.places_are.busy_are;
    late_are = record {
      uses = found.places_are.busy_are.uses;
      delayed = found.places_are.late_are.delayed;
      latest = found.places_are.late_are.latest;
      isolated = found.places_are.late_are.isolated;
    };
    busy_held_are = found.places_are.busy_held_are;
  };
  bounds_are = found.bounds_are;
}

module _ (unit : UnitTrail) (rows : MotionRows) (lines : MotionLines) (are : AreMotionLines unit.placement rows lines) where
  -- the rows of the lines are these
  lines_show : rows_of_lines lines ≡ shown rows
  lines_show =
      let safe = are.safe_are in
      let late = are.late_are in
      let placed = are.placed_are in
      rw (safe.uses_are, safe.available_are, safe.anticipatable_are, safe.earliest_are, safe.kills_are, late.delayed_are, late.latest_are, late.isolated_are, placed.busy_held_are, placed.held_are) refl

  -- so the lines tell what the rows tell
  pub lines_tell : AreMotionRows unit rows → TellMotion unit lines
  lines_tell found = record {
    rows_are = subst (AreMotionRows unit) (sym lines_show) (shown_tell unit rows found);
    placement_is = let placed = are.placed_are in rw (placed.insert_are, placed.replace_are) refl;
  }
