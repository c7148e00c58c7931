-- What code motion finds out has a bit for each expression.
use Rattle.std.proofs.Common.{ℕ, ◌<◌, length}
use Rattle.mir_opt.specs.declared.trails.UnitTrail.{UnitTrail}
use Rattle.pass_table.specs.declared.motion.MotionRows.{MotionRows}
use Rattle.pass_table.specs.Motion.{AreMotionRows, HaveMotionBit}
use Rattle.pass_table.specs.Units.{IsUnitMotion}
use Rattle.pass_table.proofs.BitLaws.{have_bit}

-- each row has the bits of the expressions
pub motion_bits : (unit : UnitTrail) (rows : MotionRows) (i : ℕ) → IsUnitMotion unit → AreMotionRows unit rows → i < length unit.table → HaveMotionBit unit.placement rows i
motion_bits unit rows i motion are low =
    let busy = are.places_are.busy_are in
    let late = are.places_are.late_are in
    let bounds = are.bounds_are in
    record {
      busy = record {
        uses = have_bit _ _ rows.places.busy.uses i busy.uses.shape low;
        available = have_bit _ _ rows.places.busy.available i busy.available.shape low;
        anticipatable = have_bit _ _ rows.places.busy.anticipatable i busy.anticipatable.shape low;
        earliest = have_bit _ _ rows.places.busy.earliest i busy.earliest.shape low;
      };
      busy_held = have_bit _ _ rows.places.busy_held.edges i are.places_are.busy_held_are.shape low;
      late = record {
        delayed = have_bit _ _ rows.places.late.delayed i late.delayed.shape low;
        latest = have_bit _ _ rows.places.late.latest i late.latest.shape low;
        isolated = have_bit _ _ rows.places.late.isolated i late.isolated.shape low;
      };
      kills = have_bit _ _ rows.bounds.kills i bounds.kills_are.shape low;
      held = have_bit _ _ rows.bounds.held.edges i bounds.held_are.shape low;
      insert = have_bit _ _ unit.placement.insert i motion.placed.insert_rows low;
      replace = have_bit _ _ unit.placement.replace i motion.placed.replace_rows low;
    }
