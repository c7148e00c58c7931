-- The raw program of a program within the limits is valid.
use Rattle.std.proofs.Common.{◌≡◌, ℕ, ◌≤◌, List, [], length, map, slice_get, Some, ap, ◌∙◌, arith}
use Rattle.std.specs.List.{flat_map}
use Rattle.mir_base.specs.Limits.{most_insts, most_receives}
use Rattle.mir_base.specs.ItemLaws.{all_at}
use Rattle.mir_base.specs.Shapes.{UnitShape, ProgramShape, receives_in}
use Rattle.mir_parse.specs.RawUnit.{RawUnitShape}
use Rattle.mir_valid.specs.Rules.{too_many_insts_lines, too_many_receives_lines, late_receive_lines, same_receive_lines, same_label_lines, no_label_lines, global_receive_lines, bad_trap_lines}
use Rattle.mir_valid.specs.Refusals.{AreValid}
use Rattle.mir_print.specs.WellTyped.{UnitWellTyped, ProgramWellTyped}
use Rattle.mir_print.specs.Texts.{KeepsLimits}
use Rattle.mir_print.proofs.Raws.{raw_unit, raw_units, raw_globals}
use Rattle.mir_print.proofs.Derived.{first_line, raw_of}
use Rattle.mir_print.proofs.GlobalRules.{globals_differ, no_same_global, no_more_globals, no_global_receive, no_bad_trap}
use Rattle.mir_print.proofs.Absent.{flat_none}
use Rattle.mir_print.proofs.Places.{unit_at, length_units}
use Rattle.mir_print.proofs.UnitRules.{no_late, no_again, no_seventeenth, no_more, no_missing}
use Rattle.mir_print.proofs.LabelRules.{no_same_label}
use Rattle.mir_print.proofs.CallRules.{no_same_unit, no_missing_unit, no_wrong_count}

-- the raw program is valid where the program keeps the limits
pub are_valid : (program : ProgramShape) → ProgramWellTyped program → KeepsLimits program → AreValid (raw_of program).globals (raw_of program).units
are_valid program well_typed limits =
    let units = program.units in
    let names = map (λ (unit : UnitShape). unit.name) units in
    let raws = raw_units names (first_line program) units in
    let many = length_units names (first_line program) units in
    let globals = program.globals in
    let each : (f : RawUnitShape → List ℕ) → ((line : ℕ) (i : ℕ) (unit : UnitShape) → slice_get units i ≡ Some unit → f (raw_unit names line unit) ≡ []) → flat_map f raws ≡ [] =
    λ f none. flat_none f raws (λ i raw at. let found = unit_at names (first_line program) units i raw at in ap f found.is ∙ none found.line i found.unit found.at) in
    let unit_well_typed = λ (i : ℕ) (unit : UnitShape) (at : slice_get units i ≡ Some unit). all_at UnitWellTyped units i unit well_typed.units at in
    let insts = λ (i : ℕ) (unit : UnitShape) (at : slice_get units i ≡ Some unit). all_at (λ (u : UnitShape). length u.body ≤ most_insts) units i unit limits.insts at in
    let receives = λ (i : ℕ) (unit : UnitShape) (at : slice_get units i ≡ Some unit). all_at (λ (u : UnitShape). receives_in u.body ≤ most_receives) units i unit limits.receives at in
    record {
      some_unit = omega (arith, many, well_typed.fits.some_unit);
      few_units = omega (arith, many, limits.units);
      same_unit = no_same_unit units globals well_typed.fits (first_line program);
      too_many_insts = each too_many_insts_lines (λ line i unit at. no_more units names line unit (well_typed.fits.bodies i unit at) (unit_well_typed i unit at) (insts i unit at));
      late_receive = each late_receive_lines (λ line i unit at. no_late units names line unit (well_typed.fits.bodies i unit at) (unit_well_typed i unit at));
      same_receive = each same_receive_lines (λ line i unit at. no_again units names line unit (well_typed.fits.bodies i unit at) (unit_well_typed i unit at));
      too_many_receives = each too_many_receives_lines (λ line i unit at. no_seventeenth units names line unit (well_typed.fits.bodies i unit at) (unit_well_typed i unit at) (receives i unit at));
      same_label = each same_label_lines (λ line i unit at. no_same_label names line unit (unit_well_typed i unit at).few);
      no_label = each no_label_lines (λ line i unit at. no_missing units names line unit (well_typed.fits.bodies i unit at) (unit_well_typed i unit at));
      no_such_unit = no_missing_unit units globals well_typed.fits (first_line program);
      wrong_count = no_wrong_count units globals well_typed.fits (first_line program);
      same_global = no_same_global globals (globals_differ program well_typed) 1;
      too_many_globals = no_more_globals globals 1 limits.globals;
      global_receive = each (global_receive_lines (raw_globals 1 globals)) (λ line i unit at. no_global_receive globals names line 1 unit (well_typed.fits.shares i unit at) (unit_well_typed i unit at));
      bad_trap = each bad_trap_lines (λ line i unit at. no_bad_trap names line unit (unit_well_typed i unit at));
    }
