-- The globals of the raw program are distinct and not too many, no receive names one, and the numbers of traps are
-- good.
use Rattle.std.proofs.Common.{◌≡◌, ℕ, suc, ◌+◌, ◌<◌, ◌≤◌, ◌^◌, false, pos, List, [], ◌∷◌, length, take, slice_get, Option, None, Some, refl, sym, ap, ◌∙◌, arith}
use Rattle.std.specs.Option.{option_map}
use Rattle.std.proofs.lemmas.Bool.Decides.{nat_tests}
use Rattle.std.proofs.lemmas.List.{take-map}
use Rattle.std.proofs.lemmas.Option.{slice_get-get_or, slice_get_within, slice_get-map, slice_get_past}
use Rattle.mir_base.specs.Limits.{most_globals}
use Rattle.mir_base.specs.ItemLaws.{all_at, get_take}
use Rattle.mir_base.specs.declared.instructions.Inst.{Inst}
use Rattle.mir_base.specs.declared.instructions.Inst.TheVariants.{Receive, TrapIf}
use Rattle.mir_base.specs.Shapes.{UnitShape, ProgramShape, AllBelow, inst_vars, AllDiffer, SharesGlobals}
use Rattle.mir_base.specs.Text.{var_text}
use Rattle.mir_parse.specs.declared.raw.RawGlobal.{RawGlobal}
use Rattle.mir_valid.specs.Names.{has_name}
use Rattle.mir_valid.specs.Rules.{global_names, same_global_lines, global_line_of, too_many_globals_lines, receives_global, global_receive_lines, is_bad_number, is_bad_trap, bad_trap_lines}
use Rattle.mir_print.specs.WellTyped.{InstWellTyped, UnitWellTyped, ProgramWellTyped}
use Rattle.mir_print.proofs.Raws.{raw_form, raw_insts, unit_naming, raw_unit, raw_globals}
use Rattle.mir_print.proofs.Standing.{names_of_globals}
use Rattle.mir_print.proofs.Absent.{name_absent, broken_none, no_broken_lines}
use Rattle.mir_print.proofs.Places.{inst_at, get_from_take}

-- ---- the globals

-- a global is a first variable of each unit
global_at : (globals : List (List ℕ)) (unit : UnitShape) → SharesGlobals globals unit → (i : ℕ) → i < length globals → slice_get globals i ≡ slice_get unit.vars i
global_at globals unit shares i low = ap (λ (l : List (List ℕ)). slice_get l i) (sym shares.begin) ∙ get_take unit.vars (length globals) i low

-- so they differ, as the variables of the first unit do
pub globals_differ : (program : ProgramShape) → ProgramWellTyped program → AllDiffer program.globals
globals_differ program well_typed = by (slice_get program.units 0) refl
  where
    by : (found : Option UnitShape) → slice_get program.units 0 ≡ found → AllDiffer program.globals
    by None none = absurd (no_unit program.units well_typed.fits.some_unit none)
      where
        no_unit : (units : List UnitShape) → 0 < length units → slice_get units 0 ≡ None → ⊥
        no_unit [] some e = omega (arith, some)
        no_unit (unit ∷ units) some e = cc
    by (Some unit) at = λ i j low_i low_j same.
        let shares = well_typed.fits.shares 0 unit at in
        let unit_well_typed = all_at UnitWellTyped program.units 0 unit well_typed.units at in
        let there = λ (k : ℕ) (low : k < length program.globals). global_at program.globals unit shares k low in
        let within = λ (k : ℕ) (low : k < length program.globals). slice_get_within unit.vars k _ (sym (there k low) ∙ slice_get-get_or program.globals k [] low) in
        unit_well_typed.tidy.differ i j (within i low_i) (within j low_j) (sym (there i low_i) ∙ same ∙ there j low_j)

-- no global line names an earlier global
pub no_same_global : (globals : List (List ℕ)) → AllDiffer globals → (line : ℕ) → same_global_lines (raw_globals line globals) ≡ []
no_same_global globals differ line = broken_none (λ (g : RawGlobal). g.line) (λ earlier g. has_name (global_names earlier) g.name) [] raws new_global
  where
    raws : List RawGlobal
    raws = raw_globals line globals

    names_before : (i : ℕ) → global_names (take i raws) ≡ take i globals
    names_before i = sym (take-map (λ (g : RawGlobal). g.name) i raws) ∙ ap (take i) (names_of_globals line globals)

    new_global : (i : ℕ) (g : RawGlobal) → slice_get raws i ≡ Some g → has_name (global_names (take i raws)) g.name ≡ false
    new_global i g at = name_absent (global_names (take i raws)) g.name absent
      where
        here : slice_get globals i ≡ Some g.name
        here = ap (λ (l : List (List ℕ)). slice_get l i) (sym (names_of_globals line globals)) ∙ slice_get-map (λ (g : RawGlobal). g.name) raws i ∙ ap (option_map (λ (g : RawGlobal). g.name)) at

        absent : (j : ℕ) → slice_get (global_names (take i raws)) j ≡ Some g.name → ⊥
        absent j there =
            let earlier = get_from_take globals i j g.name (ap (λ (l : List (List ℕ)). slice_get l j) (sym (names_before i)) ∙ there) in
            let clash : j ≡ i = differ j i (slice_get_within globals j g.name earlier.1) (slice_get_within globals i g.name here) (earlier.1 ∙ sym here) in
            let under = earlier.0 in
            omega (arith, clash, under)

-- how many global lines there are
length_globals : (line : ℕ) (globals : List (List ℕ)) → length (raw_globals line globals) ≡ length globals
length_globals line [] = refl
length_globals line (name ∷ globals) = ap suc (length_globals (line + 1) globals)

-- they are not too many
pub no_more_globals : (globals : List (List ℕ)) (line : ℕ) → length globals ≤ most_globals → too_many_globals_lines (raw_globals line globals) ≡ []
no_more_globals globals line few = ap global_line_of (slice_get_past (raw_globals line globals) most_globals (let many = length_globals line globals in omega (arith, many, few)))

-- ---- receives

-- no receive names a global
pub no_global_receive : (globals names : List (List ℕ)) (line first : ℕ) (unit : UnitShape) → SharesGlobals globals unit → UnitWellTyped unit → global_receive_lines (raw_globals first globals) (raw_unit names line unit) ≡ []
no_global_receive globals names line first unit shares well_typed =
    no_broken_lines (receives_global (raw_globals first globals)) (raw_insts (unit_naming names unit) (line + 1) unit.body)
    (λ i x at. let found = inst_at (unit_naming names unit) (line + 1) unit.body i x at in ap (receives_global (raw_globals first globals)) found.form ∙ by i found.inst found.at)
  where
    absent : (x : ℕ) → length globals ≤ x → x < length unit.vars → (j : ℕ) → slice_get globals j ≡ Some (var_text (unit_naming names unit) x) → ⊥
    absent x own low j at =
        let under = slice_get_within globals j _ at in
        let there : slice_get unit.vars j ≡ Some (var_text (unit_naming names unit) x) = sym (global_at globals unit shares j under) ∙ at in
        let clash : j ≡ x = well_typed.tidy.differ j x (slice_get_within unit.vars j _ there) low (there ∙ sym (slice_get-get_or unit.vars x [] low)) in
        omega (arith, under, clash, own)

    by : (i : ℕ) (inst : Inst) → slice_get unit.body i ≡ Some inst → receives_global (raw_globals first globals) (raw_form (unit_naming names unit) inst) ≡ false
    by i (Receive x) at =
        let low = (all_at (λ (j : Inst). AllBelow (length unit.vars) (inst_vars j)) unit.body i (Receive x) well_typed.below at).0 in
        ap (λ (l : List (List ℕ)). has_name l (var_text (unit_naming names unit) x)) (names_of_globals first globals) ∙ name_absent globals (var_text (unit_naming names unit) x) (absent x (shares.own i x at) low)
    by i inst at = refl

-- ---- traps

-- a number of 8 bits is one of a trap
good_number : (number : ℕ) → number < 2 ^ 8 → is_bad_number (pos number) ≡ false
good_number number low = grind (arith, nat_tests)

-- no trap has a bad number
pub no_bad_trap : (names : List (List ℕ)) (line : ℕ) (unit : UnitShape) → UnitWellTyped unit → bad_trap_lines (raw_unit names line unit) ≡ []
no_bad_trap names line unit well_typed =
    no_broken_lines is_bad_trap (raw_insts (unit_naming names unit) (line + 1) unit.body)
    (λ i x at. let found = inst_at (unit_naming names unit) (line + 1) unit.body i x at in ap is_bad_trap found.form ∙ by found.inst (all_at InstWellTyped unit.body i found.inst well_typed.numbers found.at))
  where
    by : (inst : Inst) → InstWellTyped inst → is_bad_trap (raw_form (unit_naming names unit) inst) ≡ false
    by (TrapIf test number) fits = good_number number fits.1
    by inst fits = refl
