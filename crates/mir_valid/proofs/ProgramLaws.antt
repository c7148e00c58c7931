-- The units that valid raw units give fit together.
use Rattle.std.proofs.Common.{◌≡◌, ℕ, ◌<◌, ◌≤◌, Bool, true, false, not, is_some, nat_eq, nat_lt, nat_le, count_by, List, [], ◌∷◌, ◌++◌, map, length, take, slice_get, Option, Some, All, refl, ap, sym, ◌∙◌, subst, arith, ltb-true, ltb-false, eqb-true}
use Rattle.std.proofs.lemmas.Bool.{not-false}
use Rattle.std.specs.Option.{option_map_or}
use Rattle.std.proofs.lemmas.List.{length-map, length-take-le}
use Rattle.std.proofs.lemmas.List.Folds.{list_any-from_Any}
use Rattle.std.proofs.lemmas.Option.{slice_get_within}
use Rattle.std.proofs.lemmas.Bool.Decides.{nat_tests}
use Rattle.mir_base.specs.declared.instructions.Operand.{Operand}
use Rattle.mir_base.specs.declared.instructions.Inst.{Inst}
use Rattle.mir_base.specs.ItemLaws.{all_at, map_at, get_left}
use Rattle.mir_base.specs.Shapes.{UnitShape, AllDiffer, names_of, receives_in, body_at, body_or_empty, IsTarget, InstFits, BodyFits, SharesGlobals, IsProgram}
use Rattle.mir_parse.specs.declared.raw.RawForm.{RawForm}
use Rattle.mir_parse.specs.declared.raw.RawForm.TheVariants.{Receive as RawReceive, Assign as RawAssign, Goto as RawGoto, If as RawIf, TrapIf as RawTrapIf, Call as RawCall, Print as RawPrint, Return as RawReturn}
use Rattle.mir_parse.specs.declared.raw.RawOperand.{RawOperand}
use Rattle.mir_parse.specs.declared.raw.RawInst.{RawInst}
use Rattle.mir_parse.specs.declared.raw.RawLabel.{RawLabel}
use Rattle.mir_parse.specs.declared.raw.RawGlobal.{RawGlobal}
use Rattle.mir_parse.specs.RawUnit.{RawUnitShape, HasPlaces}
use Rattle.mir_valid.specs.Names.{NameEntry, has_name}
use Rattle.mir_valid.specs.Rules.{broken, received_by, unit_names, is_receive, has_label_before, is_late, label_names, misses_label, misses_unit, receive_counts, differs_from, no_label_lines, no_unit_lines, wrong_count_lines, late_receive_lines, same_receive_lines, global_names, receives_global, global_receive_lines}
use Rattle.mir_valid.specs.Refusals.{AreValid}
use Rattle.mir_valid.specs.Stands.{IsPlace}
use Rattle.mir_valid.specs.NameTables.{number_or_zero}
use Rattle.mir_valid.specs.Numbered.{global_variables, variables_of, Numbers, numbers_of, numbered_operand, numbered_form, numbered_body, numbered_unit, unit_numbers, numbered_units}
use Rattle.mir_valid.proofs.OccursLaws.{received_once, receive_of, named}
use Rattle.mir_valid.proofs.ListLaws.{at_map, no_lines_at, fails_at}
use Rattle.mir_valid.proofs.DistinctLaws.{differ_unbroken, globals_are}
use Rattle.mir_valid.proofs.TidyLaws.{names_grown}
use Rattle.mir_valid.specs.NameLaws.{has_at}
use Rattle.mir_valid.specs.Variables.{body_names}
use Rattle.mir_base.specs.declared.instructions.Inst.TheVariants.{Receive}
use Rattle.std.proofs.Math.Seq.{take-append_seam}
use Rattle.mir_valid.proofs.FoundLaws.{label_found, called_is}
use Rattle.mir_valid.proofs.ReceiveLaws.{lead_at, is_lead, lead_count, not_late}

-- numbering changes no name of a unit
names_numbered : (globals : List RawGlobal) (numbers : List NameEntry) (units : List RawUnitShape) → names_of (map (numbered_unit globals numbers) units) ≡ unit_names units
names_numbered globals numbers [] = refl
names_numbered globals numbers (unit ∷ units) = ap (λ names. unit.name ∷ names) (names_numbered globals numbers units)

-- ---- one unit

-- a label's place is a place to go to
target_is : (numbers : Numbers) (labels : List RawLabel) (body : List RawInst) (l : List ℕ) (place : ℕ) → HasPlaces labels body → broken (λ inst. inst.line) (is_late labels) body ≡ []
    → IsPlace labels l place → IsTarget (numbered_body numbers body) place
target_is numbers labels body l place places late (k, label, low_k, at, is) =
    let there : label.place ≡ place = is.1 in
    let within : label.place ≤ length body = subst (λ (other : RawLabel). other.place ≤ length body) at (places k label low_k) in
    let before : nat_le label.place place ≡ true = grind (arith, nat_tests) in
    let any : has_label_before labels place ≡ true = list_any-from_Any (λ other. nat_le other.place place) labels (k, label, low_k, at, before) in
    (by (nat_lt place (receives_in (numbered_body numbers body))) refl any, omega (arith, within, there, length-map body (λ inst. numbered_form numbers inst.form)))
  where
    by : (b : Bool) → nat_lt place (receives_in (numbered_body numbers body)) ≡ b → has_label_before labels place ≡ true → receives_in (numbered_body numbers body) ≤ place
    by true low any =
        let lead = lead_at numbers body place (ltb-true place (receives_in (numbered_body numbers body)) low) in
        let size : length (take place body) ≡ place = length-take-le place body (omega (arith, slice_get_within body place lead.0 lead.1)) in
        let none = (not_late labels body place lead.0 late lead.1 lead.2).1 in
        let e = sym any ∙ ap (has_label_before labels) (sym size) ∙ none in
        absurd (cc)
    by false high any = ltb-false place (receives_in (numbered_body numbers body)) high

-- ---- an instruction of a unit

module _ (globals : List RawGlobal) (units : List RawUnitShape) (valid : AreValid globals units) where
  abbrev all_units : List UnitShape
  all_units = numbered_units globals units

  abbrev numbers_at : RawUnitShape → Numbers
  numbers_at unit = numbers_of globals (unit_numbers units) unit

  call_fits : (into : Option (List ℕ)) (f : List ℕ) (operands : List RawOperand) → misses_unit units (RawCall into f operands) ≡ false
      → differs_from (receive_counts units) (RawCall into f operands) ≡ false → (number_or_zero (unit_numbers units) f < length all_units)
      × ((operand : RawOperand → Operand) → length (map operand operands) ≡ receives_in (body_at all_units (number_or_zero (unit_numbers units) f)))
  call_fits into f operands misses differs =
      let called = called_is units f (not-false (has_name (unit_names units) f) misses) in
      let n = number_or_zero (unit_numbers units) f in
      let low : n < length units = slice_get_within units n called.unit called.at in
      let late : late_receive_lines called.unit ≡ [] = no_lines_at late_receive_lines units n called.unit valid.late_receive called.at in
      let same : nat_eq (count_by is_receive called.unit.body) (length operands) ≡ true =
      not-false (nat_eq (count_by is_receive called.unit.body) (length operands)) (sym (ap (λ o. option_map_or (λ count. not (nat_eq count (length operands))) o false) called.count) ∙ differs) in
      let count : count_by is_receive called.unit.body ≡ length operands = eqb-true (count_by is_receive called.unit.body) (length operands) same in
      let body : body_at all_units n ≡ numbered_body (numbers_at called.unit) called.unit.body =
      ap body_or_empty (at_map (numbered_unit globals (unit_numbers units)) units n called.unit called.at) in (
        omega (arith, low, length-map units (numbered_unit globals (unit_numbers units))),
        λ operand. length-map operands operand ∙ sym count ∙ sym (lead_count (numbers_at called.unit) called.unit.labels called.unit.body late) ∙ ap receives_in (sym body),
      )

  module _ (u : ℕ) (unit : RawUnitShape) (at_unit : slice_get units u ≡ Some unit) (places : HasPlaces unit.labels unit.body) where
    abbrev numbers : Numbers
    numbers = numbers_at unit

    late : late_receive_lines unit ≡ []
    late = no_lines_at late_receive_lines units u unit valid.late_receive at_unit

    module _ (place : ℕ) (inst : RawInst) (at : slice_get unit.body place ≡ Some inst) where
      jump_fits : (l : List ℕ) → misses_label unit.labels (RawGoto l) ≡ false → IsTarget (numbered_body numbers unit.body) (number_or_zero numbers.labels l)
      jump_fits l misses =
          target_is numbers unit.labels unit.body l (number_or_zero numbers.labels l) places late (label_found unit.labels l (not-false (has_name (label_names unit.labels) l) misses))

      passes : (form : RawForm) → inst.form ≡ form → (misses_label unit.labels form ≡ false) × (misses_unit units form ≡ false) × (differs_from (receive_counts units) form ≡ false)
      passes form is = (
        ap (misses_label unit.labels) (sym is) ∙ fails_at (misses_label unit.labels) unit.body place inst (no_lines_at no_label_lines units u unit valid.no_label at_unit) at,
        ap (misses_unit units) (sym is) ∙ fails_at (misses_unit units) unit.body place inst (no_lines_at (no_unit_lines units) units u unit valid.no_such_unit at_unit) at,
        ap (differs_from (receive_counts units)) (sym is)
            ∙ fails_at (differs_from (receive_counts units)) unit.body place inst (no_lines_at (wrong_count_lines units) units u unit valid.wrong_count at_unit) at,
      )

      form_fits : (form : RawForm) → inst.form ≡ form → InstFits all_units (numbered_body numbers unit.body) place (numbered_form numbers form)
      form_fits (RawReceive x) is =
          let receives : is_receive inst ≡ true = ap (λ f. is_some (received_by f)) is in
          is_lead numbers unit.body place inst at receives (not_late unit.labels unit.body place inst late at receives).0
      form_fits (RawAssign x rhs) is = tt
      form_fits (RawGoto l) is = jump_fits l (passes (RawGoto l) is).0
      form_fits (RawIf test l) is = jump_fits l (passes (RawIf test l) is).0
      form_fits (RawTrapIf test z) is = tt
      form_fits (RawCall into f operands) is =
          let p = passes (RawCall into f operands) is in
          let fits = call_fits into f operands p.1 p.2 in
          (fits.0, fits.1 (numbered_operand numbers.vars))
      form_fits (RawPrint a) is = tt
      form_fits (RawReturn a) is = tt

    inst_fits : (place : ℕ) (inst : Inst) → slice_get (numbered_body numbers unit.body) place ≡ Some inst → InstFits all_units (numbered_body numbers unit.body) place inst
    inst_fits place inst at =
        let raw = map_at (λ i. numbered_form numbers i.form) unit.body place inst at in
        subst (λ (i : Inst). InstFits all_units (numbered_body numbers unit.body) place i) raw.2 (form_fits place raw.0 raw.1 raw.0.form refl)

    body_fits : BodyFits all_units (numbered_body numbers unit.body)
    body_fits = record {
      insts = inst_fits;
      received = received_once globals numbers unit.body refl (no_lines_at same_receive_lines units u unit valid.same_receive at_unit);
    }

-- a unit begins with the globals, and receives none of them
shares_globals : (globals : List RawGlobal) (units : List RawUnitShape) → AreValid globals units → (u : ℕ) (unit : RawUnitShape) → slice_get units u ≡ Some unit
    → SharesGlobals (global_names globals) (numbered_unit globals (unit_numbers units) unit)
shares_globals globals units valid u unit at_unit = record {
  count = sym (length-map globals (λ g. g.name));
  begin = ap (take (length names)) vars_are ∙ take-append_seam names grown.0;
  own = own;
}
  where
    names : List (List ℕ)
    names = global_names globals

    grown : (rest : List (List ℕ)) × (variables_of globals unit.body ≡ global_variables globals ++ rest)
    grown = names_grown (body_names unit.body) (global_variables globals)

    vars_are : variables_of globals unit.body ≡ names ++ grown.0
    vars_are = grown.1 ∙ ap (λ vars. vars ++ grown.0) (globals_are globals valid.same_global)

    numbers : Numbers
    numbers = numbers_of globals (unit_numbers units) unit

    own : (place x : ℕ) → slice_get (numbered_body numbers unit.body) place ≡ Some (Receive x) → length names ≤ x
    own place x at = by (nat_lt x (length names)) refl
      where
        raw : (inst : RawInst) × (slice_get unit.body place ≡ Some inst) × (numbered_form numbers inst.form ≡ Receive x)
        raw = map_at (λ inst. numbered_form numbers inst.form) unit.body place (Receive x) at

        receive : (name : List ℕ) × (raw.0.form ≡ RawReceive name) × (number_or_zero numbers.vars name ≡ x)
        receive = receive_of numbers raw.0.form x raw.2

        there : slice_get (variables_of globals unit.body) x ≡ Some receive.0
        there = named globals numbers unit.body refl x raw.0 place raw.1 receive.0 receive.1 receive.2

        no_global : has_name names receive.0 ≡ false
        no_global =
            ap (receives_global globals) (sym receive.1)
            ∙ fails_at (receives_global globals) unit.body place raw.0 (no_lines_at (global_receive_lines globals) units u unit valid.global_receive at_unit) raw.1

        by : (b : Bool) → nat_lt x (length names) ≡ b → length names ≤ x
        by true low =
            let at_name : slice_get names x ≡ Some receive.0 = sym (get_left names grown.0 x (ltb-true x (length names) low)) ∙ ap (λ vars. slice_get vars x) (sym vars_are) ∙ there in
            let e = sym (has_at names x receive.0 at_name) ∙ no_global in
            absurd (cc)
        by false high = ltb-false x (length names) high

-- the units of valid raw units fit together
pub program_fits : (globals : List RawGlobal) (units : List RawUnitShape) → AreValid globals units → All (λ unit. HasPlaces unit.labels unit.body) units → IsProgram (global_names globals) (numbered_units globals units)
program_fits globals units valid places = record {
  some_unit = omega (arith, valid.some_unit, length-map units (numbered_unit globals (unit_numbers units)));
  names = subst AllDiffer (sym (names_numbered globals (unit_numbers units) units)) (differ_unbroken (λ (unit : RawUnitShape). unit.name) (λ unit. unit.line) units valid.same_unit);
  bodies = λ u unit at.
      let raw = map_at (numbered_unit globals (unit_numbers units)) units u unit at in
      subst (λ (made : UnitShape). BodyFits (numbered_units globals units) made.body) raw.2 (body_fits globals units valid u raw.0 raw.1 (all_at (λ other. HasPlaces other.labels other.body) units u raw.0 places raw.1));
  shares = λ u unit at.
      let raw = map_at (numbered_unit globals (unit_numbers units)) units u unit at in
      subst (SharesGlobals (global_names globals)) raw.2 (shares_globals globals units valid u raw.0 raw.1);
}
