-- The raw unit of a unit keeps the rules on receives, on its size and on its jumps.
use Rattle.std.proofs.Common.{◌≡◌, ℕ, zero, suc, ◌+◌, ◌<◌, ◌≤◌, Bool, true, false, not, ◌||◌, ◌&&◌, nat_le, nat_eq, List, [], ◌∷◌, length, take, slice_get, Some, is_some, refl, sym, ap, ◌∙◌, subst, arith, if◌then◌else◌, eqb-true, length-take}
use Rattle.std.specs.List.{list_any, count_by}
use Rattle.std.specs.Option.{option_map, option_map_or}
use Rattle.std.proofs.lemmas.Bool.Decides.{nat_tests}
use Rattle.std.proofs.lemmas.List.Folds.{list_any-append, Any-from_list_any}
use Rattle.std.proofs.lemmas.List.Sums.{count_by-le-length}
use Rattle.std.proofs.lemmas.Option.{slice_get-get_or, slice_get_within, slice_get_past, slice_get-map, slice_get_read}
use Rattle.mir_valid.specs.NameLaws.{has_at}
use Rattle.mir_base.specs.Limits.{most_insts, most_receives}
use Rattle.mir_base.specs.ItemLaws.{all_at}
use Rattle.mir_base.specs.declared.instructions.Inst.{Inst}
use Rattle.mir_base.specs.declared.instructions.Inst.TheVariants.{Receive, Goto, If}
use Rattle.mir_base.specs.Shapes.{UnitShape, AllBelow, inst_vars, receives_in, InstFits, BodyFits}
use Rattle.mir_base.specs.Text.{jumps_to, is_target, label, Naming, var_text}
use Rattle.mir_parse.specs.declared.raw.RawForm.{RawForm}
use Rattle.mir_parse.specs.declared.raw.RawInst.{RawInst}
use Rattle.mir_parse.specs.declared.raw.RawLabel.{RawLabel}
use Rattle.mir_valid.specs.Names.{has_name}
use Rattle.mir_valid.specs.Rules.{received_by, is_receive, line_of, too_many_insts_lines, is_seventeenth, too_many_receives_lines, has_label_before, is_late, late_receive_lines, received, receives_again, same_receive_lines, label_names, misses_label, no_label_lines}
use Rattle.mir_print.specs.WellTyped.{UnitWellTyped}
use Rattle.mir_print.specs.Labels.{JumpsTo}
use Rattle.mir_print.proofs.Jumps.{jumps_to_is}
use Rattle.mir_print.proofs.Raws.{raw_form, raw_insts, raw_label, raw_labels, unit_naming, raw_unit}
use Rattle.mir_print.proofs.Standing.{is_place}
use Rattle.mir_print.proofs.Absent.{name_absent, broken_none, no_broken_lines}
use Rattle.mir_print.proofs.Places.{inst_at, take_insts, length_insts, get_from_take}

-- ---- receives

-- up to the number of leading receives each printed instruction is a receive
receives_front : (naming : Naming) (line : ℕ) (insts : List Inst) (i : ℕ) → i ≤ receives_in insts → list_any (λ other. not (is_receive other)) (raw_insts naming line (take i insts)) ≡ false
receives_front naming line insts zero low = refl
receives_front naming line [] (suc i) low = refl
receives_front naming line (Receive x ∷ insts) (suc i) low = receives_front naming (line + 1) insts i (omega (arith, low))
receives_front naming line (inst ∷ insts) (suc i) low = absurd (omega (arith, low))

-- the target of a jump that fits lies behind the leading receives
jump_behind : (units : List UnitShape) (body : List Inst) (place target : ℕ) (inst : Inst) → InstFits units body place inst → jumps_to target inst ≡ true → receives_in body ≤ target
jump_behind units body place target (Goto to) fits jumps = let same : to ≡ target = eqb-true to target jumps in omega (arith, fits.0, same)
jump_behind units body place target (If test to) fits jumps = let same : to ≡ target = eqb-true to target jumps in omega (arith, fits.0, same)
jump_behind units body place target inst fits jumps = absurd (cc)

-- what is jumped to stands behind the receives
target_behind : (units : List UnitShape) (body : List Inst) (target : ℕ) → BodyFits units body → is_target body target ≡ true → receives_in body ≤ target
target_behind units body target fits is =
    let some = Any-from_list_any (jumps_to target) body is in
    let at : slice_get body some.0 ≡ Some some.1 = slice_get_read body _ some.0 some.1 refl some.2 (sym some.3) in
    jump_behind units body some.0 target some.1 (fits.insts some.0 some.1 at) some.4

-- a label whose place is later is not one up to this place
no_label_before : (b : Bool) (l : RawLabel) (i : ℕ) → (b ≡ true → i < l.place) → list_any (λ (label : RawLabel). nat_le label.place i) (if b then l ∷ [] else []) ≡ false
no_label_before true l i later = let above : i < l.place = later refl in let no_le : nat_le l.place i ≡ false = grind (arith, nat_tests) in ap (λ (t : Bool). t || false) no_le
no_label_before false l i later = refl

-- where each target is later than a place, no label stands up to it
labels_behind : (body : List Inst) (line place : ℕ) (insts : List Inst) (i : ℕ) → ((target : ℕ) → is_target body target ≡ true → i < target) → has_label_before (raw_labels body line place insts) i ≡ false
labels_behind body line place [] i later = no_label_before (is_target body place) (record { name = label body place; place = place; line = line }) i (later place)
labels_behind body line place (inst ∷ insts) i later =
    list_any-append (λ (l : RawLabel). nat_le l.place i) (raw_label body line place) (raw_labels body (line + 1) (suc place) insts)
    ∙ ap (λ (b : Bool). b || has_label_before (raw_labels body (line + 1) (suc place) insts) i) (no_label_before (is_target body place) (record { name = label body place; place = place; line = line }) i (later place))
    ∙ labels_behind body (line + 1) (suc place) insts i later

-- a name among those received is that of a receive
received_from : (naming : Naming) (line : ℕ) (insts : List Inst) (j : ℕ) (x : List ℕ) → slice_get (received (raw_insts naming line insts)) j ≡ Some x → (k : ℕ) × (y : ℕ) × (slice_get insts k ≡ Some (Receive y)) × (x ≡ var_text naming y)
received_from naming line [] j x at = absurd (cc)
received_from naming line (Receive y ∷ insts) zero x at = (0, y, refl, cc)
received_from naming line (Receive y ∷ insts) (suc j) x at = let found = received_from naming (line + 1) insts j x at in (suc found.0, found.1, found.2, found.3)
received_from naming line (inst ∷ insts) j x at = let found = received_from naming (line + 1) insts j x at in (suc found.0, found.1, found.2, found.3)

module _ (units : List UnitShape) (names : List (List ℕ)) (line : ℕ) (unit : UnitShape) (fits : BodyFits units unit.body) (well_typed : UnitWellTyped unit) where
  abbrev naming : Naming
  naming = unit_naming names unit

  abbrev insts : List RawInst
  insts = raw_insts naming (line + 1) unit.body

  abbrev labels : List RawLabel
  labels = raw_labels unit.body (line + 1) 0 unit.body

  take_length : (i x : ℕ) → slice_get unit.body i ≡ Some (Receive x) → length (take i insts) ≡ i
  take_length i x at = let many = length_insts naming (line + 1) unit.body in let low = slice_get_within unit.body i (Receive x) at in simp length-take (omega (arith, many, low))

  receive_low : (i x : ℕ) → slice_get unit.body i ≡ Some (Receive x) → i < receives_in unit.body
  receive_low i x at = fits.insts i (Receive x) at

  -- no receive is late

  abbrev late_rest : ℕ → Bool
  late_rest i = list_any (λ (other : RawInst). not (is_receive other)) (take i insts) || has_label_before labels (length (take i insts))

  not_late : (i x : ℕ) → slice_get unit.body i ≡ Some (Receive x) → late_rest i ≡ false
  not_late i x at =
      let low = receive_low i x at in
      ap (λ (l : List RawInst). list_any (λ (other : RawInst). not (is_receive other)) l || has_label_before labels (length (take i insts))) (take_insts naming (line + 1) i unit.body)
      ∙ ap (λ (b : Bool). b || has_label_before labels (length (take i insts))) (receives_front naming (line + 1) unit.body i (omega (arith, low)))
      ∙ ap (has_label_before labels) (take_length i x at)
      ∙ labels_behind unit.body (line + 1) 0 unit.body i (λ target is. let behind = target_behind units unit.body target fits is in omega (arith, behind, low))

  late_at : (i : ℕ) (inst : Inst) → slice_get unit.body i ≡ Some inst → (x : RawInst) → x.form ≡ raw_form naming inst → is_late labels (take i insts) x ≡ false
  late_at i (Receive y) at x same = ap (λ (f : RawForm). is_some (received_by f) && late_rest i) same ∙ not_late i y at
  late_at i inst at x same = ap (λ (f : RawForm). is_some (received_by f) && late_rest i) same

  pub no_late : late_receive_lines (raw_unit names line unit) ≡ []
  no_late = broken_none (λ (inst : RawInst). inst.line) (is_late labels) [] insts (λ i x at. let found = inst_at naming (line + 1) unit.body i x at in late_at i found.inst found.at x found.form)

  -- no variable is received twice

  var_low : (i x : ℕ) → slice_get unit.body i ≡ Some (Receive x) → x < length unit.vars
  var_low i x at = (all_at (λ (j : Inst). AllBelow (length unit.vars) (inst_vars j)) unit.body i (Receive x) well_typed.below at).0

  same_var : (x y : ℕ) → x < length unit.vars → y < length unit.vars → var_text naming x ≡ var_text naming y → x ≡ y
  same_var x y low_x low_y same =
      well_typed.tidy.differ x y low_x low_y (slice_get-get_or unit.vars x [] low_x ∙ ap (λ (n : List ℕ). Some n) same ∙ sym (slice_get-get_or unit.vars y [] low_y))

  not_again : (i x : ℕ) → slice_get unit.body i ≡ Some (Receive x) → has_name (received (take i insts)) (var_text naming x) ≡ false
  not_again i x at = name_absent (received (take i insts)) (var_text naming x) (λ j there. absent j there)
    where
      absent : (j : ℕ) → slice_get (received (take i insts)) j ≡ Some (var_text naming x) → ⊥
      absent j there =
          let found = received_from naming (line + 1) (take i unit.body) j (var_text naming x) (ap (λ (l : List RawInst). slice_get (received l) j) (sym (take_insts naming (line + 1) i unit.body)) ∙ there) in
          let earlier = get_from_take unit.body i found.0 (Receive found.1) found.2 in
          let same : x ≡ found.1 = same_var x found.1 (var_low i x at) (var_low found.0 found.1 earlier.1) found.3 in
          let clash : found.0 ≡ i = fits.received found.0 i x (subst (λ (v : ℕ). slice_get unit.body found.0 ≡ Some (Receive v)) (sym same) earlier.1) at in
          let under = earlier.0 in
          omega (arith, clash, under)

  again_at : (i : ℕ) (inst : Inst) → slice_get unit.body i ≡ Some inst → (x : RawInst) → x.form ≡ raw_form naming inst → receives_again (take i insts) x ≡ false
  again_at i (Receive y) at x same = ap (λ (f : RawForm). option_map_or (has_name (received (take i insts))) (received_by f) false) same ∙ not_again i y at
  again_at i inst at x same = ap (λ (f : RawForm). option_map_or (has_name (received (take i insts))) (received_by f) false) same

  pub no_again : same_receive_lines (raw_unit names line unit) ≡ []
  no_again = broken_none (λ (inst : RawInst). inst.line) receives_again [] insts (λ i x at. let found = inst_at naming (line + 1) unit.body i x at in again_at i found.inst found.at x found.form)

  -- not too many receives

  few_before : receives_in unit.body ≤ 16 → (i x : ℕ) → slice_get unit.body i ≡ Some (Receive x) → nat_eq (count_by is_receive (take i insts)) 16 ≡ false
  few_before few i x at =
      let low = receive_low i x at in
      let many = take_length i x at in
      let most = count_by-le-length is_receive (take i insts) in
      let under : count_by is_receive (take i insts) < 16 = omega (arith, low, many, most, few) in
      grind (arith, nat_tests)

  seventeenth_at : receives_in unit.body ≤ most_receives → (i : ℕ) (inst : Inst) → slice_get unit.body i ≡ Some inst → (x : RawInst) → x.form ≡ raw_form naming inst → is_seventeenth (take i insts) x ≡ false
  seventeenth_at few i (Receive y) at x same = ap (λ (f : RawForm). is_some (received_by f) && nat_eq (count_by is_receive (take i insts)) 16) same ∙ few_before few i y at
  seventeenth_at few i inst at x same = ap (λ (f : RawForm). is_some (received_by f) && nat_eq (count_by is_receive (take i insts)) 16) same

  pub no_seventeenth : receives_in unit.body ≤ most_receives → too_many_receives_lines (raw_unit names line unit) ≡ []
  no_seventeenth few =
      broken_none (λ (inst : RawInst). inst.line) is_seventeenth [] insts (λ i x at. let found = inst_at naming (line + 1) unit.body i x at in seventeenth_at few i found.inst found.at x found.form)

  -- not too many instructions

  pub no_more : length unit.body ≤ most_insts → too_many_insts_lines (raw_unit names line unit) ≡ []
  no_more few = ap line_of (slice_get_past insts most_insts (let many = length_insts naming (line + 1) unit.body in omega (arith, many, few)))

  -- each jump has its label

  label_there : (target : ℕ) → is_target unit.body target ≡ true → target ≤ length unit.body → has_name (label_names labels) (label unit.body target) ≡ true
  label_there target is within =
      let found = is_place unit.body (line + 1) target is within in
      let at : slice_get labels found.0 ≡ Some found.1 = slice_get_read labels _ found.0 found.1 refl found.2 (sym found.3) in
      has_at (label_names labels) found.0 (label unit.body target)
      (slice_get-map (λ (l : RawLabel). l.name) labels found.0 ∙ ap (option_map (λ (l : RawLabel). l.name)) at ∙ ap (λ (n : List ℕ). Some n) found.4.0)

  misses_at : (inst : Inst) → JumpsTo unit.body inst → misses_label labels (raw_form naming inst) ≡ false
  misses_at (Goto target) jumps = ap not (label_there target jumps.1 jumps.0)
  misses_at (If test target) jumps = ap not (label_there target jumps.1 jumps.0)
  misses_at inst jumps = refl

  pub no_missing : no_label_lines (raw_unit names line unit) ≡ []
  no_missing = no_broken_lines (misses_label labels) insts (λ i x at. let found = inst_at naming (line + 1) unit.body i x at in ap (misses_label labels) found.form ∙ misses_at found.inst (jumps_to_is units unit.body fits i found.inst found.at))
