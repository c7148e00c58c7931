-- The raw units of a program have distinct names, and their calls name them with the right number of arguments.
use Rattle.std.proofs.Common.{◌≡◌, ℕ, suc, ◌+◌, ◌<◌, Bool, true, false, cond, not, nat_eq, List, [], ◌∷◌, length, map, take, slice_get, slice_index_or, Option, None, Some, refl, sym, ap, ◌∙◌, subst, inl, inr, arith, if◌then◌else◌, eq-eqb}
use Rattle.std.specs.List.{count_by, flat_map}
use Rattle.std.specs.Option.{option_map, option_map_or}
use Rattle.std.proofs.lemmas.Bool.{cases_Bool}
use Rattle.std.proofs.lemmas.List.{length-map, take-map}
use Rattle.std.proofs.lemmas.List.Sums.{sum_by-append}
use Rattle.std.proofs.lemmas.Option.{slice_get-get_or, slice_get_within, slice_get-map, get_or_from_slice_get}
use Rattle.mir_valid.specs.NameLaws.{has_at, same_is}
use Rattle.mir_base.specs.declared.instructions.Inst.{Inst}
use Rattle.mir_base.specs.declared.instructions.Inst.TheVariants.{Receive, Call}
use Rattle.mir_base.specs.Shapes.{UnitShape, AllDiffer, receives_in, body_or_empty, body_at, names_of, InstFits, BodyFits, IsProgram}
use Rattle.mir_base.specs.Text.{Naming}
use Rattle.mir_parse.specs.declared.raw.RawInst.{RawInst}
use Rattle.mir_parse.specs.RawUnit.{RawUnitShape}
use Rattle.mir_base.specs.Words.{is_text}
use Rattle.mir_valid.specs.Names.{has_name, number_in}
use Rattle.mir_valid.specs.Rules.{unit_names, same_unit_lines, is_receive, misses_unit, no_unit_lines, receive_counts, differs_from, wrong_count_lines}
use Rattle.mir_print.proofs.Raws.{raw_operand, raw_form, raw_insts, unit_naming, raw_units}
use Rattle.mir_print.proofs.Standing.{names_of_raw}
use Rattle.mir_print.proofs.Absent.{name_absent, broken_none, flat_none, no_broken_lines}
use Rattle.mir_print.proofs.Places.{inst_at, unit_at, get_from_take}

-- ---- units are distinct

-- the names of the units, taken one by one, are those that a map over the units takes
names_map : (units : List UnitShape) → names_of units ≡ map (λ (unit : UnitShape). unit.name) units
names_map [] = refl
names_map (unit ∷ units) = ap (λ (l : List (List ℕ)). unit.name ∷ l) (names_map units)

-- the unit at a place gives its name at the same place
name_of_unit : (units : List UnitShape) (i : ℕ) (unit : UnitShape) → slice_get units i ≡ Some unit → slice_get (map (λ (u : UnitShape). u.name) units) i ≡ Some unit.name
name_of_unit units i unit at = slice_get-map (λ (u : UnitShape). u.name) units i ∙ ap (option_map (λ (u : UnitShape). u.name)) at

module _ (units : List UnitShape) (globals : List (List ℕ)) (fits : IsProgram globals units) (line : ℕ) where
  abbrev names : List (List ℕ)
  names = map (λ (unit : UnitShape). unit.name) units

  abbrev raws : List RawUnitShape
  raws = raw_units names line units

  differ : AllDiffer names
  differ = subst (λ (l : List (List ℕ)). AllDiffer l) (names_map units) fits.names

  same_unit : (i j : ℕ) (one other : UnitShape) → slice_get units i ≡ Some one → slice_get units j ≡ Some other → one.name ≡ other.name → i ≡ j
  same_unit i j one other at_i at_j same =
      let low_i = slice_get_within units i one at_i in
      let low_j = slice_get_within units j other at_j in
      let many = length-map units (λ (u : UnitShape). u.name) in
      differ i j (omega (arith, low_i, many)) (omega (arith, low_j, many)) (name_of_unit units i one at_i ∙ ap (λ (n : List ℕ). Some n) same ∙ sym (name_of_unit units j other at_j))

  names_before : (i : ℕ) → unit_names (take i raws) ≡ take i names
  names_before i = sym (take-map (λ (u : RawUnitShape). u.name) i raws) ∙ ap (take i) (names_of_raw names line units)

  new_unit : (i : ℕ) (raw : RawUnitShape) → slice_get raws i ≡ Some raw → has_name (unit_names (take i raws)) raw.name ≡ false
  new_unit i raw at = name_absent (unit_names (take i raws)) raw.name (λ j there. absent j there)
    where
      absent : (j : ℕ) → slice_get (unit_names (take i raws)) j ≡ Some raw.name → ⊥
      absent j there =
          let found = unit_at names line units i raw at in
          let earlier = get_from_take names i j raw.name (ap (λ (l : List (List ℕ)). slice_get l j) (sym (names_before i)) ∙ there) in
          let here : slice_get names i ≡ Some raw.name = name_of_unit units i found.unit found.at ∙ ap (λ (r : RawUnitShape). Some r.name) (sym found.is) in
          let clash : j ≡ i = differ j i (slice_get_within names j raw.name earlier.1) (slice_get_within names i raw.name here) (earlier.1 ∙ sym here) in
          let under = earlier.0 in
          omega (arith, clash, under)

  pub no_same_unit : same_unit_lines raws ≡ []
  no_same_unit = broken_none (λ (u : RawUnitShape). u.line) (λ earlier unit. has_name (unit_names earlier) unit.name) [] raws new_unit

  -- ---- calls

  called_there : (called : ℕ) → called < length units → has_name (unit_names raws) (slice_index_or names called []) ≡ true
  called_there called low =
      let many = length-map units (λ (u : UnitShape). u.name) in
      ap (λ (l : List (List ℕ)). has_name l (slice_index_or names called [])) (names_of_raw names line units) ∙ has_at names called (slice_index_or names called []) (slice_get-get_or names called [] (omega (arith, many, low)))

  misses_unit_at : (unit : UnitShape) (place : ℕ) (inst : Inst) → InstFits units unit.body place inst → misses_unit raws (raw_form (unit_naming names unit) inst) ≡ false
  misses_unit_at unit place (Call into called operands) fits = ap not (called_there called fits.0)
  misses_unit_at unit place inst fits = refl

  pub no_missing_unit : flat_map (no_unit_lines raws) raws ≡ []
  no_missing_unit = flat_none (no_unit_lines raws) raws (λ i raw at.
      let found = unit_at names line units i raw at in
      let body_fits = fits.bodies i found.unit found.at in
      ap (no_unit_lines raws) found.is
      ∙ no_broken_lines (misses_unit raws) (raw_insts (unit_naming names found.unit) (found.line + 1) found.unit.body) (λ j x there.
      let inst = inst_at (unit_naming names found.unit) (found.line + 1) found.unit.body j x there in
      ap (misses_unit raws) inst.form ∙ misses_unit_at found.unit j inst.inst (body_fits.insts j inst.inst inst.at)))

-- one more instruction in front adds one to the receives if it is one, and otherwise nothing
receives_cons : (inst : RawInst) (insts : List RawInst) → count_by is_receive (inst ∷ insts) ≡ (if is_receive inst then 1 else 0) + count_by is_receive insts
receives_cons inst insts = let sum = sum_by-append (λ (i : RawInst). if is_receive i then 1 else 0) (inst ∷ []) insts in omega (arith, sum)

-- only the receives that stand first are receives
OnlyFirst : List Inst → Type 0
OnlyFirst insts = (i x : ℕ) → slice_get insts i ≡ Some (Receive x) → i < receives_in insts

-- where no instruction is a receive, none of the printed ones is
no_receives : (naming : Naming) (line : ℕ) (insts : List Inst) → ((i x : ℕ) → slice_get insts i ≡ Some (Receive x) → ⊥) → count_by is_receive (raw_insts naming line insts) ≡ 0
no_receives naming line [] never = refl
no_receives naming line (Receive x ∷ insts) never = absurd (never 0 x refl)
no_receives naming line (inst ∷ insts) never =
    receives_cons (record { line = line; form = raw_form naming inst }) (raw_insts naming (line + 1) insts) ∙ ap (λ (n : ℕ). 0 + n) (no_receives naming (line + 1) insts (λ i x at. never (suc i) x at))

-- as many receives as stand first
count_receives : (naming : Naming) (line : ℕ) (insts : List Inst) → OnlyFirst insts → count_by is_receive (raw_insts naming line insts) ≡ receives_in insts
unfolding OnlyFirst
count_receives naming line [] only = refl
count_receives naming line (Receive x ∷ insts) only =
    let sum = receives_cons (record { line = line; form = raw_form naming (Receive x) }) (raw_insts naming (line + 1) insts) in
    let rest = count_receives naming (line + 1) insts (λ i y at. let low = only (suc i) y at in omega (arith, low)) in
    omega (arith, sum, rest)
count_receives naming line (inst ∷ insts) only = no_receives naming line (inst ∷ insts) (λ i x at. let low = only i x at in absurd (omega (arith, low)))

-- in a body that fits each receive stands among those at the front
only_first : (units : List UnitShape) (body : List Inst) → BodyFits units body → OnlyFirst body
unfolding OnlyFirst
only_first units body fits i x at = fits.insts i (Receive x) at

-- a count that is found is that of a unit with the name
record Counted (names : List (List ℕ)) (units : List UnitShape) (f : List ℕ) (count : ℕ) : Type 0 where
  number : ℕ
  unit : UnitShape
  line : ℕ
  at : slice_get units number ≡ Some unit
  name : f ≡ unit.name
  is : count ≡ count_by is_receive (raw_insts (unit_naming names unit) line unit.body)

-- the receives counted under a name are those of some unit with that name
receives_counted : (names : List (List ℕ)) (line : ℕ) (units : List UnitShape) (f : List ℕ) (count : ℕ) → number_in (receive_counts (raw_units names line units)) f ≡ Some count → Counted names units f count
receives_counted names line [] f count found = absurd (cc)
receives_counted names line (unit ∷ units) f count found = elim (cases_Bool (is_text f unit.name)) [
  | inl same ↦
      let here : Some (count_by is_receive (raw_insts (unit_naming names unit) (line + 1) unit.body)) ≡ Some count =
      sym (ap (λ (b : Bool). cond b (Some (count_by is_receive (raw_insts (unit_naming names unit) (line + 1) unit.body))) (number_in (receive_counts (raw_units names (line + 1 + length unit.body + 1) units)) f)) same) ∙ found in
      record { number = 0; unit = unit; line = line + 1; at = refl; name = same_is f unit.name same; is = cc }
  | inr differ ↦
      let there =
      receives_counted names (line + 1 + length unit.body + 1) units f count
      (sym (ap (λ (b : Bool). cond b (Some (count_by is_receive (raw_insts (unit_naming names unit) (line + 1) unit.body))) (number_in (receive_counts (raw_units names (line + 1 + length unit.body + 1) units)) f)) differ) ∙ found) in
      record { number = suc there.number; unit = there.unit; line = there.line; at = there.at; name = there.name; is = there.is }
]

-- a test of what may be found fails where it fails of each thing found
none_or_false : (found : Option ℕ) (test : ℕ → Bool) → ((count : ℕ) → found ≡ Some count → test count ≡ false) → option_map_or test found false ≡ false
none_or_false None test each = refl
none_or_false (Some count) test each = each count refl

module _ (units : List UnitShape) (globals : List (List ℕ)) (fits : IsProgram globals units) (line : ℕ) where
  abbrev all_names : List (List ℕ)
  all_names = map (λ (unit : UnitShape). unit.name) units

  abbrev all_raws : List RawUnitShape
  all_raws = raw_units all_names line units

  -- the count of a called unit is the number of its arguments
  count_is : (called many count : ℕ) → called < length units → many ≡ receives_in (body_at units called) → number_in (receive_counts all_raws) (slice_index_or all_names called []) ≡ Some count → count ≡ many
  count_is called many count low is found =
      let counted = receives_counted all_names line units (slice_index_or all_names called []) count found in
      let unit : UnitShape = slice_index_or units called counted.unit in
      let at : slice_get units called ≡ Some unit = slice_get-get_or units called counted.unit low in
      let named : slice_index_or all_names called [] ≡ unit.name = get_or_from_slice_get all_names called unit.name [] (name_of_unit units called unit at) in
      let same : called ≡ counted.number = same_unit units globals fits line called counted.number unit counted.unit at counted.at (sym named ∙ counted.name) in
      let body : body_at units called ≡ counted.unit.body = ap (body_at units) same ∙ ap body_or_empty counted.at in
      counted.is
      ∙ count_receives (unit_naming all_names counted.unit) counted.line counted.unit.body (only_first units counted.unit.body (fits.bodies counted.number counted.unit counted.at))
      ∙ ap receives_in (sym body) ∙ sym is

  differs_at : (naming : Naming) (unit : UnitShape) (place : ℕ) (inst : Inst) → naming.units ≡ all_names → InstFits units unit.body place inst → differs_from (receive_counts all_raws) (raw_form naming inst) ≡ false
  differs_at naming unit place (Call into called operands) same fits =
      let many = length (map (raw_operand naming) operands) in
      ap (λ (ns : List (List ℕ)). option_map_or (λ (count : ℕ). not (nat_eq count many)) (number_in (receive_counts all_raws) (slice_index_or ns called [])) false) same
      ∙ none_or_false (number_in (receive_counts all_raws) (slice_index_or all_names called [])) (λ (count : ℕ). not (nat_eq count many)) (λ count found.
      ap not (eq-eqb count many (count_is called many count fits.0 (length-map operands (raw_operand naming) ∙ fits.1) found)))
  differs_at naming unit place inst same fits = refl

  pub no_wrong_count : flat_map (wrong_count_lines all_raws) all_raws ≡ []
  no_wrong_count = flat_none (wrong_count_lines all_raws) all_raws (λ i raw at.
      let found = unit_at all_names line units i raw at in
      let body_fits = fits.bodies i found.unit found.at in
      let naming = unit_naming all_names found.unit in
      ap (wrong_count_lines all_raws) found.is
      ∙ no_broken_lines (differs_from (receive_counts all_raws)) (raw_insts naming (found.line + 1) found.unit.body) (λ j x there.
      let inst = inst_at naming (found.line + 1) found.unit.body j x there in
      ap (differs_from (receive_counts all_raws)) inst.form ∙ differs_at naming found.unit j inst.inst refl (body_fits.insts j inst.inst inst.at)))
