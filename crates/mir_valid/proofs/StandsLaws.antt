-- Valid raw units stand for the units that the tables of their names give, and for no others.
use Rattle.std.proofs.Common.{◌≡◌, ℕ, suc, ◌<◌, ℤ, pos, negsuc, Bool, true, false, if◌then◌else◌, List, [], ◌∷◌, ◌++◌, map, fold, length, get_or, slice_get, Option, None, Some, refl, ap, sym, ◌∙◌, subst}
use Rattle.std.proofs.lemmas.Bool.{not-false}
use Rattle.std.proofs.lemmas.List.{length-map}
use Rattle.std.specs.List.{flat_map}
use Rattle.std.proofs.lemmas.List.Sums.{fold-append}
use Rattle.std.proofs.lemmas.Option.{slice_get-get_or}
use Rattle.std.proofs.lemmas.Map.Views.{list_any-from_Contains, Contains-from_any}
use Rattle.std.specs.Cmp.Lexicographic.{nat_list_eq_equiv}
use Rattle.mir_base.specs.declared.instructions.Operand.{Operand}
use Rattle.mir_base.specs.declared.instructions.Operand.TheVariants.{Var, Const}
use Rattle.mir_base.specs.declared.instructions.Rhs.{Rhs}
use Rattle.mir_base.specs.declared.instructions.Rhs.TheVariants.{Plain, Unary, Binary}
use Rattle.mir_base.specs.declared.instructions.Test.{Test}
use Rattle.mir_base.specs.declared.instructions.Test.TheVariants.{Rel, Holds, Fails}
use Rattle.mir_base.specs.declared.instructions.Inst.{Inst}
use Rattle.mir_base.specs.declared.instructions.Inst.TheVariants.{Receive, Assign, Goto, If, TrapIf, Call, Print, Return}
use Rattle.mir_base.specs.Shapes.{UnitShape, AllDiffer}
use Rattle.mir_parse.specs.declared.raw.RawOperand.{RawOperand}
use Rattle.mir_parse.specs.declared.raw.RawOperand.TheVariants.{Var as RawVar, Const as RawConst}
use Rattle.mir_parse.specs.declared.raw.RawRhs.{RawRhs}
use Rattle.mir_parse.specs.declared.raw.RawRhs.TheVariants.{Plain as RawPlain, Unary as RawUnary, Binary as RawBinary}
use Rattle.mir_parse.specs.declared.raw.RawTest.{RawTest}
use Rattle.mir_parse.specs.declared.raw.RawTest.TheVariants.{Rel as RawRel, Holds as RawHolds, Fails as RawFails}
use Rattle.mir_parse.specs.declared.raw.RawForm.{RawForm}
use Rattle.mir_parse.specs.declared.raw.RawForm.TheVariants.{Receive as RawReceive, Assign as RawAssign, Goto as RawGoto, If as RawIf, TrapIf as RawTrapIf, Call as RawCall, Print as RawPrint, Return as RawReturn}
use Rattle.mir_parse.specs.declared.raw.RawInst.{RawInst}
use Rattle.mir_parse.specs.declared.raw.RawLabel.{RawLabel}
use Rattle.mir_parse.specs.declared.raw.RawGlobal.{RawGlobal}
use Rattle.mir_parse.specs.RawUnit.{RawUnitShape}
use Rattle.mir_base.specs.Words.{is_text}
use Rattle.mir_valid.specs.Names.{has_name}
use Rattle.mir_valid.specs.Variables.{operand_names, rhs_names, test_names, into_names, returned_names, form_names, body_names, FirstNames, none, again, first}
use Rattle.mir_valid.specs.Rules.{unit_names, global_names, is_bad_number, is_bad_trap, bad_trap_lines, label_names, misses_label, misses_unit, no_label_lines, no_unit_lines, same_label_lines}
use Rattle.mir_valid.specs.Refusals.{AreValid}
use Rattle.mir_valid.specs.Stands.{EachStands, UnitNames, IsNumber, IsPlace, OperandStands, RhsStands, TestStands, IntoStands, ReturnStands, FormStands, UnitStands, UnitsStand}
use Rattle.mir_valid.specs.NameTables.{number_or_zero, entries_from, table_of}
use Rattle.mir_valid.specs.Numbered.{with_name, global_variables, variables_of, numbered_trap, Numbers, numbers_of, numbered_operand, numbered_rhs, numbered_test, numbered_into, numbered_return, numbered_form, label_places, numbered_unit, unit_numbers, numbered_units}
use Rattle.mir_valid.proofs.ListLaws.{at_map, no_lines_at, fails_at}
use Rattle.mir_valid.specs.NameLaws.{same_is, has_at}
use Rattle.mir_valid.proofs.NumberLaws.{numbered_is}
use Rattle.mir_valid.proofs.DistinctLaws.{differ_fold, differ_variables, differ_unbroken}
use Rattle.mir_valid.proofs.OccursLaws.{Within, within_front, within_back, within_one, within_variables, within_inst, first_variables}
use Rattle.mir_valid.proofs.FoundLaws.{label_found, unit_found}
use Rattle.mir_base.specs.ItemLaws.{one_place}

-- ---- they stand for these

-- what each item stands for, the list stands for
each_map : {A B : Type 0} (R : A → B → Type 0) (f : A → B) (xs : List A) → ((i : ℕ) (x : A) → slice_get xs i ≡ Some x → R x (f x)) → EachStands R xs (map f xs)
each_map R f [] stands = tt
each_map R f (x ∷ xs) stands = (stands 0 x refl, each_map R f xs (λ i y at. stands (suc i) y at))

-- each part of an instruction stands for itself with its names numbered: an operand
operand_stands : (vars : List (List ℕ)) (a : RawOperand) → Within vars (operand_names a) → OperandStands vars a (numbered_operand (entries_from 0 vars) a)
operand_stands vars (RawVar x) within = numbered_is vars x (within_one vars x within)
operand_stands vars (RawConst z) within = refl

-- operands
operands_stand : (vars : List (List ℕ)) (operands : List RawOperand) → Within vars (flat_map operand_names operands)
    → EachStands (OperandStands vars) operands (map (numbered_operand (entries_from 0 vars)) operands)
operands_stand vars [] within = tt
operands_stand vars (a ∷ operands) within = (
  operand_stands vars a (within_front vars (operand_names a) (flat_map operand_names operands) within),
  operands_stand vars operands (within_back vars (operand_names a) (flat_map operand_names operands) within),
)

-- a right side
rhs_stands : (vars : List (List ℕ)) (rhs : RawRhs) → Within vars (rhs_names rhs) → RhsStands vars rhs (numbered_rhs (entries_from 0 vars) rhs)
rhs_stands vars (RawPlain a) within = operand_stands vars a within
rhs_stands vars (RawUnary op a) within = (refl, operand_stands vars a within)
rhs_stands vars (RawBinary op a b) within =
    (refl, operand_stands vars a (within_front vars (operand_names a) (operand_names b) within), operand_stands vars b (within_back vars (operand_names a) (operand_names b) within))

-- a test
test_stands : (vars : List (List ℕ)) (test : RawTest) → Within vars (test_names test) → TestStands vars test (numbered_test (entries_from 0 vars) test)
test_stands vars (RawRel op a b) within =
    (refl, operand_stands vars a (within_front vars (operand_names a) (operand_names b) within), operand_stands vars b (within_back vars (operand_names a) (operand_names b) within))
test_stands vars (RawHolds a) within = operand_stands vars a within
test_stands vars (RawFails a) within = operand_stands vars a within

-- the variable for a call's result, if there is one
into_stands : (vars : List (List ℕ)) (into : Option (List ℕ)) → Within vars (into_names into) → IntoStands vars into (numbered_into (entries_from 0 vars) into)
into_stands vars None within = tt
into_stands vars (Some x) within = numbered_is vars x (within_one vars x within)

-- what is returned, if anything is
return_stands : (vars : List (List ℕ)) (a : Option RawOperand) → Within vars (returned_names a) → ReturnStands vars a (numbered_return (entries_from 0 vars) a)
return_stands vars None within = refl
return_stands vars (Some a) within = operand_stands vars a within

-- the number of a trap, where it is one of a trap
trap_is : (z : ℤ) → is_bad_number z ≡ false → z ≡ pos (numbered_trap z)
trap_is (pos n) good = ap (λ b. pos (if b then 0 else n)) (sym good)
trap_is (negsuc n) good = absurd (cc)

module _ (globals : List RawGlobal) (units : List RawUnitShape) (unit : RawUnitShape) where
  abbrev vars : List (List ℕ)
  vars = variables_of globals unit.body

  abbrev naming : UnitNames
  naming = record { units = unit_names units; vars = vars; labels = unit.labels }

  abbrev numbers : Numbers
  numbers = numbers_of globals (unit_numbers units) unit

  form_stands : (form : RawForm) → Within vars (form_names form) → misses_label unit.labels form ≡ false → misses_unit units form ≡ false → is_bad_trap form ≡ false
      → FormStands naming form (numbered_form numbers form)
  form_stands (RawReceive x) within label called good = numbered_is vars x (within_one vars x within)
  form_stands (RawAssign x rhs) within label called good =
      (numbered_is vars x (within_one vars x (within_front vars (x ∷ []) (rhs_names rhs) within)), rhs_stands vars rhs (within_back vars (x ∷ []) (rhs_names rhs) within))
  form_stands (RawGoto l) within label called good = label_found unit.labels l (not-false (has_name (label_names unit.labels) l) label)
  form_stands (RawIf test l) within label called good = (test_stands vars test within, label_found unit.labels l (not-false (has_name (label_names unit.labels) l) label))
  form_stands (RawTrapIf test z) within label called good = (test_stands vars test within, trap_is z good)
  form_stands (RawCall into f operands) within label called good = (
    into_stands vars into (within_front vars (into_names into) (flat_map operand_names operands) within),
    unit_found units f (not-false (has_name (unit_names units) f) called),
    operands_stand vars operands (within_back vars (into_names into) (flat_map operand_names operands) within),
  )
  form_stands (RawPrint a) within label called good = operand_stands vars a within
  form_stands (RawReturn a) within label called good = return_stands vars a within

  unit_stands : no_label_lines unit ≡ [] → no_unit_lines units unit ≡ [] → bad_trap_lines unit ≡ [] → UnitStands (global_names globals) (unit_names units) unit (numbered_unit globals (unit_numbers units) unit)
  unit_stands label called good = record {
    name = refl;
    shared = sym (length-map globals (λ g. g.name));
    vars = first_variables globals unit.body;
    body = each_map (λ (inst : RawInst). FormStands naming inst.form) (λ inst. numbered_form numbers inst.form) unit.body
        (λ i inst at. form_stands inst.form (within_inst vars unit.body i inst (within_variables globals unit.body) at) (fails_at (misses_label unit.labels) unit.body i inst label at)
        (fails_at (misses_unit units) unit.body i inst called at) (fails_at is_bad_trap unit.body i inst good at));
  }

-- valid units stand for the numbered ones
pub units_stand : (globals : List RawGlobal) (units : List RawUnitShape) → AreValid globals units → UnitsStand (global_names globals) units (numbered_units globals units)
units_stand globals units valid =
    each_map (UnitStands (global_names globals) (unit_names units)) (numbered_unit globals (unit_numbers units)) units
    (λ i unit at. unit_stands globals units unit (no_lines_at no_label_lines units i unit valid.no_label at) (no_lines_at (no_unit_lines units) units i unit valid.no_such_unit at)
    (no_lines_at bad_trap_lines units i unit valid.bad_trap at))

-- ---- and for no others

-- where each item stands for one thing alone, so does the list
each_only : {A B : Type 0} (R : A → B → Type 0) (f : A → B) (xs : List A) (ys : List B) → EachStands R xs ys
    → ((i : ℕ) (x : A) (y : B) → slice_get xs i ≡ Some x → R x y → y ≡ f x) → ys ≡ map f xs
each_only R f [] [] stands only = refl
each_only R f [] (y ∷ ys) stands only = absurd stands
each_only R f (x ∷ xs) [] stands only = absurd stands
each_only R f (x ∷ xs) (y ∷ ys) stands only =
    ap (λ z. z ∷ ys) (only 0 x y refl stands.0) ∙ ap (λ zs. f x ∷ zs) (each_only R f xs ys stands.1 (λ i a b at. only (suc i) a b at))

-- the order of first occurrence is what one pass finds
first_only : (names vars : List (List ℕ)) → FirstNames names vars → fold with_name [] names ≡ vars
first_only _ _ none = refl
first_only _ _ (again {names} {vars} x before occurs) =
    fold-append with_name [] names (x ∷ [])
    ∙ ap (λ vs. with_name vs x) (first_only names vars before)
    ∙ ap (λ b. if b then vars else vars ++ x ∷ []) (list_any-from_Contains {eq = is_text} nat_list_eq_equiv x vars occurs)
first_only _ _ (first {names} {vars} x before fresh) =
    fold-append with_name [] names (x ∷ []) ∙ ap (λ vs. with_name vs x) (first_only names vars before) ∙ by (has_name vars x) refl
  where
    by : (b : Bool) → has_name vars x ≡ b → with_name vars x ≡ vars ++ x ∷ []
    by true e = absurd (fresh (Contains-from_any {eq = is_text} same_is x vars e))
    by false e = ap (λ b. if b then vars else vars ++ x ∷ []) e

module _ (vars : List (List ℕ)) (differ : AllDiffer vars) where
  number_only : (x : List ℕ) (n : ℕ) → IsNumber vars x n → n ≡ number_or_zero (entries_from 0 vars) x
  number_only x n at = one_place vars differ n (number_or_zero (entries_from 0 vars) x) x at (numbered_is vars x (has_at vars n x at))

  operand_only : (raw : RawOperand) (a : Operand) → OperandStands vars raw a → a ≡ numbered_operand (entries_from 0 vars) raw
  operand_only (RawVar x) (Var n) stands = ap Var (number_only x n stands)
  operand_only (RawConst z) (Const w) stands = ap Const stands
  operand_only raw a stands = absurd stands

  operands_only : (raw : List RawOperand) (operands : List Operand) → EachStands (OperandStands vars) raw operands → operands ≡ map (numbered_operand (entries_from 0 vars)) raw
  operands_only raw operands stands = each_only (OperandStands vars) (numbered_operand (entries_from 0 vars)) raw operands stands (λ i x y at. operand_only x y)

  rhs_only : (raw : RawRhs) (rhs : Rhs) → RhsStands vars raw rhs → rhs ≡ numbered_rhs (entries_from 0 vars) raw
  rhs_only (RawPlain a) (Plain b) stands = ap Plain (operand_only a b stands)
  rhs_only (RawUnary raw_op a) (Unary op b) stands = λ i. Unary (stands.0 i) (operand_only a b stands.1 i)
  rhs_only (RawBinary raw_op a b) (Binary op c d) stands = λ i. Binary (stands.0 i) (operand_only a c stands.1 i) (operand_only b d stands.2 i)
  rhs_only raw rhs stands = absurd stands

  test_only : (raw : RawTest) (test : Test) → TestStands vars raw test → test ≡ numbered_test (entries_from 0 vars) raw
  test_only (RawRel raw_op a b) (Rel op c d) stands = λ i. Rel (stands.0 i) (operand_only a c stands.1 i) (operand_only b d stands.2 i)
  test_only (RawHolds a) (Holds b) stands = ap Holds (operand_only a b stands)
  test_only (RawFails a) (Fails b) stands = ap Fails (operand_only a b stands)
  test_only raw test stands = absurd stands

  into_only : (raw : Option (List ℕ)) (into : Option ℕ) → IntoStands vars raw into → into ≡ numbered_into (entries_from 0 vars) raw
  into_only None None stands = refl
  into_only (Some x) (Some n) stands = ap Some (number_only x n stands)
  into_only raw into stands = absurd stands

  return_only : (raw : Option RawOperand) (a : Operand) → ReturnStands vars raw a → a ≡ numbered_return (entries_from 0 vars) raw
  return_only None a stands = stands
  return_only (Some raw) a stands = operand_only raw a stands

-- a label at a place has its name at that place among the names
label_at : (labels : List RawLabel) (k : ℕ) (label : RawLabel) (l : List ℕ) → k < length labels → get_or labels k label ≡ label → label.name ≡ l → slice_get (label_names labels) k ≡ Some l
label_at labels k label l low at is = at_map (λ label. label.name) labels k label (slice_get-get_or labels k label low ∙ ap Some at) ∙ ap Some is

-- a label has one place where the names of labels differ
place_once : (labels : List RawLabel) (l : List ℕ) (p q : ℕ) → AllDiffer (label_names labels) → IsPlace labels l p → IsPlace labels l q → p ≡ q
place_once labels l p q differ (j, a, low_a, at_a, is_a) (k, b, low_b, at_b, is_b) =
    let same : j ≡ k = one_place (label_names labels) differ j k l (label_at labels j a l low_a at_a is_a.0) (label_at labels k b l low_b at_b is_b.0) in
    let one : a ≡ b =
    cc (sym (slice_get-get_or labels j a low_a ∙ ap Some at_a) ∙ ap (slice_get labels) same ∙ slice_get-get_or labels k b low_b ∙ ap Some at_b) in
    sym is_a.1 ∙ ap (λ (label : RawLabel). label.place) one ∙ is_b.1

-- the place that the table gives is that of the only label with the name
place_only : (labels : List RawLabel) (l : List ℕ) (p : ℕ) → AllDiffer (label_names labels) → IsPlace labels l p → p ≡ number_or_zero (table_of (label_places labels)) l
place_only labels l p differ (k, label, low, at, is) =
    let has : has_name (label_names labels) l ≡ true = has_at (label_names labels) k l (label_at labels k label l low at is.0) in
    place_once labels l p (number_or_zero (table_of (label_places labels)) l) differ (k, label, low, at, is) (label_found labels l has)

module _ (globals : List RawGlobal) (units : List RawUnitShape) (units_differ : AllDiffer (unit_names units)) (unit : RawUnitShape) (labels_differ : AllDiffer (label_names unit.labels)) where
  unit_only_number : (f : List ℕ) (n : ℕ) → IsNumber (unit_names units) f n → n ≡ number_or_zero (unit_numbers units) f
  unit_only_number f n at =
      one_place (unit_names units) units_differ n (number_or_zero (unit_numbers units) f) f at (unit_found units f (has_at (unit_names units) n f at))

  differ : AllDiffer (variables_of globals unit.body)
  differ = differ_fold (body_names unit.body) (global_variables globals) (differ_variables (global_names globals))

  form_only : (form : RawForm) (inst : Inst) → is_bad_trap form ≡ false → FormStands (naming globals units unit) form inst → inst ≡ numbered_form (numbers globals units unit) form
  form_only (RawReceive x) (Receive n) good stands = ap Receive (number_only (variables_of globals unit.body) differ x n stands)
  form_only (RawAssign x raw) (Assign n rhs) good stands =
      λ i. Assign (number_only (variables_of globals unit.body) differ x n stands.0 i) (rhs_only (variables_of globals unit.body) differ raw rhs stands.1 i)
  form_only (RawGoto l) (Goto place) good stands = ap Goto (place_only unit.labels l place labels_differ stands)
  form_only (RawIf raw l) (If test place) good stands =
      λ i. If (test_only (variables_of globals unit.body) differ raw test stands.0 i) (place_only unit.labels l place labels_differ stands.1 i)
  form_only (RawTrapIf raw z) (TrapIf test n) good stands =
      let number : n ≡ numbered_trap z = let e = sym stands.1 ∙ trap_is z good in cc in
      λ i. TrapIf (test_only (variables_of globals unit.body) differ raw test stands.0 i) (number i)
  form_only (RawCall raw_into f raw) (Call into n operands) good stands =
      λ i. Call (into_only (variables_of globals unit.body) differ raw_into into stands.0 i) (unit_only_number f n stands.1 i) (operands_only (variables_of globals unit.body) differ raw operands stands.2 i)
  form_only (RawPrint raw) (Print a) good stands = ap Print (operand_only (variables_of globals unit.body) differ raw a stands)
  form_only (RawReturn raw) (Return a) good stands = ap Return (return_only (variables_of globals unit.body) differ raw a stands)
  form_only form inst good stands = absurd stands

  unit_only : (made : UnitShape) → bad_trap_lines unit ≡ [] → UnitStands (global_names globals) (unit_names units) unit made → made ≡ numbered_unit globals (unit_numbers units) unit
  unit_only made good stands =
      let vars_are : made.vars ≡ variables_of globals unit.body = sym (sym (fold-append with_name [] (global_names globals) (body_names unit.body)) ∙ first_only (global_names globals ++ body_names unit.body) made.vars stands.vars) in
      let shared_is : made.shared ≡ length globals = stands.shared ∙ length-map globals (λ g. g.name) in
      let body : EachStands (λ (inst : RawInst). FormStands (naming globals units unit) inst.form) unit.body made.body =
      subst (λ (vs : List (List ℕ)). EachStands (λ (inst : RawInst). FormStands (record { units = unit_names units; vars = vs; labels = unit.labels }) inst.form) unit.body made.body) vars_are stands.body in
      let body_is : made.body ≡ map (λ (inst : RawInst). numbered_form (numbers globals units unit) inst.form) unit.body =
      each_only (λ (inst : RawInst). FormStands (naming globals units unit) inst.form) (λ inst. numbered_form (numbers globals units unit) inst.form) unit.body made.body body (λ i inst made_inst at. form_only inst.form made_inst (fails_at is_bad_trap unit.body i inst good at)) in
      λ i. record { name = stands.name i; shared = shared_is i; vars = vars_are i; body = body_is i }

-- and for these alone
pub units_only : (globals : List RawGlobal) (units : List RawUnitShape) (made : List UnitShape) → AreValid globals units → UnitsStand (global_names globals) units made → made ≡ numbered_units globals units
units_only globals units made valid stands =
    let units_differ : AllDiffer (unit_names units) = differ_unbroken (λ (unit : RawUnitShape). unit.name) (λ unit. unit.line) units valid.same_unit in
    each_only (UnitStands (global_names globals) (unit_names units)) (numbered_unit globals (unit_numbers units)) units made stands
    (λ i unit made_unit at.
    unit_only globals units units_differ unit
    (differ_unbroken (λ (label : RawLabel). label.name) (λ label. label.line) unit.labels (no_lines_at same_label_lines units i unit valid.same_label at)) made_unit (no_lines_at bad_trap_lines units i unit valid.bad_trap at))
