-- The raw program of a program stands for it.
use Rattle.std.proofs.Common.{◌≡◌, ℕ, zero, suc, ◌+◌, ◌<◌, ◌≤◌, Bool, true, false, cond, nat_lt, nat_eq, List, [], ◌∷◌, ◌++◌, length, map, take, get_or, slice_get, slice_index_or, Option, None, Some, refl, sym, ap, ◌∙◌, subst, inl, inr, arith, append_assoc, if◌then◌else◌, ltb-true, eqb-true, add-one}
use Rattle.std.specs.List.{Contains, flat_map}
use Rattle.std.specs.Option.{option_map}
use Rattle.std.proofs.lemmas.Bool.{cases_Bool}
use Rattle.std.proofs.lemmas.Bool.Decides.{nat_tests}
use Rattle.std.proofs.lemmas.List.{append-nil, map-append, take_all, take_more, get_or-take, length-take-le, length-map, get_or_default}
use Rattle.std.proofs.lemmas.List.Elements.{Contains-append_left, Contains-append_right}
use Rattle.std.proofs.lemmas.Option.{slice_get-get_or}
use Rattle.mir_base.specs.ItemLaws.{all_at}
use Rattle.mir_base.specs.BelowLaws.{all_below_left, all_below_right}
use Rattle.mir_base.specs.declared.instructions.Operand.{Operand}
use Rattle.mir_base.specs.declared.instructions.Operand.TheVariants.{Var, Const}
use Rattle.mir_base.specs.declared.instructions.Rhs.{Rhs}
use Rattle.mir_base.specs.declared.instructions.Rhs.TheVariants.{Plain, Unary, Binary}
use Rattle.mir_base.specs.declared.instructions.Test.{Test}
use Rattle.mir_base.specs.declared.instructions.Test.TheVariants.{Rel, Holds, Fails}
use Rattle.mir_base.specs.declared.instructions.Inst.{Inst}
use Rattle.mir_base.specs.declared.instructions.Inst.TheVariants.{Receive, Assign, Goto, If, TrapIf, Call, Print, Return}
use Rattle.mir_base.specs.Shapes.{UnitShape, AllBelow, operand_vars, rhs_vars, test_vars, into_vars, inst_vars, numbered_from, AllDiffer, IsTidy, InstFits, BodyFits, SharesGlobals}
use Rattle.mir_base.specs.Text.{is_target, label, Naming, var_text, called_text}
use Rattle.mir_parse.specs.declared.raw.RawInst.{RawInst}
use Rattle.mir_parse.specs.declared.raw.RawLabel.{RawLabel}
use Rattle.mir_valid.specs.Rules.{unit_names, global_names}
use Rattle.mir_valid.specs.Variables.{operand_names, rhs_names, test_names, into_names, form_names, body_names, FirstNames, none, again, first}
use Rattle.mir_valid.specs.Stands.{EachStands, UnitNames as RawNaming, IsNumber, IsPlace, OperandStands, RhsStands, TestStands, IntoStands, FormStands, UnitStands}
use Rattle.mir_print.specs.WellTyped.{UnitWellTyped}
use Rattle.mir_print.specs.Labels.{JumpsTo}
use Rattle.mir_print.proofs.Jumps.{jumps_to_is}
use Rattle.mir_print.proofs.Raws.{raw_operand, raw_rhs, raw_test, raw_form, raw_insts, raw_label, raw_labels, unit_naming, raw_unit, raw_units, raw_globals}

-- ---- variables in the order of their first occurrence

module _ (naming : Naming) where
  operand_names_is : (a : Operand) → operand_names (raw_operand naming a) ≡ map (var_text naming) (operand_vars a)
  operand_names_is (Var x) = refl
  operand_names_is (Const z) = refl

  two_names : (a b : Operand) → operand_names (raw_operand naming a) ++ operand_names (raw_operand naming b) ≡ map (var_text naming) (operand_vars a ++ operand_vars b)
  two_names a b =
      ap (λ (t : List (List ℕ)). t ++ operand_names (raw_operand naming b)) (operand_names_is a)
      ∙ ap (λ (t : List (List ℕ)). map (var_text naming) (operand_vars a) ++ t) (operand_names_is b)
      ∙ sym (map-append (var_text naming) (operand_vars a) (operand_vars b))

  rhs_names_is : (rhs : Rhs) → rhs_names (raw_rhs naming rhs) ≡ map (var_text naming) (rhs_vars rhs)
  rhs_names_is (Plain a) = operand_names_is a
  rhs_names_is (Unary op a) = operand_names_is a
  rhs_names_is (Binary op a b) = two_names a b

  test_names_is : (test : Test) → test_names (raw_test naming test) ≡ map (var_text naming) (test_vars test)
  test_names_is (Rel op a b) = two_names a b
  test_names_is (Holds a) = operand_names_is a
  test_names_is (Fails a) = operand_names_is a

  into_names_is : (into : Option ℕ) → into_names (option_map (var_text naming) into) ≡ map (var_text naming) (into_vars into)
  into_names_is None = refl
  into_names_is (Some x) = refl

  args_names : (operands : List Operand) → flat_map operand_names (map (raw_operand naming) operands) ≡ map (var_text naming) (flat_map operand_vars operands)
  args_names [] = refl
  args_names (a ∷ operands) =
      ap (λ (t : List (List ℕ)). t ++ flat_map operand_names (map (raw_operand naming) operands)) (operand_names_is a)
      ∙ ap (λ (t : List (List ℕ)). map (var_text naming) (operand_vars a) ++ t) (args_names operands)
      ∙ sym (map-append (var_text naming) (operand_vars a) (flat_map operand_vars operands))

  form_names_is : (inst : Inst) → form_names (raw_form naming inst) ≡ map (var_text naming) (inst_vars inst)
  form_names_is (Receive x) = refl
  form_names_is (Assign x rhs) = ap (λ (t : List (List ℕ)). var_text naming x ∷ t) (rhs_names_is rhs)
  form_names_is (Goto place) = refl
  form_names_is (If test place) = test_names_is test
  form_names_is (TrapIf test number) = test_names_is test
  form_names_is (Call into unit operands) =
      ap (λ (t : List (List ℕ)). t ++ flat_map operand_names (map (raw_operand naming) operands)) (into_names_is into)
      ∙ ap (λ (t : List (List ℕ)). map (var_text naming) (into_vars into) ++ t) (args_names operands)
      ∙ sym (map-append (var_text naming) (into_vars into) (flat_map operand_vars operands))
  form_names_is (Print a) = operand_names_is a
  form_names_is (Return a) = operand_names_is a

  body_names_is : (line : ℕ) (insts : List Inst) → body_names (raw_insts naming line insts) ≡ map (var_text naming) (flat_map inst_vars insts)
  body_names_is line [] = refl
  body_names_is line (inst ∷ insts) =
      ap (λ (t : List (List ℕ)). t ++ body_names (raw_insts naming (line + 1) insts)) (form_names_is inst)
      ∙ ap (λ (t : List (List ℕ)). map (var_text naming) (inst_vars inst) ++ t) (body_names_is (line + 1) insts)
      ∙ sym (map-append (var_text naming) (inst_vars inst) (flat_map inst_vars insts))

-- the numbers never fall
above_case : (x : ℕ) (xs : List ℕ) (n m : ℕ) (b c : Bool) → cond b (numbered_from n xs) (cond c (numbered_from (suc n) xs) None) ≡ Some m → ((k : ℕ) → numbered_from k xs ≡ Some m → k ≤ m) → n ≤ m
above_case x xs n m true c e more = more n e
above_case x xs n m false true e more = let above = more (suc n) e in omega (arith, above)
above_case x xs n m false false e more = absurd (cc)

-- the number reached is at least the one that the count began with
numbered_above : (xs : List ℕ) (n m : ℕ) → numbered_from n xs ≡ Some m → n ≤ m
numbered_above [] n m e = let same : n ≡ m = cc in omega arith
numbered_above (x ∷ xs) n m e = above_case x xs n m (nat_lt x n) (nat_eq x n) e (λ k. numbered_above xs k m)

module _ (vars : List (List ℕ)) (differ : AllDiffer vars) where
  abbrev name_at : ℕ → List ℕ
  name_at x = slice_index_or vars x []

  contained : (x n : ℕ) → x < n → n ≤ length vars → Contains (take n vars) (name_at x)
  contained x n low within =
      let many : length (take n vars) ≡ n = length-take-le n vars within in
      let at : get_or (take n vars) x (name_at x) ≡ name_at x = get_or-take n vars x (name_at x) low ∙ get_or_default vars x (name_at x) [] (omega arith) in
      (x, omega (arith, many), at)

  not_contained : (n : ℕ) → n < length vars → Contains (take n vars) (name_at n) → ⊥
  not_contained n low has =
      let k = has.0 in
      let many : length (take n vars) ≡ n = length-take-le n vars (omega arith) in
      let under : k < n = omega (arith, has.1, many) in
      let at : get_or vars k (name_at n) ≡ name_at n = sym (get_or-take n vars k (name_at n) under) ∙ has.2 in
      let same : slice_get vars k ≡ slice_get vars n = slice_get-get_or vars k (name_at n) (omega arith) ∙ ap (λ (x : List ℕ). Some x) at ∙ sym (slice_get-get_or vars n [] low) in
      let clash : k ≡ n = differ k n (omega arith) low same in
      omega arith

  -- the first variables occur first in their order
  front_names : (n : ℕ) → n ≤ length vars → FirstNames (take n vars) (take n vars)
  front_names zero within = none
  front_names (suc n) within =
      let one : take (suc n) vars ≡ take n vars ++ name_at n ∷ [] = ap (λ (k : ℕ). take k vars) (sym (add-one n)) ∙ take_more vars n [] (omega arith) in
      subst (λ (l : List (List ℕ)). FirstNames l l) (sym one) (first (name_at n) (front_names n (omega arith)) (not_contained n (omega arith)))

  push : (names : List (List ℕ)) (x : ℕ) (xs : List ℕ) → FirstNames ((names ++ name_at x ∷ []) ++ map name_at xs) vars → FirstNames (names ++ map name_at (x ∷ xs)) vars
  push names x xs h = subst (λ (l : List (List ℕ)). FirstNames l vars) (append_assoc names (name_at x ∷ []) (map name_at xs)) h

  first_case : (x : ℕ) (xs : List ℕ) (n : ℕ) (names : List (List ℕ)) (b c : Bool) → nat_lt x n ≡ b → nat_eq x n ≡ c → n ≤ length vars → cond b (numbered_from n xs) (cond c (numbered_from (suc n) xs) None) ≡ Some (length vars)
      → FirstNames names (take n vars) → ((k : ℕ) (before : List (List ℕ)) → k ≤ length vars → numbered_from k xs ≡ Some (length vars) → FirstNames before (take k vars) → FirstNames (before ++ map name_at xs) vars)
      → FirstNames (names ++ map name_at (x ∷ xs)) vars
  first_case x xs n names true c is is' within e seen more =
      push names x xs (more n (names ++ name_at x ∷ []) within e (again (name_at x) seen (contained x n (ltb-true x n is) within)))
  first_case x xs n names false true is is' within e seen more =
      let same : x ≡ n = eqb-true x n is' in
      let above : suc n ≤ length vars = numbered_above xs (suc n) (length vars) e in
      let one : take (suc n) vars ≡ take n vars ++ name_at n ∷ [] = ap (λ (k : ℕ). take k vars) (sym (add-one n)) ∙ take_more vars n [] (omega arith) in
      let grown : FirstNames (names ++ name_at n ∷ []) (take (suc n) vars) = subst (λ (vs : List (List ℕ)). FirstNames (names ++ name_at n ∷ []) vs) (sym one) (first (name_at n) seen (not_contained n (omega arith))) in
      push names x xs (more (suc n) (names ++ name_at x ∷ []) above e (subst (λ (k : ℕ). FirstNames (names ++ name_at k ∷ []) (take (suc n) vars)) (sym same) grown))
  first_case x xs n names false false is is' within e seen more = absurd (cc)

  first_names : (xs : List ℕ) (n : ℕ) (names : List (List ℕ)) → n ≤ length vars → numbered_from n xs ≡ Some (length vars) → FirstNames names (take n vars) → FirstNames (names ++ map name_at xs) vars
  first_names [] n names within e seen =
      let same : n ≡ length vars = cc in
      subst (λ (l : List (List ℕ)). FirstNames l vars) (sym (append-nil names)) (subst (FirstNames names) (take_all n vars (omega (arith, same))) seen)
  first_names (x ∷ xs) n names within e seen = first_case x xs n names (nat_lt x n) (nat_eq x n) refl refl within e seen (first_names xs)

-- the globals and the printed names of a tidy body first occur in the order of its variables
variables_stand : (globals units : List (List ℕ)) (line : ℕ) (unit : UnitShape) → IsTidy unit.shared unit.vars unit.body → SharesGlobals globals unit
    → FirstNames (globals ++ body_names (raw_insts (unit_naming units unit) line unit.body)) unit.vars
variables_stand globals units line unit tidy shares =
    let within : unit.shared ≤ length unit.vars = numbered_above (flat_map inst_vars unit.body) unit.shared (length unit.vars) tidy.numbered in
    let front : take unit.shared unit.vars ≡ globals = ap (λ n. take n unit.vars) shares.count ∙ shares.begin in
    subst (λ (l : List (List ℕ)). FirstNames (globals ++ l) unit.vars) (sym (body_names_is (unit_naming units unit) line unit.body))
    (subst (λ (l : List (List ℕ)). FirstNames (l ++ map (name_at unit.vars tidy.differ) (flat_map inst_vars unit.body)) unit.vars) front
    (first_names unit.vars tidy.differ (flat_map inst_vars unit.body) unit.shared (take unit.shared unit.vars) within tidy.numbered (front_names unit.vars tidy.differ unit.shared within)))

-- ---- labels

-- where a label stands before a line, it is the one there
some_label : (b : Bool) (x : RawLabel) → b ≡ true → Contains (if b then x ∷ [] else []) x
some_label true x is = (0, omega arith, refl)
some_label false x is = absurd (cc)

-- the place is among those of the labels
pub has_label : (body : List Inst) (insts : List Inst) (line place target : ℕ) → is_target body target ≡ true → place ≤ target → target ≤ place + length insts
    → (n : ℕ) × Contains (raw_labels body line place insts) (record { name = label body target; place = target; line = n })
has_label body [] line place target is low high =
    let same : place ≡ target = omega arith in
    (line, subst (λ (k : ℕ). Contains (raw_label body line place) (record { name = label body k; place = k; line = line })) same (some_label (is_target body place) (record { name = label body place; place = place; line = line }) (ap (is_target body) same ∙ is)))
has_label body (inst ∷ insts) line place target is low high = elim (cases_Bool (nat_eq place target)) [
  | inl equal ↦
      let same : place ≡ target = eqb-true place target equal in (
        line,
        Contains-append_left (raw_label body line place) (raw_labels body (line + 1) (suc place) insts) (record { name = label body target; place = target; line = line })
            (subst (λ (k : ℕ). Contains (raw_label body line place) (record { name = label body k; place = k; line = line })) same (some_label (is_target body place) (record { name = label body place; place = place; line = line }) (ap (is_target body) same ∙ is))),
      )
  | inr differ ↦
      let later : suc place ≤ target = grind (arith, nat_tests) in
      let found = has_label body insts (line + 1) (suc place) target is later (omega arith) in
      (found.0, Contains-append_right (raw_label body line place) (raw_labels body (line + 1) (suc place) insts) (record { name = label body target; place = target; line = found.0 }) found.1)
]

-- a target of a jump is the place of a label
pub is_place : (body : List Inst) (line target : ℕ) → is_target body target ≡ true → target ≤ length body → IsPlace (raw_labels body line 0 body) (label body target) target
is_place body line target is within =
    let found = has_label body body line 0 target is (omega arith) (omega arith) in
    (found.1.0, record { name = label body target; place = target; line = found.0 }, found.1.1, found.1.2, (refl, refl))

-- ---- instructions

module _ (naming : Naming) (labels : List RawLabel) (names : List (List ℕ)) (same_names : names ≡ naming.units) where
  abbrev raw_naming : RawNaming
  raw_naming = record { units = names; vars = naming.vars; labels = labels }

  var_stands : (x : ℕ) → x < length naming.vars → IsNumber naming.vars (var_text naming x) x
  var_stands x low = slice_get-get_or naming.vars x [] low

  operand_stands : (a : Operand) → AllBelow (length naming.vars) (operand_vars a) → OperandStands naming.vars (raw_operand naming a) a
  operand_stands (Var x) below = var_stands x below.0
  operand_stands (Const z) below = refl

  rhs_stands : (rhs : Rhs) → AllBelow (length naming.vars) (rhs_vars rhs) → RhsStands naming.vars (raw_rhs naming rhs) rhs
  rhs_stands (Plain a) below = operand_stands a below
  rhs_stands (Unary op a) below = (refl, operand_stands a below)
  rhs_stands (Binary op a b) below =
      (refl, operand_stands a (all_below_left (length naming.vars) (operand_vars a) (operand_vars b) below), operand_stands b (all_below_right (length naming.vars) (operand_vars a) (operand_vars b) below))

  test_stands : (test : Test) → AllBelow (length naming.vars) (test_vars test) → TestStands naming.vars (raw_test naming test) test
  test_stands (Rel op a b) below =
      (refl, operand_stands a (all_below_left (length naming.vars) (operand_vars a) (operand_vars b) below), operand_stands b (all_below_right (length naming.vars) (operand_vars a) (operand_vars b) below))
  test_stands (Holds a) below = operand_stands a below
  test_stands (Fails a) below = operand_stands a below

  into_stands : (into : Option ℕ) → AllBelow (length naming.vars) (into_vars into) → IntoStands naming.vars (option_map (var_text naming) into) into
  into_stands None below = tt
  into_stands (Some x) below = var_stands x below.0

  args_stand : (operands : List Operand) → AllBelow (length naming.vars) (flat_map operand_vars operands) → EachStands (OperandStands naming.vars) (map (raw_operand naming) operands) operands
  args_stand [] below = tt
  args_stand (a ∷ operands) below =
      (operand_stands a (all_below_left (length naming.vars) (operand_vars a) (flat_map operand_vars operands) below), args_stand operands (all_below_right (length naming.vars) (operand_vars a) (flat_map operand_vars operands) below))

  called_stands : (unit : ℕ) → unit < length naming.units → IsNumber names (called_text naming unit) unit
  called_stands unit low = ap (λ (l : List (List ℕ)). slice_get l unit) same_names ∙ slice_get-get_or naming.units unit [] low

  form_stands : (units : List UnitShape) (place : ℕ) (inst : Inst) → length units ≡ length naming.units → ((target : ℕ) → is_target naming.body target ≡ true → target ≤ length naming.body → IsPlace labels (label naming.body target) target)
      → InstFits units naming.body place inst → JumpsTo naming.body inst → AllBelow (length naming.vars) (inst_vars inst) → FormStands raw_naming (raw_form naming inst) inst
  form_stands units place (Receive x) many placed fits jumps below = var_stands x below.0
  form_stands units place (Assign x rhs) many placed fits jumps below = (var_stands x below.0, rhs_stands rhs below.1)
  form_stands units place (Goto target) many placed fits jumps below = placed target jumps.1 jumps.0
  form_stands units place (If test target) many placed fits jumps below = (test_stands test below, placed target jumps.1 jumps.0)
  form_stands units place (TrapIf test number) many placed fits jumps below = (test_stands test below, refl)
  form_stands units place (Call into unit operands) many placed fits jumps below = (
    into_stands into (all_below_left (length naming.vars) (into_vars into) (flat_map operand_vars operands) below),
    called_stands unit (omega (arith, fits.0, many)),
    args_stand operands (all_below_right (length naming.vars) (into_vars into) (flat_map operand_vars operands) below),
  )
  form_stands units place (Print a) many placed fits jumps below = operand_stands a below
  form_stands units place (Return a) many placed fits jumps below = operand_stands a below

  insts_stand : (line : ℕ) (insts : List Inst) → ((i : ℕ) (inst : Inst) → slice_get insts i ≡ Some inst → FormStands raw_naming (raw_form naming inst) inst) → EachStands (λ (inst : RawInst). FormStands raw_naming inst.form) (raw_insts naming line insts) insts
  insts_stand line [] stands = tt
  insts_stand line (inst ∷ insts) stands = (stands 0 inst refl, insts_stand (line + 1) insts (λ i other at. stands (suc i) other at))

-- ---- units

-- the names of the units stay
pub names_of_raw : (names : List (List ℕ)) (line : ℕ) (units : List UnitShape) → unit_names (raw_units names line units) ≡ map (λ (unit : UnitShape). unit.name) units
names_of_raw names line [] = refl
names_of_raw names line (unit ∷ units) = ap (λ (l : List (List ℕ)). unit.name ∷ l) (names_of_raw names (line + 1 + length unit.body + 1) units)

-- and so do those of the globals
pub names_of_globals : (line : ℕ) (names : List (List ℕ)) → global_names (raw_globals line names) ≡ names
names_of_globals line [] = refl
names_of_globals line (name ∷ names) = ap (λ (l : List (List ℕ)). name ∷ l) (names_of_globals (line + 1) names)

module _ (globals gs : List (List ℕ)) (same_globals : gs ≡ globals) (all : List UnitShape) (raws : List (List ℕ)) (same_names : raws ≡ map (λ (unit : UnitShape). unit.name) all) where
  abbrev names : List (List ℕ)
  names = map (λ (unit : UnitShape). unit.name) all

  unit_stands : (line : ℕ) (unit : UnitShape) → BodyFits all unit.body → SharesGlobals globals unit → UnitWellTyped unit → UnitStands gs raws (raw_unit names line unit) unit
  unit_stands line unit fits shares well_typed =
      let naming = unit_naming names unit in
      let labels = raw_labels unit.body (line + 1) 0 unit.body in
      record {
        name = refl;
        shared = shares.count ∙ ap length (sym same_globals);
        vars =
            subst (λ (l : List (List ℕ)). FirstNames (l ++ body_names (raw_insts naming (line + 1) unit.body)) unit.vars) (sym same_globals)
            (variables_stand globals names (line + 1) unit well_typed.tidy shares);
        body = insts_stand naming labels raws same_names (line + 1) unit.body
            (λ i inst at. form_stands naming labels raws same_names all i inst (sym (length-map all (λ (u : UnitShape). u.name))) (λ target is within. is_place unit.body (line + 1) target is within) (fits.insts i inst at) (jumps_to_is all unit.body fits i inst at)
            (all_at (λ (j : Inst). AllBelow (length unit.vars) (inst_vars j)) unit.body i inst well_typed.below at));
      }

  pub raw_units_stand : (line : ℕ) (units : List UnitShape) → ((i : ℕ) (unit : UnitShape) → slice_get units i ≡ Some unit → BodyFits all unit.body × SharesGlobals globals unit × UnitWellTyped unit)
      → EachStands (UnitStands gs raws) (raw_units names line units) units
  raw_units_stand line [] known = tt
  raw_units_stand line (unit ∷ units) known =
      let here = known 0 unit refl in
      (unit_stands line unit here.0 here.1 here.2, raw_units_stand (line + 1 + length unit.body + 1) units (λ i other at. known (suc i) other at))
