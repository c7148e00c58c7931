-- Variables that are numbered in the order of their first occurrence make a tidy unit.
use Rattle.std.proofs.Common.{◌≡◌, ℕ, suc, ◌<◌, Bool, true, false, cond, nat_lt, nat_eq, unwrap_or, if◌then◌else◌, List, [], ◌∷◌, ◌++◌, map, fold, length, Option, None, Some, refl, ap, sym, ◌∙◌, append_assoc, length-append, arith}
use Rattle.std.specs.List.{flat_map}
use Rattle.std.proofs.lemmas.List.{append-nil, length-map, map-append}
use Rattle.std.proofs.lemmas.Bool.Decides.{nat_tests}
use Rattle.std.proofs.lemmas.Option.{slice_get_within}
use Rattle.mir_base.specs.ItemLaws.{some_of}
use Rattle.mir_base.specs.Shapes.{operand_vars, rhs_vars, test_vars, into_vars, inst_vars, numbered_from, IsTidy}
use Rattle.mir_parse.specs.declared.raw.RawOperand.{RawOperand}
use Rattle.mir_parse.specs.declared.raw.RawOperand.TheVariants.{Var, Const}
use Rattle.mir_parse.specs.declared.raw.RawRhs.{RawRhs}
use Rattle.mir_parse.specs.declared.raw.RawRhs.TheVariants.{Plain, Unary, Binary}
use Rattle.mir_parse.specs.declared.raw.RawTest.{RawTest}
use Rattle.mir_parse.specs.declared.raw.RawTest.TheVariants.{Rel, Holds, Fails}
use Rattle.mir_parse.specs.declared.raw.RawForm.{RawForm}
use Rattle.mir_parse.specs.declared.raw.RawForm.TheVariants.{Receive, Assign, Goto, If, TrapIf, Call, Print, Return}
use Rattle.mir_parse.specs.declared.raw.RawInst.{RawInst}
use Rattle.mir_parse.specs.declared.raw.RawGlobal.{RawGlobal}
use Rattle.mir_valid.specs.Rules.{global_names, same_global_lines}
use Rattle.mir_valid.specs.Names.{NameEntry, has_name, number_in}
use Rattle.mir_valid.specs.Variables.{operand_names, rhs_names, test_names, into_names, returned_names, form_names, body_names}
use Rattle.mir_valid.specs.NameTables.{number_or_zero, entries_from}
use Rattle.mir_valid.specs.Numbered.{with_name, global_variables, variables_of, Numbers, numbered_operand, numbered_rhs, numbered_test, numbered_into, numbered_return, numbered_form, numbered_body}
use Rattle.mir_valid.proofs.TableLaws.{has_number}
use Rattle.mir_valid.proofs.NumberLaws.{number_place, number_kept, number_new}
use Rattle.mir_valid.proofs.DistinctLaws.{differ_fold, differ_variables, globals_are}

-- ---- the variables of a numbered body are the numbers of its names

module _ (vars : List NameEntry) where
  abbrev numbers_in : List (List ℕ) → List ℕ
  numbers_in names = map (number_or_zero vars) names

  two : (xs ys : List ℕ) (names others : List (List ℕ)) → xs ≡ numbers_in names → ys ≡ numbers_in others → xs ++ ys ≡ numbers_in (names ++ others)
  two xs ys names others e e' = ap (λ zs. zs ++ ys) e ∙ ap (λ zs. numbers_in names ++ zs) e' ∙ sym (map-append (number_or_zero vars) names others)

  operand : (a : RawOperand) → operand_vars (numbered_operand vars a) ≡ numbers_in (operand_names a)
  operand (Var x) = refl
  operand (Const z) = refl

  operands : (others : List RawOperand) → flat_map operand_vars (map (numbered_operand vars) others) ≡ numbers_in (flat_map operand_names others)
  operands [] = refl
  operands (a ∷ others) = two (operand_vars (numbered_operand vars a)) (flat_map operand_vars (map (numbered_operand vars) others)) (operand_names a) (flat_map operand_names others) (operand a) (operands others)

  rhs : (r : RawRhs) → rhs_vars (numbered_rhs vars r) ≡ numbers_in (rhs_names r)
  rhs (Plain a) = operand a
  rhs (Unary op a) = operand a
  rhs (Binary op a b) = two (operand_vars (numbered_operand vars a)) (operand_vars (numbered_operand vars b)) (operand_names a) (operand_names b) (operand a) (operand b)

  test : (t : RawTest) → test_vars (numbered_test vars t) ≡ numbers_in (test_names t)
  test (Rel op a b) = two (operand_vars (numbered_operand vars a)) (operand_vars (numbered_operand vars b)) (operand_names a) (operand_names b) (operand a) (operand b)
  test (Holds a) = operand a
  test (Fails a) = operand a

  into : (o : Option (List ℕ)) → into_vars (numbered_into vars o) ≡ numbers_in (into_names o)
  into None = refl
  into (Some x) = refl

  returned : (o : Option RawOperand) → operand_vars (numbered_return vars o) ≡ numbers_in (returned_names o)
  returned None = refl
  returned (Some a) = operand a

-- numbering an instruction numbers the names in it, in their order
form : (numbers : Numbers) (f : RawForm) → inst_vars (numbered_form numbers f) ≡ map (number_or_zero numbers.vars) (form_names f)
form numbers (Receive x) = refl
form numbers (Assign x r) = ap (λ xs. number_or_zero numbers.vars x ∷ xs) (rhs numbers.vars r)
form numbers (Goto l) = refl
form numbers (If t l) = test numbers.vars t
form numbers (TrapIf t z) = test numbers.vars t
form numbers (Call o f others) =
    two numbers.vars (into_vars (numbered_into numbers.vars o)) (flat_map operand_vars (map (numbered_operand numbers.vars) others)) (into_names o) (flat_map operand_names others) (into numbers.vars o)
    (operands numbers.vars others)
form numbers (Print a) = operand numbers.vars a
form numbers (Return o) = returned numbers.vars o

-- numbering a body numbers the names in it, in their order
body : (numbers : Numbers) (insts : List RawInst) → flat_map inst_vars (numbered_body numbers insts) ≡ map (number_or_zero numbers.vars) (body_names insts)
body numbers [] = refl
body numbers (inst ∷ insts) =
    two numbers.vars (inst_vars (numbered_form numbers inst.form)) (flat_map inst_vars (numbered_body numbers insts)) (form_names inst.form) (body_names insts) (form numbers inst.form)
    (body numbers insts)

-- ---- they are numbered in the order of first occurrence

-- a number below the next one was counted before and changes nothing
numbered_old : (k m : ℕ) (xs : List ℕ) → m < k → numbered_from k (m ∷ xs) ≡ numbered_from k xs
numbered_old k m xs low = let e : nat_lt m k ≡ true = grind (arith, nat_tests) in ap (λ b. cond b (numbered_from k xs) (cond (nat_eq m k) (numbered_from (suc k) xs) None)) e

-- the next number is counted
numbered_first : (k m : ℕ) (xs : List ℕ) → m ≡ k → numbered_from k (m ∷ xs) ≡ numbered_from (suc k) xs
numbered_first k m xs same =
    let e : nat_lt m k ≡ false = grind (arith, nat_tests) in
    let e' : nat_eq m k ≡ true = grind (arith, nat_tests) in
    ap (λ b. cond b (numbered_from k xs) (cond (nat_eq m k) (numbered_from (suc k) xs) None)) e ∙ ap (λ b. cond b (numbered_from (suc k) xs) None) e'

-- names that are added go last
pub names_grown : (names vars : List (List ℕ)) → (rest : List (List ℕ)) × (fold with_name vars names ≡ vars ++ rest)
names_grown [] vars = ([], sym (append-nil vars))
names_grown (x ∷ names) vars = by (has_name vars x) refl (names_grown names (with_name vars x))
  where
    by : (b : Bool) → has_name vars x ≡ b → (rest : List (List ℕ)) × (fold with_name (with_name vars x) names ≡ with_name vars x ++ rest)
        → (rest : List (List ℕ)) × (fold with_name vars (x ∷ names) ≡ vars ++ rest)
    by true e later = (later.0, later.1 ∙ ap (λ b. (if b then vars else vars ++ x ∷ []) ++ later.0) e)
    by false e later = (x ∷ later.0, later.1 ∙ ap (λ b. (if b then vars else vars ++ x ∷ []) ++ later.0) e ∙ append_assoc vars (x ∷ []) later.0)

-- a name that is among the variables has a number below their count
old_number : (vars all : List (List ℕ)) (names : List (List ℕ)) (x : List ℕ) → has_name vars x ≡ true → all ≡ fold with_name vars names → number_or_zero (entries_from 0 all) x < length vars
old_number vars all names x has is =
    let found = some_of (number_in (entries_from 0 vars) x) (has_number 0 vars x ∙ has) in
    let place = number_place 0 vars x found.0 found.1 in
    let more = names_grown names vars in
    let number : number_or_zero (entries_from 0 all) x ≡ found.0 =
    ap (λ ns. number_or_zero (entries_from 0 ns) x) (is ∙ more.1) ∙ ap (λ o. unwrap_or o 0) (number_kept vars more.0 x found.0 found.1) in
    let low : place.0 < length vars = slice_get_within vars place.0 x place.2 in
    omega (arith, number, low, place.1)

-- a new name has the number of variables before it
new_number : (vars all : List (List ℕ)) (names : List (List ℕ)) (x : List ℕ) → has_name vars x ≡ false → all ≡ fold with_name (vars ++ x ∷ []) names
    → number_or_zero (entries_from 0 all) x ≡ length vars
new_number vars all names x new is =
    let more = names_grown names (vars ++ x ∷ []) in
    ap (λ ns. number_or_zero (entries_from 0 ns) x) (is ∙ more.1)
    ∙ ap (λ o. unwrap_or o 0) (number_kept (vars ++ x ∷ []) more.0 x (length vars) (number_new vars x new))

-- so the numbers of the names come in the order of first occurrence
in_order : (names vars all : List (List ℕ)) → all ≡ fold with_name vars names → numbered_from (length vars) (map (number_or_zero (entries_from 0 all)) names) ≡ Some (length all)
in_order [] vars all is = ap (λ ns. Some (length ns)) (sym is)
in_order (x ∷ names) vars all is = by (has_name vars x) refl (in_order names vars all) (in_order names (vars ++ x ∷ []) all)
  where
    by : (b : Bool) → has_name vars x ≡ b
        → (all ≡ fold with_name vars names → numbered_from (length vars) (map (number_or_zero (entries_from 0 all)) names) ≡ Some (length all))
        → (all ≡ fold with_name (vars ++ x ∷ []) names → numbered_from (length (vars ++ x ∷ [])) (map (number_or_zero (entries_from 0 all)) names) ≡ Some (length all))
        → numbered_from (length vars) (map (number_or_zero (entries_from 0 all)) (x ∷ names)) ≡ Some (length all)
    by true e old new =
        let is' : all ≡ fold with_name vars names = is ∙ ap (λ b. fold with_name (if b then vars else vars ++ x ∷ []) names) e in
        numbered_old (length vars) (number_or_zero (entries_from 0 all) x) (map (number_or_zero (entries_from 0 all)) names) (old_number vars all names x e is') ∙ old is'
    by false e old new =
        let is' : all ≡ fold with_name (vars ++ x ∷ []) names = is ∙ ap (λ b. fold with_name (if b then vars else vars ++ x ∷ []) names) e in
        let size : suc (length vars) ≡ length (vars ++ x ∷ []) = omega (arith, length-append vars (x ∷ [])) in
        numbered_first (length vars) (number_or_zero (entries_from 0 all) x) (map (number_or_zero (entries_from 0 all)) names) (new_number vars all names x e is')
        ∙ ap (λ k. numbered_from k (map (number_or_zero (entries_from 0 all)) names)) size
        ∙ new is'

-- a numbered body is tidy
pub tidy_numbered : (globals : List RawGlobal) (numbers : Numbers) (insts : List RawInst) → same_global_lines globals ≡ [] → numbers.vars ≡ entries_from 0 (variables_of globals insts)
    → IsTidy (length globals) (variables_of globals insts) (numbered_body numbers insts)
tidy_numbered globals numbers insts distinct is = record {
  numbered =
      ap (numbered_from (length globals)) (body numbers insts ∙ ap (λ vars. map (number_or_zero vars) (body_names insts)) is)
      ∙ ap (λ k. numbered_from k (map (number_or_zero (entries_from 0 (variables_of globals insts))) (body_names insts))) size
      ∙ in_order (body_names insts) (global_variables globals) (variables_of globals insts) refl;
  differ = differ_fold (body_names insts) (global_variables globals) (differ_variables (global_names globals));
}
  where
    size : length globals ≡ length (global_variables globals)
    size = sym (ap length (globals_are globals distinct) ∙ length-map globals (λ g. g.name))
