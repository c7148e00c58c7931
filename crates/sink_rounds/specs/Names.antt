-- A body is determined by the names of its variables and by what it is once they are numbered by their occurrence.
use Rattle.std.proofs.Common.{◌≡◌, ℕ, true, List, [], ◌∷◌, ◌++◌, map, flat_map, length, slice_index_or, Option, Some, None, option_map, refl, sym, ap, ◌∙◌}
use Rattle.std.proofs.lemmas.Option.{get_or_from_slice_get}
use Rattle.mir_base.specs.declared.instructions.Operand.{Operand}
use Rattle.mir_base.specs.declared.instructions.Operand.TheVariants.{Var, Const}
use Rattle.mir_base.specs.declared.instructions.Rhs.{Rhs}
use Rattle.mir_base.specs.declared.instructions.Rhs.TheVariants.{Plain, Unary, Binary}
use Rattle.mir_base.specs.declared.instructions.Test.{Test}
use Rattle.mir_base.specs.declared.instructions.Test.TheVariants.{Rel, Holds, Fails}
use Rattle.mir_base.specs.declared.instructions.Inst.{Inst}
use Rattle.mir_base.specs.declared.instructions.Inst.TheVariants.{Receive, Assign, Goto, If, Call, Print, TrapIf, Return}
use Rattle.mir_base.specs.Frames.{shared_vars}
use Rattle.mir_base.specs.Shapes.{AllBelow, AllDiffer, inst_vars, into_vars, operand_vars, rhs_vars, test_vars}
use Rattle.flow_graph.specs.ListLaws.{cons_same, some_at}
use Rattle.flow_graph.specs.Numbering.{first_index, is_in, renamed, renamed_operand, renamed_rhs, renamed_test, renumbered, seen_in}
use Rattle.flow_graph.specs.RenamingLaws.{AllIn, all_seen, position_holds}

-- ---- the variables seen

-- if all of two lists were seen, all of the first were
first_in : (seen xs ys : List ℕ) → AllIn seen (xs ++ ys) → AllIn seen xs
first_in seen [] ys h = tt
first_in seen (x ∷ xs) ys h = (h.0, first_in seen xs ys h.1)

-- and all of the second
back_in : (seen xs ys : List ℕ) → AllIn seen (xs ++ ys) → AllIn seen ys
back_in seen [] ys h = h
back_in seen (x ∷ xs) ys h = back_in seen xs ys h.1

module _ (seen : List ℕ) where
  abbrev to : ℕ → ℕ
  to = first_index seen

  -- the variable of a number
  abbrev pub back : ℕ → ℕ
  back i = slice_index_or seen i 0

  -- renamed there and back, each thing is what it was
  var_back : (x : ℕ) → is_in x seen ≡ true → back (to x) ≡ x
  var_back x e = get_or_from_slice_get seen (to x) x 0 (position_holds seen x e)

  operand_back : (a : Operand) → AllIn seen (operand_vars a) → renamed_operand back (renamed_operand to a) ≡ a
  operand_back (Var x) h = ap Var (var_back x h.0)
  operand_back (Const c) h = refl

  rhs_back : (t : Rhs) → AllIn seen (rhs_vars t) → renamed_rhs back (renamed_rhs to t) ≡ t
  rhs_back (Plain a) h = ap Plain (operand_back a h)
  rhs_back (Unary op a) h = ap (Unary op) (operand_back a h)
  rhs_back (Binary op a b) h = ap (λ c. Binary op c (renamed_operand back (renamed_operand to b))) (operand_back a (first_in seen (operand_vars a) (operand_vars b) h)) ∙ ap (Binary op a) (operand_back b (back_in seen (operand_vars a) (operand_vars b) h))

  test_back : (t : Test) → AllIn seen (test_vars t) → renamed_test back (renamed_test to t) ≡ t
  test_back (Rel op a b) h = ap (λ c. Rel op c (renamed_operand back (renamed_operand to b))) (operand_back a (first_in seen (operand_vars a) (operand_vars b) h)) ∙ ap (Rel op a) (operand_back b (back_in seen (operand_vars a) (operand_vars b) h))
  test_back (Holds a) h = ap Holds (operand_back a h)
  test_back (Fails a) h = ap Fails (operand_back a h)

  operands_back : (l : List Operand) → AllIn seen (flat_map operand_vars l) → map (renamed_operand back) (map (renamed_operand to) l) ≡ l
  operands_back [] h = refl
  operands_back (a ∷ l) h = cons_same (operand_back a (first_in seen (operand_vars a) (flat_map operand_vars l) h)) (operands_back l (back_in seen (operand_vars a) (flat_map operand_vars l) h))

  into_back : (into : Option ℕ) → AllIn seen (into_vars into) → option_map back (option_map to into) ≡ into
  into_back None h = refl
  into_back (Some x) h = ap (λ (y : ℕ). Some y) (var_back x h.0)

  inst_back : (inst : Inst) → AllIn seen (inst_vars inst) → renamed back (renamed to inst) ≡ inst
  inst_back (Receive x) h = ap Receive (var_back x h.0)
  inst_back (Assign x t) h = ap (λ y. Assign y (renamed_rhs back (renamed_rhs to t))) (var_back x h.0) ∙ ap (Assign x) (rhs_back t h.1)
  inst_back (Goto place) h = refl
  inst_back (If test place) h = ap (λ c. If c place) (test_back test h)
  inst_back (Call into unit operands) h =
      ap (λ i. Call i unit (map (renamed_operand back) (map (renamed_operand to) operands))) (into_back into (first_in seen (into_vars into) (flat_map operand_vars operands) h))
      ∙ ap (Call into unit) (operands_back operands (back_in seen (into_vars into) (flat_map operand_vars operands) h))
  inst_back (Print a) h = ap Print (operand_back a h)
  inst_back (TrapIf test number) h = ap (λ c. TrapIf c number) (test_back test h)
  inst_back (Return a) h = ap Return (operand_back a h)

  body_back : (body : List Inst) → AllIn seen (flat_map inst_vars body) → map (renamed back) (map (renamed to) body) ≡ body
  body_back [] h = refl
  body_back (inst ∷ body) h = cons_same (inst_back inst (first_in seen (inst_vars inst) (flat_map inst_vars body) h)) (body_back body (back_in seen (inst_vars inst) (flat_map inst_vars body) h))

-- names that are equal are those of equal variables
same_seen : (vars : List (List ℕ)) → AllDiffer vars → (xs ys : List ℕ) → AllBelow (length vars) xs → AllBelow (length vars) ys → map (λ x. slice_index_or vars x []) xs ≡ map (λ x. slice_index_or vars x []) ys → xs ≡ ys
same_seen vars differ [] [] below below' same = refl
same_seen vars differ [] (y ∷ ys) below below' same = absurd (cc)
same_seen vars differ (x ∷ xs) [] below below' same = absurd (cc)
same_seen vars differ (x ∷ xs) (y ∷ ys) below below' same =
    let a = some_at vars x below.0 in
    let b = some_at vars y below'.0 in
    let names : slice_index_or vars x [] ≡ slice_index_or vars y [] = cc in
    let rest : map (λ z. slice_index_or vars z []) xs ≡ map (λ z. slice_index_or vars z []) ys = cc in
    let held : a.0 ≡ b.0 = sym (get_or_from_slice_get vars x a.0 [] a.1) ∙ names ∙ get_or_from_slice_get vars y b.0 [] b.1 in
    cons_same (differ x y below.0 below'.0 (a.1 ∙ ap (λ (n : List ℕ). Some n) held ∙ sym b.1)) (same_seen vars differ xs ys below.1 below'.1 rest)

-- so bodies with one numbering and the same names are one
pub same_bodies : (shared : ℕ) (vars : List (List ℕ)) (a b : List Inst) → AllDiffer vars → AllBelow (length vars) (seen_in shared a) → AllBelow (length vars) (seen_in shared b)
    → map (λ x. slice_index_or vars x []) (seen_in shared a) ≡ map (λ x. slice_index_or vars x []) (seen_in shared b) → renumbered shared a ≡ renumbered shared b → a ≡ b
same_bodies shared vars a b differ below below' names body =
    let seen : seen_in shared a ≡ seen_in shared b = same_seen vars differ (seen_in shared a) (seen_in shared b) below below' names in
    sym (body_back (seen_in shared a) a (all_seen (shared_vars shared) (flat_map inst_vars a)))
    ∙ ap (map (renamed (back (seen_in shared a)))) body
    ∙ ap (λ s. map (renamed (back s)) (renumbered shared b)) seen
    ∙ body_back (seen_in shared b) b (all_seen (shared_vars shared) (flat_map inst_vars b))
