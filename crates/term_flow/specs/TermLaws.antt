-- What right sides of a variable and a constant give, and what two of them on one another do, as the table says.
use Rattle.std.proofs.Common.{rules, ◌≡◌, ℕ, ◌/◌, ◌^◌, ◌≤◌, min, Bool, true, false, not, if◌then◌else◌, nat_le, ℤ, pos, ◌*ℤ◌, neg_ℤ, [], ◌∷◌, Option, Some, None, option_map, refl, sym, ap, ◌∙◌, subst, arith, le_refl, FitsSigned, w64}
use Rattle.std.specs.Int.{int_div_euclid}
use Rattle.std.specs.Ordering.{int_eq}
use Rattle.std.proofs.Math.IntN.{+ℤ_comm, *ℤ_comm}
use Rattle.std.proofs.lemmas.Bool.{leb-true}
use Rattle.std.proofs.lemmas.Bool.Decides.{Decides-int_eq}
use Rattle.std.proofs.lemmas.Int.{int_wrap_fits}
use Rattle.std.proofs.lemmas.Nat.{and_comm, or_comm, xor_comm}
use Rattle.mir_base.specs.declared.operators.Op.{Op}
use Rattle.mir_base.specs.declared.operators.Op.TheVariants.{Add, Sub, Mul, Min, Max, Eq, Ne, Shl, Shr, Shra, And, Or, Xor}
use Rattle.mir_base.specs.declared.operators.UnOp.TheVariants.{Neg, Not}
use Rattle.mir_base.specs.declared.instructions.Operand.{Operand}
use Rattle.mir_base.specs.declared.instructions.Operand.TheVariants.{Var, Const}
use Rattle.mir_base.specs.declared.instructions.Rhs.{Rhs}
use Rattle.mir_base.specs.declared.instructions.Rhs.TheVariants.{Plain, Unary, Binary}
use Rattle.mir_base.specs.contracts.operators.OpPartialEq.TheImpl.{ghosts as ops}
use Rattle.mir_base.specs.Expressions.{rhs_count, rhs_traps, rhs_value}
use Rattle.mir_base.specs.Frames.{Values}
use Rattle.mir_base.specs.FrameLaws.{ValuesFit}
use Rattle.mir_base.specs.NumberLaws.{value_fits, wrapped_fits, zero_fits}
use Rattle.mir_base.specs.Numbers.{distance, is_dividing, traps, truth, unsigned, value_of_op, wrapped}
use Rattle.mir_base.specs.Shapes.{rhs_vars}
use Rattle.term_flow.specs.declared.reading.ByConstant.{ByConstant}
use Rattle.term_flow.specs.Terms.{sum_with, value_by, joint_constant, joint_distance, left_read, over_by, read_binary, read_rhs, same_again, rhs_by, right_read, solution, difference_from, with_constant, shift_within}
use Rattle.term_flow.specs.NumberLaws.{add_add, add_nothing, add_solved, add_taken, and_twice, distance_is, eq_turned, max_turned, max_twice, min_turned, min_twice, mul_twice, neg_is_sub, or_twice, shl_twice, shr_twice, shra_twice, sub_add, sub_is_add, sub_solved, sub_taken, xor_nothing, xor_solved, xor_twice}

-- ---- reading

-- the operator with one operand open does not divide, and gives what the variable and the constant do
record IsRead (op : Op) (f : ℤ → ℤ) (x : ℕ) (t : ByConstant) : Type 0 where
  gives : (v : ℤ) → f v ≡ value_by t.op v t.constant
  fits : FitsSigned w64 t.constant
  var_is : t.var ≡ x
  undivided : is_dividing op ≡ false

-- so it is where something was read
abbrev IfRead : Op → (ℤ → ℤ) → ℕ → Option ByConstant → Type 0
IfRead op f x None = Unit {0}
IfRead op f x (Some t) = IsRead op f x t

-- the variable and then the constant
right_holds : (op : Op) (x : ℕ) (c : ℤ) → FitsSigned w64 c → IfRead op (λ v. value_of_op op v c) x (right_read op x c)
right_holds Add x c fits = record { gives = λ v. refl; fits = fits; var_is = refl; undivided = refl }
right_holds Sub x c fits = record { gives = λ v. sub_is_add v c; fits = wrapped_fits (neg_ℤ c); var_is = refl; undivided = refl }
right_holds Mul x c fits = record { gives = λ v. refl; fits = fits; var_is = refl; undivided = refl }
right_holds Min x c fits = record { gives = λ v. refl; fits = fits; var_is = refl; undivided = refl }
right_holds Max x c fits = record { gives = λ v. refl; fits = fits; var_is = refl; undivided = refl }
right_holds Eq x c fits = record { gives = λ v. refl; fits = fits; var_is = refl; undivided = refl }
right_holds Ne x c fits = record { gives = λ v. refl; fits = fits; var_is = refl; undivided = refl }
right_holds Shl x c fits = record { gives = λ v. refl; fits = fits; var_is = refl; undivided = refl }
right_holds Shr x c fits = record { gives = λ v. refl; fits = fits; var_is = refl; undivided = refl }
right_holds Shra x c fits = record { gives = λ v. refl; fits = fits; var_is = refl; undivided = refl }
right_holds And x c fits = record { gives = λ v. refl; fits = fits; var_is = refl; undivided = refl }
right_holds Or x c fits = record { gives = λ v. refl; fits = fits; var_is = refl; undivided = refl }
right_holds Xor x c fits = record { gives = λ v. refl; fits = fits; var_is = refl; undivided = refl }
right_holds _ x c fits = tt

-- the constant and then the variable
left_holds : (op : Op) (c : ℤ) (x : ℕ) → FitsSigned w64 c → IfRead op (λ v. value_of_op op c v) x (left_read op c x)
left_holds Add c x fits = record { gives = λ v. ap wrapped (+ℤ_comm c v); fits = fits; var_is = refl; undivided = refl }
left_holds Sub c x fits = record { gives = λ v. refl; fits = fits; var_is = refl; undivided = refl }
left_holds Mul c x fits = record { gives = λ v. ap wrapped (*ℤ_comm c v); fits = fits; var_is = refl; undivided = refl }
left_holds Min c x fits = record { gives = λ v. min_turned v c; fits = fits; var_is = refl; undivided = refl }
left_holds Max c x fits = record { gives = λ v. max_turned v c; fits = fits; var_is = refl; undivided = refl }
left_holds Eq c x fits = record { gives = λ v. ap truth (eq_turned c v); fits = fits; var_is = refl; undivided = refl }
left_holds Ne c x fits = record { gives = λ v. ap (λ b. truth (not b)) (eq_turned c v); fits = fits; var_is = refl; undivided = refl }
left_holds And c x fits = record { gives = λ v. ap (λ n. wrapped (pos n)) (and_comm (unsigned c) (unsigned v)); fits = fits; var_is = refl; undivided = refl }
left_holds Or c x fits = record { gives = λ v. ap (λ n. wrapped (pos n)) (or_comm (unsigned c) (unsigned v)); fits = fits; var_is = refl; undivided = refl }
left_holds Xor c x fits = record { gives = λ v. ap (λ n. wrapped (pos n)) (xor_comm (unsigned c) (unsigned v)); fits = fits; var_is = refl; undivided = refl }
left_holds _ c x fits = tt

-- an operator that does not divide never traps
pub never_traps : (op : Op) (b : ℤ) → is_dividing op ≡ false → traps op b ≡ false
never_traps op b undivided = rw undivided refl

-- the right side never traps, counts once, and gives what this variable and this constant do
pub record ReadsTerm (values : Values) (rhs : Rhs) (t : ByConstant) : Type 0 where
  pub value : rhs_value values rhs ≡ value_by t.op (values t.var) t.constant
  pub fits : FitsSigned w64 t.constant
  pub never : rhs_traps values rhs ≡ false
  pub counted : rhs_count rhs ≡ 1
  pub vars : rhs_vars rhs ≡ t.var ∷ []

-- the constant 0 is read as 0
pub zero_is : wrapped (pos 0) ≡ pos 0
zero_is = int_wrap_fits w64 (pos 0) zero_fits

module _ (values : Values) where
  -- an operator on two operands
  binary_reads : (op : Op) (a b : Operand) (t : ByConstant) → read_binary op a b ≡ Some t → ReadsTerm values (Binary op a b) t
  binary_reads op (Var x) (Var y) t e = cc
  binary_reads op (Const c) (Const d) t e = cc
  binary_reads op (Var x) (Const c) t e =
      let h : IsRead op (λ v. value_of_op op v (wrapped c)) x t = subst (IfRead op (λ v. value_of_op op v (wrapped c)) x) e (right_holds op x (wrapped c) (wrapped_fits c)) in
      record {
        value = h.gives (values x) ∙ ap (λ y. value_by t.op (values y) t.constant) (sym h.var_is);
        fits = h.fits;
        never = never_traps op (wrapped c) h.undivided;
        counted = refl;
        vars = ap (λ y. y ∷ []) (sym h.var_is);
      }
  binary_reads op (Const c) (Var x) t e =
      let h : IsRead op (λ v. value_of_op op (wrapped c) v) x t = subst (IfRead op (λ v. value_of_op op (wrapped c) v) x) e (left_holds op (wrapped c) x (wrapped_fits c)) in
      record {
        value = h.gives (values x) ∙ ap (λ y. value_by t.op (values y) t.constant) (sym h.var_is);
        fits = h.fits;
        never = never_traps op (values x) h.undivided;
        counted = refl;
        vars = ap (λ y. y ∷ []) (sym h.var_is);
      }

  -- any right side
  pub reads : (rhs : Rhs) (t : ByConstant) → read_rhs rhs ≡ Some t → ReadsTerm values rhs t
  reads (Plain a) t e = cc
  reads (Unary Neg (Const c)) t e = cc
  reads (Unary Not (Const c)) t e = cc
  reads (Unary Neg (Var x)) t e =
      let r = binary_reads Sub (Const (pos 0)) (Var x) t e in
      record { value = neg_is_sub (values x) ∙ ap (λ z. value_of_op Sub z (values x)) (sym zero_is) ∙ r.value; fits = r.fits; never = refl; counted = refl; vars = r.vars }
  reads (Unary Not (Var x)) t e =
      let r = binary_reads Eq (Var x) (Const (pos 0)) t e in
      record { value = ap (λ z. value_of_op Eq (values x) z) (sym zero_is) ∙ r.value; fits = r.fits; never = refl; counted = refl; vars = r.vars }
  reads (Binary op a b) t e = binary_reads op a b t e

-- ---- one on another

-- where the variable has a value in range, this gives what the variable and the constant do
pub record IsTermOver (g : ℤ → ℤ) (x : ℕ) (s : ByConstant) : Type 0 where
  pub gives : (v : ℤ) → FitsSigned w64 v → g v ≡ value_by s.op v s.constant
  pub fits : FitsSigned w64 s.constant
  pub var_is : s.var ≡ x
  pub undivided : is_dividing s.op ≡ false

-- so it is where there is one
abbrev pub IfOver : (ℤ → ℤ) → ℕ → Option ByConstant → Type 0
IfOver g x None = Unit {0}
IfOver g x (Some s) = IsTermOver g x s

-- sums
sum_holds : (c : ℤ) (q : Op) (x : ℕ) (k : ℤ) → IfOver (λ v. value_by Add (value_by q v k) c) x (sum_with c q x k)
sum_holds c Add x k = record { gives = λ v fits. add_add v k c; fits = wrapped_fits _; var_is = refl; undivided = refl }
sum_holds c Sub x k = record { gives = λ v fits. sub_add v k c; fits = wrapped_fits _; var_is = refl; undivided = refl }
sum_holds c _ x k = tt

-- differences
difference_holds : (c : ℤ) (q : Op) (x : ℕ) (k : ℤ) → IfOver (λ v. value_by Sub (value_by q v k) c) x (difference_from c q x k)
difference_holds c Add x k = record { gives = λ v fits. add_taken v k c; fits = wrapped_fits _; var_is = refl; undivided = refl }
difference_holds c Sub x k = record { gives = λ v fits. sub_taken v k c; fits = wrapped_fits _; var_is = refl; undivided = refl }
difference_holds c _ x k = tt

-- of this number the operator makes c
record IsSolved (c : ℤ) (q : Op) (k d : ℤ) : Type 0 where
  tests : (v : ℤ) → FitsSigned w64 v → int_eq (value_by q v k) c ≡ int_eq v d
  fits : FitsSigned w64 d

-- so it is where there is one
abbrev IfSolved : ℤ → Op → ℤ → Option ℤ → Type 0
IfSolved c q k None = Unit {0}
IfSolved c q k (Some d) = IsSolved c q k d

-- each equation of the table
solution_holds : (c : ℤ) (q : Op) (k : ℤ) → FitsSigned w64 c → IfSolved c q k (solution c q k)
solution_holds c Add k fits = record { tests = λ v fits'. add_solved v k c fits' fits; fits = wrapped_fits _ }
solution_holds c Sub k fits = record { tests = λ v fits'. sub_solved v k c fits' fits; fits = wrapped_fits _ }
solution_holds c Xor k fits = record { tests = λ v fits'. xor_solved v k c fits' fits; fits = wrapped_fits _ }
solution_holds c _ k fits = tt

-- a comparison by `=`
equal_holds : (c : ℤ) (q : Op) (x : ℕ) (k : ℤ) (o : Option ℤ) → IfSolved c q k o → IfOver (λ v. value_by Eq (value_by q v k) c) x (option_map (with_constant Eq x) o)
equal_holds c q x k None is = tt
equal_holds c q x k (Some d) is = record { gives = λ v fits. ap truth (is.tests v fits); fits = is.fits; var_is = refl; undivided = refl }

-- and by `!=`
differ_holds : (c : ℤ) (q : Op) (x : ℕ) (k : ℤ) (o : Option ℤ) → IfSolved c q k o → IfOver (λ v. value_by Ne (value_by q v k) c) x (option_map (with_constant Ne x) o)
differ_holds c q x k None is = tt
differ_holds c q x k (Some d) is = record { gives = λ v fits. ap (λ b. truth (not b)) (is.tests v fits); fits = is.fits; var_is = refl; undivided = refl }

-- once with this constant is twice with those
record IsJoint (op : Op) (k c d : ℤ) : Type 0 where
  gives : (v : ℤ) → FitsSigned w64 v → value_by op (value_by op v k) c ≡ value_by op v d
  fits : FitsSigned w64 d
  undivided : is_dividing op ≡ false

-- so it is where there is one
abbrev IfJoint : Op → ℤ → ℤ → Option ℤ → Type 0
IfJoint op k c None = Unit {0}
IfJoint op k c (Some d) = IsJoint op k c d

-- a distance is in range
far_fits : (far : ℕ) → far ≤ 63 → FitsSigned w64 (pos far)
far_fits far low = record { sfits = omega arith }

-- a shift that goes at most 63 places
within_holds : (op : Op) (k c : ℤ) (far : ℕ) → (far ≤ 63 → IsJoint op k c (pos far)) → IfJoint op k c (shift_within far)
within_holds op k c far is = by (nat_le far 63) refl
  where
    by : (b : Bool) → nat_le far 63 ≡ b → IfJoint op k c (if b then Some (pos far) else None)
    by true low = is (leb-true far 63 low)
    by false low = tt

-- each operator of the table
joint_holds : (op : Op) (k c : ℤ) → FitsSigned w64 k → FitsSigned w64 c → IfJoint op k c (joint_constant op k c)
joint_holds Mul k c fits fits' = record { gives = λ v f. mul_twice v k c; fits = wrapped_fits _; undivided = refl }
joint_holds Min k c fits fits' = record { gives = λ v f. min_twice v k c; fits = value_fits Min k c fits fits'; undivided = refl }
joint_holds Max k c fits fits' = record { gives = λ v f. max_twice v k c; fits = value_fits Max k c fits fits'; undivided = refl }
joint_holds And k c fits fits' = record { gives = λ v f. and_twice v k c; fits = wrapped_fits _; undivided = refl }
joint_holds Or k c fits fits' = record { gives = λ v f. or_twice v k c; fits = wrapped_fits _; undivided = refl }
joint_holds Xor k c fits fits' = record { gives = λ v f. xor_twice v k c; fits = wrapped_fits _; undivided = refl }
joint_holds Shl k c fits fits' = within_holds Shl k c (joint_distance k c) (λ low. record {
  gives = λ v f. shl_twice v (distance k) (distance c) ∙ sym (ap (λ n. wrapped (v *ℤ pos (2 ^ n))) (distance_is (joint_distance k c) low));
  fits = far_fits (joint_distance k c) low;
  undivided = refl;
})
joint_holds Shr k c fits fits' = within_holds Shr k c (joint_distance k c) (λ low. record {
  gives = λ v f. shr_twice v (distance k) (distance c) ∙ sym (ap (λ n. wrapped (pos (unsigned v / 2 ^ n))) (distance_is (joint_distance k c) low));
  fits = far_fits (joint_distance k c) low;
  undivided = refl;
})
joint_holds Shra k c fits fits' =
    let far = min (joint_distance k c) 63 in
    let low : far ≤ 63 = omega arith in
    record { gives = λ v f. shra_twice v (distance k) (distance c) f ∙ sym (ap (λ n. int_div_euclid v (pos (2 ^ n))) (distance_is far low)); fits = far_fits far low; undivided = refl }
joint_holds _ k c fits fits' = tt

-- operators that compare equal are one
same_ops : (a b : Op) → ops.eq a b ≡ true → a ≡ b
same_ops a b h = search rules

-- twice the same operator
same_again_holds : (op : Op) (c : ℤ) (q : Op) (x : ℕ) (k : ℤ) → FitsSigned w64 c → FitsSigned w64 k → IfOver (λ v. value_by op (value_by q v k) c) x (same_again op c q x k)
same_again_holds op c q x k fits fits' = by (ops.eq op q) refl
  where
    found : op ≡ q → (o : Option ℤ) → IfJoint op k c o → IfOver (λ v. value_by op (value_by q v k) c) x (option_map (with_constant op x) o)
    found same None is = tt
    found same (Some d) is = record {
      gives = λ v f. ap (λ r. value_by op (value_by r v k) c) (sym same) ∙ is.gives v f;
      fits = is.fits;
      var_is = refl;
      undivided = is.undivided;
    }

    by : (b : Bool) → ops.eq op q ≡ b → IfOver (λ v. value_by op (value_by q v k) c) x (if b then option_map (with_constant op x) (joint_constant op k c) else None)
    by true same = found (same_ops op q same) (joint_constant op k c) (joint_holds op k c fits' fits)
    by false differ = tt

-- any two
pub over_holds : (op : Op) (c : ℤ) (q : Op) (x : ℕ) (k : ℤ) → FitsSigned w64 c → FitsSigned w64 k → IfOver (λ v. value_by op (value_by q v k) c) x (over_by op c q x k)
over_holds Add c q x k fits fits' = sum_holds c q x k
over_holds Sub c q x k fits fits' = difference_holds c q x k
over_holds Eq c q x k fits fits' = equal_holds c q x k (solution c q k) (solution_holds c q k fits)
over_holds Ne c q x k fits fits' = differ_holds c q x k (solution c q k) (solution_holds c q k fits)
over_holds op c q x k fits fits' = same_again_holds op c q x k fits fits'

-- ---- writing

-- the right side never traps, counts once at most, and gives what the variable and the constant do
pub record Writes (values : Values) (op : Op) (x : ℕ) (c : ℤ) (rhs : Rhs) : Type 0 where
  pub value : rhs_value values rhs ≡ value_by op (values x) c
  pub never : rhs_traps values rhs ≡ false
  pub counted : rhs_count rhs ≤ 1
  pub vars : rhs_vars rhs ≡ x ∷ []

module _ (values : Values) (fits : ValuesFit values) where
  -- the variable alone
  writes_alone : (op : Op) (x : ℕ) (c : ℤ) → values x ≡ value_by op (values x) c → Writes values op x c (Plain (Var x))
  writes_alone op x c is = record { value = is; never = refl; counted = omega arith; vars = refl }

  -- the variable and then the constant
  writes_right : (op : Op) (x : ℕ) (c : ℤ) → FitsSigned w64 c → is_dividing op ≡ false → value_of_op op (values x) c ≡ value_by op (values x) c → Writes values op x c (Binary op (Var x) (Const c))
  writes_right op x c low undivided is = record {
    value = ap (value_of_op op (values x)) (int_wrap_fits w64 c low) ∙ is;
    never = never_traps op (wrapped c) undivided;
    counted = le_refl 1;
    vars = refl;
  }

  -- the one where the constant is 0, and else the other
  writes_either : (op : Op) (x : ℕ) (c : ℤ) → FitsSigned w64 c → is_dividing op ≡ false → value_of_op op (values x) c ≡ value_by op (values x) c → value_by op (values x) (pos 0) ≡ values x
      → Writes values op x c (if int_eq c (pos 0) then Plain (Var x) else Binary op (Var x) (Const c))
  writes_either op x c low undivided is nothing = by (int_eq c (pos 0)) refl
    where
      by : (b : Bool) → int_eq c (pos 0) ≡ b → Writes values op x c (if b then Plain (Var x) else Binary op (Var x) (Const c))
      by true zero = writes_alone op x c (sym (ap (value_by op (values x)) ((Decides-int_eq c (pos 0)).0 zero) ∙ nothing))
      by false some = writes_right op x c low undivided is

  -- each operator
  pub writes : (op : Op) (x : ℕ) (c : ℤ) → FitsSigned w64 c → is_dividing op ≡ false → Writes values op x c (rhs_by op x c)
  writes Add x c low undivided = writes_either Add x c low refl refl (add_nothing (values x) (fits.fit x))
  writes Xor x c low undivided = writes_either Xor x c low refl refl (xor_nothing (values x) (fits.fit x))
  writes Sub x c low undivided = record { value = ap (λ z. value_of_op Sub z (values x)) (int_wrap_fits w64 c low); never = refl; counted = le_refl 1; vars = refl }
  writes op x c low undivided = writes_right op x c low undivided refl
