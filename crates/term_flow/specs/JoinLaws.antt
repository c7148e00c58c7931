-- What a right side becomes does what it does, and reads no other variables than the right side that was held.
use Rattle.std.proofs.Common.{◌≡◌, ℕ, ◌≤◌, Bool, true, false, not, if◌then◌else◌, ℤ, pos, List, [], ◌∷◌, Option, Some, None, option_map, refl, sym, ap, ◌∙◌, subst, arith, le_refl, FitsSigned, w64, int_lt, int_le}
use Rattle.std.specs.Ordering.{int_eq}
use Rattle.std.proofs.lemmas.Bool.Decides.{Decides-int_eq}
use Rattle.std.proofs.lemmas.Int.{int_wrap_fits, ints}
use Rattle.std.proofs.lemmas.Option.{same_Some}
use Rattle.mir_base.specs.declared.operators.Op.{Op}
use Rattle.mir_base.specs.declared.operators.Op.TheVariants.{Eq, Ne, Lt, Le, Gt, Ge}
use Rattle.mir_base.specs.declared.operators.UnOp.TheVariants.{Neg, Not}
use Rattle.mir_base.specs.declared.instructions.Operand.{Operand}
use Rattle.mir_base.specs.declared.instructions.Operand.TheVariants.{Var, Const}
use Rattle.mir_base.specs.declared.instructions.Rhs.{Rhs}
use Rattle.mir_base.specs.declared.instructions.Rhs.TheVariants.{Plain, Unary, Binary}
use Rattle.mir_base.specs.Expressions.{rhs_count, rhs_traps, rhs_value}
use Rattle.mir_base.specs.Frames.{Values}
use Rattle.mir_base.specs.FrameLaws.{ValuesFit}
use Rattle.mir_base.specs.NumberLaws.{truth_fits}
use Rattle.mir_base.specs.Numbers.{is_dividing, truth, value_of_op, wrapped}
use Rattle.mir_base.specs.Shapes.{AllBelow, operand_vars, rhs_vars}
use Rattle.mir_base.specs.Units.{operand_value}
use Rattle.term_flow.specs.declared.reading.ByConstant.{ByConstant}
use Rattle.term_flow.specs.Terms.{value_by, comparison, denied_op, denied_rhs, first_of_both, joined_to, of_one, of_other, of_truth, of_zero, settled, over_by, over_read, read_rhs, rhs_by, rhs_from}
use Rattle.term_flow.specs.NumberLaws.{eq_turned}
use Rattle.term_flow.specs.TermLaws.{IfOver, over_holds, reads, writes, zero_is}

-- ---- comparisons

-- a truth value is its double negation
twice : (b : Bool) → b ≡ not (not b)
twice true = refl
twice false = refl

-- a number is not below another where that is at most it
below_denied : (a b : ℤ) → int_le b a ≡ not (int_lt a b)
below_denied a b = grind (arith, ints)

-- and not at most another where that is below it
at_most_denied : (a b : ℤ) → int_lt b a ≡ not (int_le a b)
at_most_denied a b = grind (arith, ints)

-- one operator gives the truth value, and the other its contrary; neither divides
record AreContrary (op other : Op) (a b : ℤ) : Type 0 where
  holds : Bool
  is : value_of_op op a b ≡ truth holds
  other_is : value_of_op other a b ≡ truth (not holds)
  undivided : is_dividing op ≡ false
  other_undivided : is_dividing other ≡ false

-- so it is where there is such an operator
abbrev IfContrary : Op → ℤ → ℤ → Option Op → Type 0
IfContrary op a b None = Unit {0}
IfContrary op a b (Some other) = AreContrary op other a b

-- each comparison
contrary : (op : Op) (a b : ℤ) → IfContrary op a b (denied_op op)
contrary Eq a b = record { holds = int_eq a b; is = refl; other_is = refl; undivided = refl; other_undivided = refl }
contrary Ne a b = record { holds = not (int_eq a b); is = refl; other_is = ap truth (twice (int_eq a b)); undivided = refl; other_undivided = refl }
contrary Lt a b = record { holds = int_lt a b; is = refl; other_is = ap truth (below_denied a b); undivided = refl; other_undivided = refl }
contrary Le a b = record { holds = int_le a b; is = refl; other_is = ap truth (at_most_denied a b); undivided = refl; other_undivided = refl }
contrary Gt a b = record { holds = int_lt b a; is = refl; other_is = ap truth (below_denied b a); undivided = refl; other_undivided = refl }
contrary Ge a b = record { holds = int_le b a; is = refl; other_is = ap truth (at_most_denied b a); undivided = refl; other_undivided = refl }
contrary _ a b = tt

-- the right side never traps, counts once at most, gives this number and reads no other variables than these
pub record Gives (values : Values) (rhs : Rhs) (z : ℤ) (vars : List ℕ) : Type 0 where
  pub value : rhs_value values rhs ≡ z
  pub never : rhs_traps values rhs ≡ false
  pub counted : rhs_count rhs ≤ 1
  pub reads : (k : ℕ) → AllBelow k vars → AllBelow k (rhs_vars rhs)

-- the one gives the truth value, and the other its contrary
record AreDenied (values : Values) (rhs other : Rhs) : Type 0 where
  holds : Bool
  is : Gives values rhs (truth holds) (rhs_vars rhs)
  other_is : Gives values other (truth (not holds)) (rhs_vars rhs)

-- an operator that does not divide never traps
undivided_gives : (values : Values) (op : Op) (a b : Operand) (z : ℤ) → is_dividing op ≡ false → value_of_op op (operand_value values a) (operand_value values b) ≡ z → Gives values (Binary op a b) z (rhs_vars (Binary op a b))
undivided_gives values op a b z undivided is = record { value = is; never = rw undivided refl; counted = le_refl 1; reads = λ k below. below }

module _ (values : Values) where
  -- of two operands
  binary_denied : (op : Op) (a b : Operand) (other : Rhs) → denied_rhs (Binary op a b) ≡ Some other → AreDenied values (Binary op a b) other
  binary_denied op a b other e = by (denied_op op) (contrary op (operand_value values a) (operand_value values b)) e
    where
      by : (o : Option Op) → IfContrary op (operand_value values a) (operand_value values b) o → option_map (λ denied. Binary denied a b) o ≡ Some other → AreDenied values (Binary op a b) other
      by None is f = cc
      by (Some denied) is f = subst (AreDenied values (Binary op a b)) (same_Some (Binary denied a b) other f) (record {
        holds = is.holds;
        is = undivided_gives values op a b (truth is.holds) is.undivided is.is;
        other_is =
            let other = undivided_gives values denied a b (truth (not is.holds)) is.other_undivided is.other_is in
            record { value = other.value; never = other.never; counted = other.counted; reads = other.reads };
      })

  -- of an operand with the constant 0 the variables are its own
  alone : (a : Operand) → rhs_vars (Binary Ne a (Const (pos 0))) ≡ operand_vars a
  alone (Var x) = refl
  alone (Const c) = refl

  -- any comparison
  rhs_denied : (rhs other : Rhs) → denied_rhs rhs ≡ Some other → AreDenied values rhs other
  rhs_denied (Plain a) other e = cc
  rhs_denied (Unary Neg a) other e = cc
  rhs_denied (Unary Not a) other e = subst (AreDenied values (Unary Not a)) (same_Some (Binary Ne a (Const (pos 0))) other e) (record {
    holds = int_eq (operand_value values a) (pos 0);
    is = record { value = refl; never = refl; counted = le_refl 1; reads = λ k below. below };
    other_is = record { value = ap (λ z. truth (not (int_eq (operand_value values a) z))) zero_is; never = refl; counted = le_refl 1; reads = λ k. subst (AllBelow k) (sym (alone a)) };
  })
  rhs_denied (Binary op a b) other e = binary_denied op a b other e

-- ---- a comparison that is compared with a constant

-- a truth value is 0 where the contrary holds
truth_zero : (b : Bool) → truth (int_eq (truth b) (pos 0)) ≡ truth (not b)
truth_zero true = refl
truth_zero false = refl

-- and not 0 where it holds
truth_some : (b : Bool) → truth (not (int_eq (truth b) (pos 0))) ≡ truth b
truth_some true = refl
truth_some false = refl

-- it is 1 where it holds
truth_one : (b : Bool) → truth (int_eq (truth b) (pos 1)) ≡ truth b
truth_one true = refl
truth_one false = refl

-- and not 1 where the contrary does
truth_less : (b : Bool) → truth (not (int_eq (truth b) (pos 1))) ≡ truth (not b)
truth_less true = refl
truth_less false = refl

-- it is no other number
truth_other : (b : Bool) (c : ℤ) → int_eq c (pos 0) ≡ false → int_eq c (pos 1) ≡ false → int_eq (truth b) c ≡ false
truth_other true c some more = eq_turned (pos 1) c ∙ more
truth_other false c some more = eq_turned (pos 0) c ∙ some

-- a truth value as a constant
constant_truth : (b : Bool) → wrapped (truth b) ≡ truth b
constant_truth b = int_wrap_fits w64 (truth b) (truth_fits b)

module _ (values : Values) (held : Rhs) where
  -- a comparison itself
  comparison_gives : (new : Rhs) → comparison held ≡ Some new → (f : ℤ → ℤ) → ((b : Bool) → f (truth b) ≡ truth b) → Gives values new (f (rhs_value values held)) (rhs_vars held)
  comparison_gives new e f is = by (denied_rhs held) refl e
    where
      by : (o : Option Rhs) → denied_rhs held ≡ o → option_map (λ denied. held) o ≡ Some new → Gives values new (f (rhs_value values held)) (rhs_vars held)
      by None there g = cc
      by (Some other) there g =
          let h = rhs_denied values held other there in
          subst (λ r. Gives values r (f (rhs_value values held)) (rhs_vars held)) (same_Some held new g)
          (record { value = h.is.value ∙ sym (ap f h.is.value ∙ is h.holds); never = h.is.never; counted = h.is.counted; reads = h.is.reads })

  -- its contrary
  denied_gives : (new : Rhs) → denied_rhs held ≡ Some new → (f : ℤ → ℤ) → ((b : Bool) → f (truth b) ≡ truth (not b)) → Gives values new (f (rhs_value values held)) (rhs_vars held)
  denied_gives new e f is =
      let h = rhs_denied values held new e in
      record { value = h.other_is.value ∙ sym (ap f h.is.value ∙ is h.holds); never = h.other_is.never; counted = h.other_is.counted; reads = h.other_is.reads }

  -- a truth value for any comparison
  settled_gives : (a : Bool) (new : Rhs) → settled (truth a) held ≡ Some new → (f : ℤ → ℤ) → ((b : Bool) → f (truth b) ≡ truth a) → Gives values new (f (rhs_value values held)) (rhs_vars held)
  settled_gives a new e f is = by (denied_rhs held) refl e
    where
      by : (o : Option Rhs) → denied_rhs held ≡ o → option_map (λ denied. Plain (Const (truth a))) o ≡ Some new → Gives values new (f (rhs_value values held)) (rhs_vars held)
      by None there g = cc
      by (Some other) there g =
          let h = rhs_denied values held other there in
          subst (λ r. Gives values r (f (rhs_value values held)) (rhs_vars held)) (same_Some (Plain (Const (truth a))) new g)
          (record { value = constant_truth a ∙ sym (ap f h.is.value ∙ is h.holds); never = refl; counted = omega arith; reads = λ k below. tt })

  -- what the operator gives of it and of 0
  of_zero_gives : (op : Op) (new : Rhs) → of_zero op held ≡ Some new → Gives values new (value_by op (rhs_value values held) (pos 0)) (rhs_vars held)
  of_zero_gives Eq new e = denied_gives new e (λ z. truth (int_eq z (pos 0))) truth_zero
  of_zero_gives Ne new e = comparison_gives new e (λ z. truth (not (int_eq z (pos 0)))) truth_some
  of_zero_gives _ new e = cc

  -- and of 1
  of_one_gives : (op : Op) (new : Rhs) → of_one op held ≡ Some new → Gives values new (value_by op (rhs_value values held) (pos 1)) (rhs_vars held)
  of_one_gives Eq new e = comparison_gives new e (λ z. truth (int_eq z (pos 1))) truth_one
  of_one_gives Ne new e = denied_gives new e (λ z. truth (not (int_eq z (pos 1)))) truth_less
  of_one_gives _ new e = cc

  -- and of any other number
  of_other_gives : (op : Op) (c : ℤ) (new : Rhs) → int_eq c (pos 0) ≡ false → int_eq c (pos 1) ≡ false → of_other op held ≡ Some new → Gives values new (value_by op (rhs_value values held) c) (rhs_vars held)
  of_other_gives Eq c new some more e = settled_gives false new e (λ z. truth (int_eq z c)) (λ b. ap truth (truth_other b c some more))
  of_other_gives Ne c new some more e = settled_gives true new e (λ z. truth (not (int_eq z c))) (λ b. ap (λ t. truth (not t)) (truth_other b c some more))
  of_other_gives _ c new some more e = cc

  -- of any constant
  of_truth_gives : (op : Op) (c : ℤ) (new : Rhs) → of_truth op c held ≡ Some new → Gives values new (value_by op (rhs_value values held) c) (rhs_vars held)
  of_truth_gives op c new e = by (int_eq c (pos 0)) (int_eq c (pos 1)) refl refl e
    where
      by : (a b : Bool) → int_eq c (pos 0) ≡ a → int_eq c (pos 1) ≡ b → (if a then of_zero op held else (if b then of_one op held else of_other op held)) ≡ Some new
          → Gives values new (value_by op (rhs_value values held) c) (rhs_vars held)
      by true b zero more f =
          subst (λ d. Gives values new (value_by op (rhs_value values held) d) (rhs_vars held)) (sym ((Decides-int_eq c (pos 0)).0 zero)) (of_zero_gives op new f)
      by false true some one f =
          subst (λ d. Gives values new (value_by op (rhs_value values held) d) (rhs_vars held)) (sym ((Decides-int_eq c (pos 1)).0 one)) (of_one_gives op new f)
      by false false some more f = of_other_gives op c new some more f

-- ---- an operator with a constant on what the variable holds

module _ (values : Values) (fits : ValuesFit values) (t : ByConstant) (low : FitsSigned w64 t.constant) (held : Rhs) where
  -- where that is a variable and a constant too
  over_gives : (inner : ByConstant) → read_rhs held ≡ Some inner → (o : Option ByConstant) → IfOver (λ v. value_by t.op (value_by inner.op v inner.constant) t.constant) inner.var o
      → (new : Rhs) → rhs_from o ≡ Some new → Gives values new (value_by t.op (rhs_value values held) t.constant) (rhs_vars held)
  over_gives inner is None over new e = cc
  over_gives inner is (Some s) over new e =
      let r = reads values held inner is in
      let w = writes values fits s.op s.var s.constant over.fits over.undivided in
      subst (λ rhs. Gives values rhs (value_by t.op (rhs_value values held) t.constant) (rhs_vars held)) (same_Some (rhs_by s.op s.var s.constant) new e)
      (record {
        value = w.value ∙ ap (λ y. value_by s.op (values y) s.constant) over.var_is ∙ sym (over.gives (values inner.var) (fits.fit inner.var)) ∙ ap (λ z. value_by t.op z t.constant) (sym r.value);
        never = w.never;
        counted = w.counted;
        reads = λ k. subst (AllBelow k) (sym (w.vars ∙ ap (λ y. y ∷ []) over.var_is ∙ sym r.vars));
      })

  -- any right side
  pub held_gives : (new : Rhs) → joined_to t (Some held) ≡ Some new → Gives values new (value_by t.op (rhs_value values held) t.constant) (rhs_vars held)
  held_gives new e = by (of_truth t.op t.constant held) refl e
    where
      inside : (o : Option ByConstant) → read_rhs held ≡ o → rhs_from (over_read t o) ≡ Some new → Gives values new (value_by t.op (rhs_value values held) t.constant) (rhs_vars held)
      inside None is f = cc
      inside (Some inner) is f =
          over_gives inner is (over_by t.op t.constant inner.op inner.var inner.constant)
          (over_holds t.op t.constant inner.op inner.var inner.constant low (reads values held inner is).fits) new f

      by : (o : Option Rhs) → of_truth t.op t.constant held ≡ o → first_of_both o (rhs_from (over_read t (read_rhs held))) ≡ Some new → Gives values new (value_by t.op (rhs_value values held) t.constant) (rhs_vars held)
      by (Some rhs) is f = of_truth_gives values held t.op t.constant new (is ∙ f)
      by None is f = inside (read_rhs held) refl f

-- so a right side of a variable and a constant, and what it becomes where its variable has the value of what it holds
pub joined_gives : (values : Values) → ValuesFit values → (rhs : Rhs) (t : ByConstant) → read_rhs rhs ≡ Some t → (held new : Rhs) → joined_to t (Some held) ≡ Some new → values t.var ≡ rhs_value values held
    → Gives values new (rhs_value values rhs) (rhs_vars held)
joined_gives values fits rhs t is held new e agrees =
    let r = reads values rhs t is in
    let g = held_gives values fits t r.fits held new e in
    record { value = g.value ∙ ap (λ z. value_by t.op z t.constant) (sym agrees) ∙ sym r.value; never = g.never; counted = g.counted; reads = g.reads }
