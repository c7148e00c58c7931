-- The surer what is known of the variables, the surer what is known of right sides and tests. For proofs only.
use Rattle.std.proofs.Common.{◌≡◌, ℕ, zero, suc, Bool, true, false, if◌then◌else◌, nat_eq, eqb-true, List, [], ◌∷◌, ℤ, Option, Some, None, refl, sym, ap, ◌∙◌, subst}
use Rattle.fix_solve.specs.Pointwise.{Pointwise}
use Rattle.mir_base.specs.declared.operators.Op.{Op}
use Rattle.mir_base.specs.declared.instructions.Operand.{Operand}
use Rattle.mir_base.specs.declared.instructions.Operand.TheVariants.{Var, Const}
use Rattle.mir_base.specs.declared.instructions.Rhs.{Rhs}
use Rattle.mir_base.specs.declared.instructions.Rhs.TheVariants.{Plain, Unary, Binary}
use Rattle.mir_base.specs.declared.operators.RelOp.{RelOp}
use Rattle.mir_base.specs.declared.instructions.Test as tests
use Rattle.mir_base.specs.declared.instructions.Test.TheVariants.{Rel, Holds, Fails}
use Rattle.mir_base.specs.Numbers.{wrapped, traps, value_of_op, value_of_un_op, relation_holds}
use Rattle.mir_base.specs.NumberLaws.{wrapped_fits}
use Rattle.cond_flow.specs.Rules.{RisingRules}
use Rattle.cond_const.specs.declared.known.Known.{Known}
use Rattle.cond_const.specs.declared.known.Known.TheVariants.{Fixed, Varying}
use Rattle.cond_const.specs.declared.identities.Identity.{Identity}
use Rattle.cond_const.specs.declared.identities.Identity.TheVariants.{Absent, Itself, Always}
use Rattle.cond_const.specs.Identities.{identity_same, identity_left, identity_right, IsIdentity}
use Rattle.cond_const.specs.States.{BelowKnown}
use Rattle.cond_const.specs.Folding.{known_at, resolved_as, resolved, by_identity, folded_binary, folded, known_of, known_rhs, relates_itself, decided_relation, decided, decided_test, may_be, fold_rules}
use Rattle.cond_const.specs.IdentityLaws.{same_keeps, right_keeps, left_keeps}
use Rattle.cond_const.specs.RelationLaws.{relation_same}
use Rattle.cond_const.specs.OrderLaws.{known_refl, known_top}

-- variable by variable
pub below_at : (xs ys : List Known) (x : ℕ) → Pointwise BelowKnown xs ys → BelowKnown (known_at xs x) (known_at ys x)
below_at [] [] x p = tt
below_at [] (y ∷ ys) x p = absurd p
below_at (k ∷ xs) [] x p = absurd p
below_at (k ∷ xs) (y ∷ ys) zero p = p.0
below_at (k ∷ xs) (y ∷ ys) (suc x) p = below_at xs ys x p.1

-- a constant result of a rule is also what the operator gives at a constant
rule_below : (r : Identity) (o : ℕ) (op : Op) (a b : ℤ) (v : ℤ) (rhs rhs' : Rhs)
    → IsIdentity r v op (wrapped a) (wrapped b) → known_of rhs ≡ Varying
    → BelowKnown
    (known_of (if traps op (wrapped b) then rhs' else Plain (Const (value_of_op op (wrapped a) (wrapped b)))))
    (known_of (by_identity r (Var o) rhs))
rule_below Absent o op a b v rhs rhs' keeps is =
    subst (BelowKnown
    (known_of (if traps op (wrapped b) then rhs' else Plain (Const (value_of_op op (wrapped a) (wrapped b)))))) (sym is)
    (known_top (known_of
    (if traps op (wrapped b) then rhs' else Plain (Const (value_of_op op (wrapped a) (wrapped b))))))
rule_below Itself o op a b v rhs rhs' keeps is =
    known_top (known_of (if traps op (wrapped b) then rhs' else Plain (Const (value_of_op op (wrapped a) (wrapped b)))))
rule_below (Always c) o op a b v rhs rhs' keeps is =
    subst (λ t. BelowKnown (known_of (if t then rhs' else Plain (Const (value_of_op op (wrapped a) (wrapped b)))))
    (Fixed (wrapped c))) (sym keeps.0) (ap wrapped keeps.1)

-- an operator on a variable and a constant
at_left : (op : Op) (x : ℕ) (b : ℤ) (k k' : Known) → BelowKnown k k'
    → BelowKnown (known_of (folded_binary op (resolved_as k x) (Const b)))
    (known_of (folded_binary op (resolved_as k' x) (Const b)))
at_left op x b (Fixed a) (Fixed a') p =
    subst (λ c. BelowKnown (known_of (folded_binary op (Const a) (Const b)))
    (known_of (folded_binary op (Const c) (Const b)))) p (known_refl _)
at_left op x b (Fixed a) Varying p =
    rule_below (identity_right op (wrapped b)) x op a b (wrapped a) _ _
    (right_keeps op (wrapped a) (wrapped b) (wrapped_fits a) (wrapped_fits b)) refl
at_left op x b Varying (Fixed a') p = absurd p
at_left op x b Varying Varying p = known_refl _

-- on a constant and a variable
at_right : (op : Op) (a : ℤ) (y : ℕ) (k k' : Known) → BelowKnown k k'
    → BelowKnown (known_of (folded_binary op (Const a) (resolved_as k y)))
    (known_of (folded_binary op (Const a) (resolved_as k' y)))
at_right op a y (Fixed b) (Fixed b') p =
    subst (λ c. BelowKnown (known_of (folded_binary op (Const a) (Const b)))
    (known_of (folded_binary op (Const a) (Const c)))) p (known_refl _)
at_right op a y (Fixed b) Varying p =
    rule_below (identity_left op (wrapped a)) y op a b (wrapped b) _ _
    (left_keeps op (wrapped b) (wrapped a) (wrapped_fits b) (wrapped_fits a)) refl
at_right op a y Varying (Fixed b') p = absurd p
at_right op a y Varying Varying p = known_refl _

-- two variables that are the same
at_same : (op : Op) (x y : ℕ) → nat_eq x y ≡ true → (k k' : Known) → BelowKnown k k'
    → BelowKnown (known_of (folded_binary op (resolved_as k x) (resolved_as k y)))
    (known_of (folded_binary op (resolved_as k' x) (resolved_as k' y)))
at_same op x y is (Fixed a) (Fixed a') p =
    subst (λ c. BelowKnown (known_of (folded_binary op (Const a) (Const a)))
    (known_of (folded_binary op (Const c) (Const c)))) p (known_refl _)
at_same op x y is (Fixed a) Varying p =
    subst (λ t. BelowKnown (known_of (folded_binary op (Const a) (Const a)))
    (known_of (if t then by_identity (identity_same op) (Var x) (Binary op (Var x) (Var y)) else Binary op (Var x)
    (Var y)))) (sym is)
    (rule_below (identity_same op) x op a a (wrapped a) (Binary op (Var x) (Var y)) _
    (same_keeps op (wrapped a) (wrapped_fits a)) refl)
at_same op x y is Varying (Fixed a') p = absurd p
at_same op x y is Varying Varying p = known_refl _

-- two variables that are not
apart_is : (op : Op) (x y : ℕ) (t : Bool) → nat_eq x y ≡ t → t ≡ false → (k : Known)
    → BelowKnown k (known_of (folded_binary op (Var x) (Var y)))
apart_is op x y t is off k =
    subst (λ u. BelowKnown k
    (known_of (if u then by_identity (identity_same op) (Var x) (Binary op (Var x) (Var y)) else Binary op (Var x)
    (Var y)))) (sym (is ∙ off)) (known_top k)

-- where the variables differ, the folded value rises with what is known of each
at_apart : (op : Op) (x y : ℕ) → nat_eq x y ≡ false → (k k' l l' : Known) → BelowKnown k k' → BelowKnown l l'
    → BelowKnown (known_of (folded_binary op (resolved_as k x) (resolved_as l y)))
    (known_of (folded_binary op (resolved_as k' x) (resolved_as l' y)))
at_apart op x y is k (Fixed a') (Fixed b) (Fixed b') p q =
    subst (λ c. BelowKnown (known_of (folded_binary op (resolved_as k x) (Const b)))
    (known_of (folded_binary op (Const a') (Const c)))) q (at_left op x b k (Fixed a') p)
at_apart op x y is k (Fixed a') Varying (Fixed b') p q = absurd q
at_apart op x y is (Fixed a) (Fixed a') l Varying p q =
    subst (λ c. BelowKnown (known_of (folded_binary op (Const a) (resolved_as l y)))
    (known_of (folded_binary op (Const c) (Var y)))) p (at_right op a y l Varying q)
at_apart op x y is Varying (Fixed a') l Varying p q = absurd p
at_apart op x y is k Varying (Fixed b) (Fixed b') p q =
    subst (λ c. BelowKnown (known_of (folded_binary op (resolved_as k x) (Const b)))
    (known_of (folded_binary op (Var x) (Const c)))) q (at_left op x b k Varying p)
at_apart op x y is k Varying Varying (Fixed b') p q = absurd q
at_apart op x y is k Varying l Varying p q = apart_is op x y false is refl _

-- on any two operands
binary_mono : (op : Op) (xs ys : List Known) (a b : Operand) → Pointwise BelowKnown xs ys
    → BelowKnown (known_of (folded_binary op (resolved xs a) (resolved xs b)))
    (known_of (folded_binary op (resolved ys a) (resolved ys b)))
binary_mono op xs ys (Const a) (Const b) p = known_refl _
binary_mono op xs ys (Const a) (Var y) p = at_right op a y (known_at xs y) (known_at ys y) (below_at xs ys y p)
binary_mono op xs ys (Var x) (Const b) p = at_left op x b (known_at xs x) (known_at ys x) (below_at xs ys x p)
binary_mono op xs ys (Var x) (Var y) p = cases (nat_eq x y) refl
  where
    cases : (t : Bool) → nat_eq x y ≡ t
        → BelowKnown (known_of (folded_binary op (resolved xs (Var x)) (resolved xs (Var y))))
        (known_of (folded_binary op (resolved ys (Var x)) (resolved ys (Var y))))
    cases true is =
        let same : x ≡ y = eqb-true x y is in
        subst (λ z. BelowKnown
        (known_of (folded_binary op (resolved_as (known_at xs x) x) (resolved_as (known_at xs z) y)))
        (known_of (folded_binary op (resolved_as (known_at ys x) x) (resolved_as (known_at ys z) y)))) same
        (at_same op x y is (known_at xs x) (known_at ys x) (below_at xs ys x p))
    cases false is =
        at_apart op x y is (known_at xs x) (known_at ys x) (known_at xs y) (known_at ys y) (below_at xs ys x p)
        (below_at xs ys y p)

-- a plain right side
plain_mono : (x : ℕ) (k k' : Known) → BelowKnown k k'
    → BelowKnown (known_of (Plain (resolved_as k x))) (known_of (Plain (resolved_as k' x)))
plain_mono x (Fixed a) (Fixed b) p = ap wrapped p
plain_mono x (Fixed a) Varying p = tt
plain_mono x Varying (Fixed b) p = absurd p
plain_mono x Varying Varying p = tt

-- the surer the state, the surer the right side
rhs_mono : (rhs : Rhs) (xs ys : List Known) → Pointwise BelowKnown xs ys → BelowKnown (known_rhs xs rhs) (known_rhs ys rhs)
rhs_mono (Plain (Const c)) xs ys p = refl
rhs_mono (Plain (Var x)) xs ys p = plain_mono x (known_at xs x) (known_at ys x) (below_at xs ys x p)
rhs_mono (Unary op (Const c)) xs ys p = refl
rhs_mono (Unary op (Var x)) xs ys p = cases (known_at xs x) (known_at ys x) (below_at xs ys x p)
  where
    cases : (k k' : Known) → BelowKnown k k'
        → BelowKnown (known_of (folded (Unary op (resolved_as k x)))) (known_of (folded (Unary op (resolved_as k' x))))
    cases (Fixed a) (Fixed b) q = ap (λ c. wrapped (value_of_un_op op (wrapped c))) q
    cases (Fixed a) Varying q = tt
    cases Varying (Fixed b) q = absurd q
    cases Varying Varying q = tt
rhs_mono (Binary op a b) xs ys p = binary_mono op xs ys a b p

-- ---- tests

-- what is decided stays decided
Firmer : Option Bool → Option Bool → Type 0
Firmer o None = Unit {0}
Firmer o (Some b) = o ≡ Some b

-- what is not decided asks for nothing
firm_none : (o : Option Bool) → Firmer o None
unfolding Firmer
firm_none o = tt

-- a decision is as firm as itself
firm_same : (o : Option Bool) → Firmer o o
unfolding Firmer
firm_same None = tt
firm_same (Some b) = refl

-- a relation of a variable and a constant
relation_left : (op : RelOp) (x : ℕ) (b : ℤ) (k k' : Known) → BelowKnown k k'
    → Firmer (decided_relation op (resolved_as k x) (Const b)) (decided_relation op (resolved_as k' x) (Const b))
unfolding Firmer
relation_left op x b (Fixed a) (Fixed a') p = ap (λ c. Some (relation_holds op (wrapped c) (wrapped b))) p
relation_left op x b k Varying p = tt
relation_left op x b Varying (Fixed a') p = absurd p

-- of a constant and a variable
relation_right : (op : RelOp) (a : ℤ) (y : ℕ) (k k' : Known) → BelowKnown k k'
    → Firmer (decided_relation op (Const a) (resolved_as k y)) (decided_relation op (Const a) (resolved_as k' y))
unfolding Firmer
relation_right op a y (Fixed b) (Fixed b') p = ap (λ c. Some (relation_holds op (wrapped a) (wrapped c))) p
relation_right op a y k Varying p = tt
relation_right op a y Varying (Fixed b') p = absurd p

-- of a variable and itself
relation_at_same : (op : RelOp) (x y : ℕ) → nat_eq x y ≡ true → (k k' : Known) → BelowKnown k k'
    → Firmer (decided_relation op (resolved_as k x) (resolved_as k y))
    (decided_relation op (resolved_as k' x) (resolved_as k' y))
unfolding Firmer
relation_at_same op x y is (Fixed a) (Fixed a') p = ap (λ c. Some (relation_holds op (wrapped c) (wrapped c))) p
relation_at_same op x y is (Fixed a) Varying p =
    subst (λ t. Firmer (Some (relation_holds op (wrapped a) (wrapped a)))
    (if t then Some (relates_itself op) else None)) (sym is) (ap Some (relation_same op (wrapped a)))
relation_at_same op x y is Varying (Fixed a') p = absurd p
relation_at_same op x y is Varying Varying p = firm_same _

-- of two variables
relation_apart : (op : RelOp) (x y : ℕ) → nat_eq x y ≡ false → (k k' l l' : Known) → BelowKnown k k' → BelowKnown l l'
    → Firmer (decided_relation op (resolved_as k x) (resolved_as l y))
    (decided_relation op (resolved_as k' x) (resolved_as l' y))
relation_apart op x y is k (Fixed a') (Fixed b) (Fixed b') p q =
    subst (λ c. Firmer (decided_relation op (resolved_as k x) (Const b)) (decided_relation op (Const a') (Const c))) q
    (relation_left op x b k (Fixed a') p)
relation_apart op x y is k (Fixed a') Varying (Fixed b') p q = absurd q
relation_apart op x y is k (Fixed a') l Varying p q = firm_none _
relation_apart op x y is k Varying l (Fixed b') p q = firm_none _
relation_apart op x y is k Varying l Varying p q =
    subst (λ t. Firmer (decided_relation op (resolved_as k x) (resolved_as l y))
    (if t then Some (relates_itself op) else None)) (sym is) (firm_none _)

-- of any two operands
relation_mono : (op : RelOp) (xs ys : List Known) (a b : Operand) → Pointwise BelowKnown xs ys
    → Firmer (decided_relation op (resolved xs a) (resolved xs b)) (decided_relation op (resolved ys a) (resolved ys b))
relation_mono op xs ys (Const a) (Const b) p = firm_same _
relation_mono op xs ys (Const a) (Var y) p = relation_right op a y (known_at xs y) (known_at ys y) (below_at xs ys y p)
relation_mono op xs ys (Var x) (Const b) p = relation_left op x b (known_at xs x) (known_at ys x) (below_at xs ys x p)
relation_mono op xs ys (Var x) (Var y) p = cases (nat_eq x y) refl
  where
    cases : (t : Bool) → nat_eq x y ≡ t
        → Firmer (decided_relation op (resolved xs (Var x)) (resolved xs (Var y)))
        (decided_relation op (resolved ys (Var x)) (resolved ys (Var y)))
    cases true is =
        let same : x ≡ y = eqb-true x y is in
        subst (λ z. Firmer (decided_relation op (resolved_as (known_at xs x) x) (resolved_as (known_at xs z) y))
        (decided_relation op (resolved_as (known_at ys x) x) (resolved_as (known_at ys z) y))) same
        (relation_at_same op x y is (known_at xs x) (known_at ys x) (below_at xs ys x p))
    cases false is =
        relation_apart op x y is (known_at xs x) (known_at ys x) (known_at xs y) (known_at ys y) (below_at xs ys x p)
        (below_at xs ys y p)

-- whether a test `if a` is decided rises with what is known of a
holds_mono : (x : ℕ) (k k' : Known) → BelowKnown k k'
    → Firmer (decided (Holds (resolved_as k x))) (decided (Holds (resolved_as k' x)))
unfolding Firmer
holds_mono x (Fixed a) (Fixed b) p = ap (λ c. decided (Holds (Const c))) p
holds_mono x k Varying p = tt
holds_mono x Varying (Fixed b) p = absurd p

-- whether a test for 0 is decided rises with what is known
fails_mono : (x : ℕ) (k k' : Known) → BelowKnown k k'
    → Firmer (decided (Fails (resolved_as k x))) (decided (Fails (resolved_as k' x)))
unfolding Firmer
fails_mono x (Fixed a) (Fixed b) p = ap (λ c. decided (Fails (Const c))) p
fails_mono x k Varying p = tt
fails_mono x Varying (Fixed b) p = absurd p

-- any test
test_mono : (test : tests.Test) (xs ys : List Known) → Pointwise BelowKnown xs ys
    → Firmer (decided_test xs test) (decided_test ys test)
test_mono (Rel op a b) xs ys p = relation_mono op xs ys a b p
test_mono (Holds (Const a)) xs ys p = firm_same _
test_mono (Holds (Var x)) xs ys p = holds_mono x (known_at xs x) (known_at ys x) (below_at xs ys x p)
test_mono (Fails (Const a)) xs ys p = firm_same _
test_mono (Fails (Var x)) xs ys p = fails_mono x (known_at xs x) (known_at ys x) (below_at xs ys x p)

-- a truth value that a test may have stays one that it may have
may_up : (truth : Bool) (o o' : Option Bool) → Firmer o o' → may_be truth o ≡ true → may_be truth o' ≡ true
unfolding Firmer
may_up truth o None f h = refl
may_up truth o (Some b) f h = subst (λ p. may_be truth p ≡ true) f h

-- all together
pub rising_rules : RisingRules BelowKnown fold_rules
rising_rules = record {
  right_side = rhs_mono;
  goes = λ test b xs ys p h. may_up b (decided_test xs test) (decided_test ys test) (test_mono test xs ys p) h;
  along = λ test b xs ys p. p;
  long = λ test b xs. refl;
}
