-- Each relation of a number with itself holds as that of 0 with itself does. For proofs only.
use Rattle.std.proofs.Common.{◌≡◌, true, false, not, ℤ, ap, arith, int_lt, int_le}
use Rattle.std.specs.Ordering.{int_eq}
use Rattle.std.proofs.lemmas.Int.{ints}
use Rattle.mir_base.specs.declared.operators.RelOp.{RelOp}
use Rattle.mir_base.specs.declared.operators.RelOp.TheVariants.{Eq, Ne, Lt, Le, Gt, Ge}
use Rattle.mir_base.specs.Numbers.{relation_holds}
use Rattle.cond_const.specs.Folding.{relates_itself}

-- numbers that are found equal are
pub int_eq_is : (a b : ℤ) → int_eq a b ≡ true → a ≡ b
int_eq_is a b h = grind (arith, ints)

-- the three tests that the relations are made of
pub int_eq_same : (a : ℤ) → int_eq a a ≡ true
int_eq_same a = grind (arith, ints)

-- below
pub int_lt_same : (a : ℤ) → int_lt a a ≡ false
int_lt_same a = grind (arith, ints)

-- at most
pub int_le_same : (a : ℤ) → int_le a a ≡ true
int_le_same a = grind (arith, ints)

-- a relation of a number with itself
pub relation_same : (op : RelOp) (a : ℤ) → relation_holds op a a ≡ relates_itself op
relation_same Eq a = int_eq_same a
relation_same Ne a = ap not (int_eq_same a)
relation_same Lt a = int_lt_same a
relation_same Le a = int_le_same a
relation_same Gt a = int_lt_same a
relation_same Ge a = int_le_same a
