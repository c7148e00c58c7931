-- What operands and right sides become names no other variables, and leaves divisions that may trap. For proofs only.
use Rattle.std.proofs.Common.{◌≡◌, ℕ, ◌<◌, ◌++◌, Bool, true, false, if◌then◌else◌, nat_eq, List, ℤ, pos, refl, ap}
use Rattle.mir_base.specs.declared.operators.Op.{Op}
use Rattle.mir_base.specs.declared.operators.Op.TheVariants.{Add, Sub, Mul, Div, Mod, Min, Max, Eq, Ne, Lt, Le, Gt, Ge, Shl, Shr, Shra, And, Or, Xor}
use Rattle.mir_base.specs.declared.instructions.Operand.{Operand}
use Rattle.mir_base.specs.declared.instructions.Operand.TheVariants.{Var, Const}
use Rattle.mir_base.specs.declared.instructions.Rhs.{Rhs}
use Rattle.mir_base.specs.declared.instructions.Rhs.TheVariants.{Plain, Unary, Binary}
use Rattle.mir_base.specs.Expressions.{may_be_zero}
use Rattle.mir_base.specs.Numbers.{is_dividing, wrapped, traps, value_of_op}
use Rattle.mir_base.specs.Shapes.{AllBelow, operand_vars, rhs_vars}
use Rattle.mir_base.specs.BelowLaws.{all_below_left, all_below_right, all_below_append}
use Rattle.cond_flow.specs.Rules.{LawfulRules, RewritingRules, open_outside}
use Rattle.cond_const.specs.declared.known.Known.{Known}
use Rattle.cond_const.specs.declared.known.Known.TheVariants.{Fixed, Varying}
use Rattle.cond_const.specs.declared.identities.Identity.{Identity}
use Rattle.cond_const.specs.declared.identities.Identity.TheVariants.{Absent, Itself, Always}
use Rattle.cond_const.specs.Identities.{identity_same, identity_left, identity_right}
use Rattle.cond_const.specs.States.{BelowKnown, HasValue, is_varying}
use Rattle.cond_const.specs.Folding.{decoded_known, number_of, known_at, resolved_as, resolved, resolved_rhs, by_identity, folded_binary, folded, folded_rhs, fold_rules}
use Rattle.cond_const.specs.RelationLaws.{int_eq_is}
use Rattle.cond_const.specs.OrderLaws.{order_rules}
use Rattle.cond_const.specs.RisingLaws.{rising_rules}
use Rattle.cond_const.specs.ReadingLaws.{frame_rules}
use Rattle.cond_const.specs.SoundLaws.{resolved_value, rhs_folds, sound_rules}

-- ---- variables

module _ (k : ℕ) where
  as_below : (known : Known) (x : ℕ) → x < k → AllBelow k (operand_vars (resolved_as known x))
  as_below (Fixed c) x low = tt
  as_below Varying x low = (low, tt)

  operand_below : (ks : List Known) (a : Operand) → AllBelow k (operand_vars a) → AllBelow k (operand_vars (resolved ks a))
  operand_below ks (Var x) low = as_below (known_at ks x) x low.0
  operand_below ks (Const c) low = tt

  identity_below : (identity : Identity) (a : Operand) (rhs : Rhs) → AllBelow k (operand_vars a) → AllBelow k (rhs_vars rhs) → AllBelow k (rhs_vars (by_identity identity a rhs))
  identity_below Absent a rhs low low' = low'
  identity_below Itself a rhs low low' = low
  identity_below (Always c) a rhs low low' = tt

  chosen_below : (b : Bool) (one two : Rhs) → AllBelow k (rhs_vars one) → AllBelow k (rhs_vars two) → AllBelow k (rhs_vars (if b then one else two))
  chosen_below true one two low low' = low
  chosen_below false one two low low' = low'

  binary_below : (op : Op) (a b : Operand) → AllBelow k (operand_vars a ++ operand_vars b) → AllBelow k (rhs_vars (folded_binary op a b))
  binary_below op (Const a) (Const b) low = chosen_below (traps op (wrapped b)) (Binary op (Const a) (Const b)) (Plain (Const (value_of_op op (wrapped a) (wrapped b)))) tt tt
  binary_below op (Var x) (Const b) low = identity_below (identity_right op (wrapped b)) (Var x) (Binary op (Var x) (Const b)) low low
  binary_below op (Const a) (Var y) low = identity_below (identity_left op (wrapped a)) (Var y) (Binary op (Const a) (Var y)) low low
  binary_below op (Var x) (Var y) low = chosen_below (nat_eq x y) (by_identity (identity_same op) (Var x) (Binary op (Var x) (Var y))) (Binary op (Var x) (Var y)) (identity_below (identity_same op) (Var x) (Binary op (Var x) (Var y)) (low.0, tt) low) low

  pair_below : (ks : List Known) (a b : Operand) → AllBelow k (operand_vars a ++ operand_vars b) → AllBelow k (operand_vars (resolved ks a) ++ operand_vars (resolved ks b))
  pair_below ks a b low =
      all_below_append k (operand_vars (resolved ks a)) (operand_vars (resolved ks b)) (operand_below ks a (all_below_left k (operand_vars a) (operand_vars b) low)) (operand_below ks b (all_below_right k (operand_vars a) (operand_vars b) low))

  unary_below : (rhs : Rhs) → AllBelow k (rhs_vars rhs) → AllBelow k (rhs_vars (folded rhs))
  unary_below (Plain a) low = low
  unary_below (Unary op (Var x)) low = low
  unary_below (Unary op (Const c)) low = tt
  unary_below (Binary op a b) low = binary_below op a b low

  resolved_below : (ks : List Known) (rhs : Rhs) → AllBelow k (rhs_vars rhs) → AllBelow k (rhs_vars (resolved_rhs ks rhs))
  resolved_below ks (Plain a) low = operand_below ks a low
  resolved_below ks (Unary op a) low = operand_below ks a low
  resolved_below ks (Binary op a b) low = pair_below ks a b low

  rhs_below : (ks : List Known) (rhs : Rhs) → AllBelow k (rhs_vars rhs) → AllBelow k (rhs_vars (folded_rhs ks rhs))
  rhs_below ks rhs low = unary_below (resolved_rhs ks rhs) (resolved_below ks rhs low)

-- ---- divisions

-- a division whose divisor may be 0 stays
chosen_stays : (op : Op) (x y : ℕ) (b : Bool) → (if b then Binary op (Var x) (Var y) else Binary op (Var x) (Var y)) ≡ Binary op (Var x) (Var y)
chosen_stays op x y true = refl
chosen_stays op x y false = refl

-- of two constants, the second 0
constants_stay : (op : Op) (a b : ℤ) (t : Bool) → t ≡ true → (if t then Binary op (Const a) (Const b) else Plain (Const (value_of_op op (wrapped a) (wrapped b)))) ≡ Binary op (Const a) (Const b)
constants_stay op a b true e = refl
constants_stay op a b false e = absurd (cc)

-- a constant that may be 0 is 0
zero_is : (c : ℤ) → may_be_zero (Const c) ≡ true → wrapped c ≡ pos 0
zero_is c e = int_eq_is (wrapped c) (pos 0) e

-- whatever the operands are
division_stays : (op : Op) (a b : Operand) → is_dividing op ≡ true → may_be_zero b ≡ true → folded_binary op a b ≡ Binary op a b
division_stays Div (Const a) (Const b) divides low = constants_stay Div a b (traps Div (wrapped b)) low
division_stays Div (Var x) (Const b) divides low = ap (λ c. by_identity (identity_right Div c) (Var x) (Binary Div (Var x) (Const b))) (zero_is b low)
division_stays Div (Const a) (Var y) divides low = refl
division_stays Div (Var x) (Var y) divides low = chosen_stays Div x y (nat_eq x y)
division_stays Mod (Const a) (Const b) divides low = constants_stay Mod a b (traps Mod (wrapped b)) low
division_stays Mod (Var x) (Const b) divides low = ap (λ c. by_identity (identity_right Mod c) (Var x) (Binary Mod (Var x) (Const b))) (zero_is b low)
division_stays Mod (Const a) (Var y) divides low = refl
division_stays Mod (Var x) (Var y) divides low = chosen_stays Mod x y (nat_eq x y)
division_stays Add a b divides low = cc
division_stays Sub a b divides low = cc
division_stays Mul a b divides low = cc
division_stays Min a b divides low = cc
division_stays Max a b divides low = cc
division_stays Eq a b divides low = cc
division_stays Ne a b divides low = cc
division_stays Lt a b divides low = cc
division_stays Le a b divides low = cc
division_stays Gt a b divides low = cc
division_stays Ge a b divides low = cc
division_stays Shl a b divides low = cc
division_stays Shr a b divides low = cc
division_stays Shra a b divides low = cc
division_stays And a b divides low = cc
division_stays Or a b divides low = cc
division_stays Xor a b divides low = cc

-- ---- the rules

-- what is kept of what is known stands for it
pub known_stands : (k : Known) → decoded_known (is_varying k) (number_of k) ≡ k
known_stands (Fixed c) = refl
known_stands Varying = refl

-- what they become does what it did
rewriting_rules : RewritingRules HasValue fold_rules
rewriting_rules = record {
  operand_same = resolved_value;
  right_side_same = rhs_folds;
  operand_below = operand_below;
  right_side_below = rhs_below;
  divides = λ known op a b divides low. division_stays op (resolved known a) (resolved known b) divides low;
  vanishes = λ known a low. low;
}

-- all laws
pub fold_laws : LawfulRules BelowKnown HasValue fold_rules
fold_laws = record { order = order_rules; rising = rising_rules; sound = sound_rules; rewriting = rewriting_rules; frame = frame_rules }

-- nothing is known outside
pub fold_open : fold_rules.outside ≡ open_outside
fold_open = refl
