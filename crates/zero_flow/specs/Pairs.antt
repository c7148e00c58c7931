-- The facts of results, and whether relations may hold, by whether each operand is 0. Cited by contracts.
use Rattle.std.specs.Prelude.{Bool, true, false, not, ◌&&◌, ◌||◌, if◌then◌else◌}
use Rattle.mir_base.specs.declared.operators.Op.{Op}
use Rattle.mir_base.specs.declared.operators.Op.TheVariants.{Add, Sub, Mul, Div, Mod, Min, Max, Eq, Ne, Lt, Le, Gt, Ge, Shl, Shr, Shra, And, Or, Xor}
use Rattle.mir_base.specs.declared.operators.UnOp.{UnOp}
use Rattle.mir_base.specs.declared.operators.UnOp.TheVariants.{Neg, Not}
use Rattle.mir_base.specs.declared.operators.RelOp.{RelOp}
use Rattle.mir_base.specs.declared.operators.RelOp.TheVariants.{Eq as Equal, Ne as Differ, Lt as Below, Le as AtMost, Gt as Above, Ge as AtLeast}
use Rattle.zero_flow.specs.declared.facts.ZeroFact.{ZeroFact}
use Rattle.zero_flow.specs.declared.facts.ZeroFact.TheVariants.{Never, Zero, NotZero, Any}
use Rattle.zero_flow.specs.ZeroFacts.{allows, fact_where, joined_zero_fact}

-- ---- two numbers, of each of which it is known whether it is 0

-- one of three facts: where both numbers are 0, where one of them is, and where neither is
abbrev pub by_zeros : ZeroFact → ZeroFact → ZeroFact → Bool → Bool → ZeroFact
by_zeros both one neither true true = both
by_zeros both one neither true false = one
by_zeros both one neither false true = one
by_zeros both one neither false false = neither

-- of a quotient or a remainder: there is none where the divisor is 0, since it traps
abbrev pub divided : Bool → Bool → ZeroFact
divided left true = Never
divided true false = Zero
divided false false = Any

-- of what is shifted
abbrev pub shifted : Bool → ZeroFact
shifted true = Zero
shifted false = Any

-- of an operator's value
abbrev pub op_pair : Op → Bool → Bool → ZeroFact
op_pair Add left right = by_zeros Zero NotZero Any left right
op_pair Sub left right = by_zeros Zero NotZero Any left right
op_pair Mul left right = by_zeros Zero Zero Any left right
op_pair Div left right = divided left right
op_pair Mod left right = divided left right
op_pair Min left right = by_zeros Zero Any NotZero left right
op_pair Max left right = by_zeros Zero Any NotZero left right
op_pair Eq left right = by_zeros NotZero Zero Any left right
op_pair Ne left right = by_zeros Zero NotZero Any left right
op_pair Lt left right = by_zeros Zero Any Any left right
op_pair Le left right = by_zeros NotZero Any Any left right
op_pair Gt left right = by_zeros Zero Any Any left right
op_pair Ge left right = by_zeros NotZero Any Any left right
op_pair Shl left right = shifted left
op_pair Shr left right = shifted left
op_pair Shra left right = shifted left
op_pair And left right = by_zeros Zero Zero Any left right
op_pair Or left right = by_zeros Zero NotZero NotZero left right
op_pair Xor left right = by_zeros Zero NotZero Any left right

-- of the value of an operator on one number
abbrev pub un_pair : UnOp → Bool → ZeroFact
un_pair Neg true = Zero
un_pair Neg false = NotZero
un_pair Not true = NotZero
un_pair Not false = Zero

-- both numbers are 0, or neither is
abbrev pub same_zeros : Bool → Bool → Bool
same_zeros left right = if left then right else not right

-- not both are
abbrev pub not_both : Bool → Bool → Bool
not_both left right = not (left && right)

-- a relation may have this truth value
abbrev pub relation_pair : RelOp → Bool → Bool → Bool → Bool
relation_pair Equal truth left right =
    if truth then same_zeros left right else not_both left right
relation_pair Differ truth left right =
    if truth then not_both left right else same_zeros left right
relation_pair Below truth left right = if truth then not_both left right else true
relation_pair AtMost truth left right = if truth then true else not_both left right
relation_pair Above truth left right = if truth then not_both left right else true
relation_pair AtLeast truth left right = if truth then true else not_both left right

-- ---- two facts

-- the fact, where it is allowed at all
abbrev pub where_allowed : Bool → ZeroFact → ZeroFact
where_allowed true fact = fact
where_allowed false fact = Never

-- what is known of a result, by what is known of it where the number is 0 and where it is not
abbrev pub over : ZeroFact → ZeroFact → ZeroFact → ZeroFact
over x at_zero elsewhere =
    joined_zero_fact (where_allowed (allows x true) at_zero)
    (where_allowed (allows x false) elsewhere)

-- the fact of an operator's value
abbrev pub zeros_of : Op → ZeroFact → ZeroFact → ZeroFact
zeros_of op x y =
    over x (over y (op_pair op true true) (op_pair op true false))
    (over y (op_pair op false true) (op_pair op false false))

-- of the value of an operator on one number
abbrev pub zeros_of_un : UnOp → ZeroFact → ZeroFact
zeros_of_un op x = over x (un_pair op true) (un_pair op false)

-- something is so where the number is 0, or where it is not, of those that the fact allows
abbrev pub any_of : ZeroFact → Bool → Bool → Bool
any_of x at_zero elsewhere = (allows x true && at_zero) || (allows x false && elsewhere)

-- a relation may have this truth value, where the first number is 0 or is not
abbrev pub may_left : RelOp → Bool → ZeroFact → Bool → Bool
may_left op truth y left =
    any_of y (relation_pair op truth left true) (relation_pair op truth left false)

-- and where the second is 0 or is not
abbrev pub may_right : RelOp → Bool → ZeroFact → Bool → Bool
may_right op truth x right =
    any_of x (relation_pair op truth true right) (relation_pair op truth false right)

-- by the facts of both
abbrev pub may_relate : RelOp → Bool → ZeroFact → ZeroFact → Bool
may_relate op truth x y = any_of x (may_left op truth y true) (may_left op truth y false)

-- the fact of the first where the relation has this truth value
abbrev pub left_fact : RelOp → Bool → ZeroFact → ZeroFact → ZeroFact
left_fact op truth x y =
    fact_where (allows x true && may_left op truth y true)
    (allows x false && may_left op truth y false)

-- and of the second
abbrev pub right_fact : RelOp → Bool → ZeroFact → ZeroFact → ZeroFact
right_fact op truth x y =
    fact_where (allows y true && may_right op truth x true)
    (allows y false && may_right op truth x false)
