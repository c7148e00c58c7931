-- What operands and right sides become by the facts of the variables, and the rules of bounds. Cited by contracts.
use Rattle.std.specs.Prelude.{ℕ, ℤ, pos, Bool, false, if◌then◌else◌, ◌&&◌, List, int_lt, int_le}
use Rattle.std.specs.Ordering.{int_eq}
use Rattle.mir_base.specs.declared.operators.Op.{Op}
use Rattle.mir_base.specs.declared.operators.Op.TheVariants.{Mod, Min, Max, Ne, And, Or}
use Rattle.mir_base.specs.declared.instructions.Operand.{Operand}
use Rattle.mir_base.specs.declared.instructions.Operand.TheVariants.{Var, Const}
use Rattle.mir_base.specs.declared.instructions.Rhs.{Rhs}
use Rattle.mir_base.specs.declared.instructions.Rhs.TheVariants.{Plain, Unary, Binary}
use Rattle.mir_base.specs.Numbers.{is_dividing}
use Rattle.bounds.specs.declared.facts.Fact.{Fact}
use Rattle.bounds.specs.declared.facts.Fact.TheVariants.{Never, Fixed, Between}
use Rattle.bounds.specs.Ends.{end_value}
use Rattle.bounds.specs.Facts.{fact_rank, high_of, joined_fact, low_of}
use Rattle.bounds.specs.Bounding.{bounds_of}
use Rattle.bounds.specs.Edges.{anything, fact_at, fact_of, fact_of_rhs, facts_along, may_go}
use Rattle.cond_flow.specs.Rules.{Rules, open_outside}

-- the variable, or the number that it is known to be
abbrev pub number_or : Fact → ℕ → Operand
number_or Never x = Var x
number_or (Fixed c) x = Const c
number_or (Between e f) x = Var x

-- the operand, or the number that its variable is known to be
abbrev pub bounded_operand : List Fact → Operand → Operand
bounded_operand facts (Var x) = number_or (fact_at facts x) x
bounded_operand facts (Const c) = Const c

-- the fact leaves 0 in
abbrev pub has_zero : Fact → Bool
has_zero x = int_le (low_of x) (pos 0) && int_le (pos 0) (high_of x)

-- the operand may be 0
abbrev pub may_vanish : List Fact → Operand → Bool
may_vanish facts a = has_zero (fact_of facts a)

-- ---- what an operator leaves as it is

-- it is this number
abbrev pub is_number : Fact → ℤ → Bool
is_number Never z = false
is_number (Fixed c) z = int_eq c z
is_number (Between e f) z = false

-- the first is not negative, and the second is one number, which has all bits of the high end of the first
abbrev pub has_ones : Fact → Fact → Bool
has_ones (Between e f) (Fixed m) =
    int_le (pos 0) (end_value e)
    && is_number (bounds_of And (Fixed m) (Fixed (end_value f))) (end_value f)
has_ones (Between e f) Never = false
has_ones (Between e f) (Between g h) = false
has_ones Never y = false
has_ones (Fixed c) y = false

-- it holds of 0 alone
abbrev pub is_zero : Fact → Bool
is_zero x = int_le (pos 0) (low_of x) && int_le (high_of x) (pos 0)

-- it holds of 0 and 1 alone
abbrev pub is_truth : Fact → Bool
is_truth x = int_le (pos 0) (low_of x) && int_le (high_of x) (pos 1)

-- the operator gives its first operand: a remainder by what is greater, the lesser and the greater where it is known
-- which, `and` with all bits that it may have, and a truth value compared with 0
abbrev pub gives_first : Op → Fact → Fact → Bool
gives_first Mod x y = int_le (pos 0) (low_of x) && int_lt (high_of x) (low_of y)
gives_first Min x y = int_le (high_of x) (low_of y)
gives_first Max x y = int_le (high_of y) (low_of x)
gives_first And x y = has_ones x y
gives_first Or x y = is_zero y
gives_first Ne x y = is_truth x && is_zero y
gives_first _ x y = false

-- the operator gives its second operand
abbrev pub gives_second : Op → Fact → Fact → Bool
gives_second Min x y = int_le (high_of y) (low_of x)
gives_second Max x y = int_le (high_of x) (low_of y)
gives_second And x y = has_ones y x
gives_second Or x y = is_zero x
gives_second Ne x y = is_truth y && is_zero x
gives_second _ x y = false

-- an operator on two operands of which these facts hold: a copy of the operand that it gives
abbrev pub copied : Op → Operand → Operand → Fact → Fact → Rhs
copied op a b x y =
    if gives_first op x y then Plain a else if gives_second op x y then Plain b else Binary op a b

-- the number that a right side is known to be, in the place of the right side
abbrev pub number_of : Fact → Rhs → Rhs
number_of Never rhs = rhs
number_of (Fixed c) rhs = Plain (Const c)
number_of (Between e f) rhs = rhs

-- a division stays whose divisor may be 0
abbrev pub bounded_binary : Op → Operand → Operand → Fact → Fact → Fact → Rhs
bounded_binary op a b x y result =
    if is_dividing op && has_zero y then Binary op a b else number_of result (copied op a b x y)

-- what a right side becomes: its number, or a copy of an operand, and else its operands are replaced
abbrev pub bounded_rhs : List Fact → Rhs → Rhs
bounded_rhs facts (Plain a) = Plain (bounded_operand facts a)
bounded_rhs facts (Unary op a) =
    number_of (fact_of_rhs facts (Unary op a)) (Unary op (bounded_operand facts a))
bounded_rhs facts (Binary op a b) =
    bounded_binary op (bounded_operand facts a) (bounded_operand facts b)
    (fact_of facts a) (fact_of facts b)
    (fact_of_rhs facts (Binary op a b))

-- ---- the rules

-- the rules of bounds
abbrev pub bound_rules : Rules Fact
bound_rules = record {
  rank = fact_rank;
  height = 28;
  top = anything;
  zero = Fixed (pos 0);
  joined = joined_fact;
  of_rhs = fact_of_rhs;
  goes = may_go;
  along = facts_along;
  operand = bounded_operand;
  rhs = bounded_rhs;
  may_vanish = may_vanish;
  outside = open_outside;
}
