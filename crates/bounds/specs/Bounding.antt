-- The fact of a result by the facts of the operands: the ends between which the value of the operator lies, rounded to
-- ends that intervals have. Cited by contracts.
use Rattle.std.specs.Prelude.{ℕ, suc, min, max, ◌^◌, ◌*◌, ◌/◌, Bool, if◌then◌else◌, not, ◌&&◌, ◌||◌, ℤ, pos, negsuc, ◌+ℤ◌, ◌-ℤ◌, neg_ℤ, int_lt, int_le, ◌≤ℤ◌}
use Rattle.std.specs.Int.{int_div_euclid, int_min, int_max}
use Rattle.mir_base.specs.declared.operators.Op.{Op}
use Rattle.mir_base.specs.declared.operators.Op.TheVariants.{Add, Sub, Mul, Div, Mod, Min, Max, Eq, Ne, Lt, Le, Gt, Ge, Shl, Shr, Shra, And, Or, Xor}
use Rattle.mir_base.specs.declared.operators.UnOp.{UnOp}
use Rattle.mir_base.specs.declared.operators.UnOp.TheVariants.{Neg, Not}
use Rattle.mir_base.specs.Numbers.{wrapped, truth, traps, value_of_op, value_of_un_op}
use Rattle.bounds.specs.declared.ends.End.TheVariants.{Least, Greatest}
use Rattle.bounds.specs.declared.facts.Fact.{Fact}
use Rattle.bounds.specs.declared.spans.Span.{Span}
use Rattle.bounds.specs.declared.facts.Fact.TheVariants.{Never, Fixed, Between}
use Rattle.bounds.specs.Ends.{end_value, floor, ceiling}
use Rattle.bounds.specs.Facts.{low_of, high_of}

-- the number lies in the span
pub record In (s : Span) (z : ℤ) : Type 0 where
  pub low : s.low ≤ℤ z
  pub high : z ≤ℤ s.high

-- the first span lies in the second
pub record Within (s t : Span) : Type 0 where
  pub low : t.low ≤ℤ s.low
  pub high : s.high ≤ℤ t.high

-- from one number to another
abbrev pub span : ℤ → ℤ → Span
span l h = record { low = l; high = h }

-- more than all numbers of 64 bits
abbrev pub all : Span
all = span (negsuc 9223372036854775808) (pos 9223372036854775808)

-- the numbers of which a fact holds
abbrev pub span_of : Fact → Span
span_of x = span (low_of x) (high_of x)

-- the number has 64 bits
pub record IsInWord (z : ℤ) : Type 0 where
  pub low : end_value Least ≤ℤ z
  pub high : z ≤ℤ end_value Greatest

-- the ends of the span have
pub record IsWordSpan (s : Span) : Type 0 where
  pub low : IsInWord s.low
  pub high : IsInWord s.high

-- all numbers of the span have 64 bits
abbrev pub fits : Span → Bool
fits s = int_le (end_value Least) s.low && int_le s.high (end_value Greatest)

-- the surest fact of a span of 64 bits: "never" of none, and the number of one
abbrev pub surest : Span → Fact
surest s =
    if int_lt s.high s.low then Never else if int_le s.high s.low then Fixed s.low
    else Between (floor s.low) (ceiling s.high)

-- the surest fact of the span, or that of all numbers where one of the span has more than 64 bits
abbrev pub rounded : Span → Fact
rounded s = if fits s then surest s else Between Least Greatest

-- ---- spans of operators

-- no number of the span is negative
abbrev pub is_natural : Span → Bool
is_natural s = int_le (pos 0) s.low

-- no number of the span is 0 or less
abbrev pub is_positive : Span → Bool
is_positive s = int_le (pos 1) s.low

-- the number, or 0 where it is negative
abbrev pub natural : ℤ → ℕ
natural (pos n) = n
natural (negsuc n) = 0

-- whether all numbers of the span are from 0 to 63: as distances of shifts they do not wrap
abbrev pub are_distances : Span → Bool
are_distances s = int_le (pos 0) s.low && int_le s.high (pos 63)

-- the least distance of the span
abbrev pub first_distance : Span → ℕ
first_distance s = min (natural s.low) 63

-- the greatest of 64 bits without a sign, shifted by k to the right
abbrev pub shifted_all : ℕ → ℤ
shifted_all k = pos (18446744073709551615 / 2 ^ k)

-- where the span is natural, the first; else the second
abbrev pub if_natural : Span → Span → Span → Span
if_natural s t u = if is_natural s then t else u

-- how far the number is below 0, or 0 where it is not
abbrev pub depth : ℤ → ℕ
depth (pos n) = 0
depth (negsuc n) = suc n

-- the span times at most n
abbrev pub scaled : Span → ℕ → Span
scaled s n = span (neg_ℤ (pos (depth s.low * n))) (pos (natural s.high * n))

-- products where an operand is natural
abbrev pub span_mul : Span → Span → Span
span_mul s t =
    if is_natural t then scaled s (natural t.high)
    else if is_natural s then scaled t (natural s.high) else all

-- the span divided by at least n
abbrev pub divided : Span → ℕ → Span
divided s n = span (neg_ℤ (pos (depth s.low / n))) (pos (natural s.high / n))

-- how far its numbers are from 0 at most
abbrev pub size : Span → ℕ
size s = max (depth s.low) (natural s.high)

-- quotients: they are no further from 0 than the dividend, and have its sign where no divisor is negative
abbrev pub span_div : Span → Span → Span
span_div s t =
    if is_natural t then divided s (natural (int_max t.low (pos 1)))
    else span (neg_ℤ (pos (size s))) (pos (size s))

-- remainders
abbrev pub span_mod : Span → Span → Span
span_mod s t =
    if is_natural s
    then span (pos 0) (if is_positive t then int_min s.high (t.high -ℤ pos 1) else s.high)
    else if is_positive t
    then span (int_min (pos 0) (pos 1 -ℤ t.high)) (t.high -ℤ pos 1) else all

-- the span of a shift to the left
abbrev pub span_shl : Span → Span → Span
span_shl s t = if are_distances t then scaled s (2 ^ natural t.high) else all

-- shifts to the right of numbers without a sign
abbrev pub span_shr : Span → Span → Span
span_shr s t =
    if are_distances t then span (pos 0)
    (if is_natural s then pos (natural s.high / 2 ^ first_distance t)
    else shifted_all (first_distance t))
    else if is_natural s then span (pos 0) (pos (natural s.high)) else all

-- shifts to the right of numbers with a sign, by at least k
abbrev pub span_shra_by : Span → ℕ → Span
span_shra_by s k =
    span (int_min (int_div_euclid s.low (pos (2 ^ k))) (pos 0))
    (int_max (int_div_euclid s.high (pos (2 ^ k))) (negsuc 0))

-- by at least the low end of the second, unless distances may wrap
abbrev pub span_shra : Span → Span → Span
span_shra s t = if are_distances t then span_shra_by s (first_distance t) else span_shra_by s 0

-- all numbers of the span are negative
abbrev pub is_negative : Span → Bool
is_negative s = int_lt s.high (pos 0)

-- how far its numbers reach up from 0, or down from -1
abbrev pub reach : Span → ℤ
reach s = int_max (pos (natural s.high)) (negsuc 0 -ℤ s.low)

-- the number of ones that operators bit by bit do not leave: they keep what lies from its complement to it
abbrev pub ones : Span → Span → ℤ
ones s t = end_value (ceiling (int_max (reach s) (reach t)))

-- the span of `and`: from 0 to an operand that is not negative, or to the lesser of two such; else at most the greater
abbrev pub span_and : Span → Span → Span
span_and s t =
    if is_natural s then span (pos 0) (if is_natural t then int_min s.high t.high else s.high)
    else if is_natural t then span (pos 0) t.high
    else span (negsuc 0 -ℤ ones s t) (int_max s.high t.high)

-- all numbers of one of both are negative
abbrev pub has_negative : Span → Span → Bool
has_negative s t = is_negative s || is_negative t

-- `or`: at least the lesser operand, and negative with one that is; all bits below the length of the greater are 1
abbrev pub span_or : Span → Span → Span
span_or s t =
    span (int_min s.low t.low)
    (if has_negative s t then negsuc 0 else end_value (ceiling (int_max s.high t.high)))

-- the signs of all numbers of both are alike
abbrev pub are_alike : Span → Span → Bool
are_alike s t = (is_natural s && is_natural t) || (is_negative s && is_negative t)

-- the sign of each of the first differs from that of each of the second
abbrev pub are_unlike : Span → Span → Bool
are_unlike s t = (is_natural s && is_negative t) || (is_negative s && is_natural t)

-- `xor`: not negative where the signs are alike, and negative where they differ
abbrev pub span_xor : Span → Span → Span
span_xor s t =
    span (if are_alike s t then pos 0 else negsuc 0 -ℤ ones s t)
    (if are_unlike s t then negsuc 0 else ones s t)

-- the numbers of both are one
abbrev pub are_one : Span → Span → Bool
are_one s t = int_le s.high t.low && int_le t.high s.low

-- they may be equal
abbrev pub may_equal : Span → Span → Bool
may_equal s t = int_le s.low t.high && int_le t.low s.high

-- each number of the first is below each of the second
abbrev pub span_lt : Span → Span → Span
span_lt s t = span (truth (int_lt s.high t.low)) (truth (int_lt s.low t.high))

-- or equal to it
abbrev pub span_le : Span → Span → Span
span_le s t = span (truth (int_le s.high t.low)) (truth (int_le s.low t.high))

-- where the value of an operator lies
abbrev pub span_op : Op → Span → Span → Span
span_op Add s t = span (s.low +ℤ t.low) (s.high +ℤ t.high)
span_op Sub s t = span (s.low -ℤ t.high) (s.high -ℤ t.low)
span_op Mul s t = span_mul s t
span_op Div s t = span_div s t
span_op Mod s t = span_mod s t
span_op Min s t = span (int_min s.low t.low) (int_min s.high t.high)
span_op Max s t = span (int_max s.low t.low) (int_max s.high t.high)
span_op Eq s t = span (truth (are_one s t)) (truth (may_equal s t))
span_op Ne s t = span (truth (not (may_equal s t))) (truth (not (are_one s t)))
span_op Lt s t = span_lt s t
span_op Le s t = span_le s t
span_op Gt s t = span_lt t s
span_op Ge s t = span_le t s
span_op Shl s t = span_shl s t
span_op Shr s t = span_shr s t
span_op Shra s t = span_shra s t
span_op And s t = span_and s t
span_op Or s t = span_or s t
span_op Xor s t = span_xor s t

-- where the value of an operator on one number lies
abbrev pub span_un_op : UnOp → Span → Span
span_un_op Neg s = span (neg_ℤ s.high) (neg_ℤ s.low)
span_un_op Not s = span_op Eq s (span (pos 0) (pos 0))

-- ---- facts of operators

-- what is known of an operator's value by what is known of its operands
abbrev pub bounds_of : Op → Fact → Fact → Fact
bounds_of op Never y = Never
bounds_of op (Fixed a) Never = Never
bounds_of op (Fixed a) (Fixed b) =
    if traps op (wrapped b) then rounded (span_op op (span_of (Fixed a)) (span_of (Fixed b)))
    else Fixed (value_of_op op (wrapped a) (wrapped b))
bounds_of op (Fixed a) (Between g h) =
    rounded (span_op op (span_of (Fixed a)) (span_of (Between g h)))
bounds_of op (Between e f) Never = Never
bounds_of op (Between e f) (Fixed b) =
    rounded (span_op op (span_of (Between e f)) (span_of (Fixed b)))
bounds_of op (Between e f) (Between g h) =
    rounded (span_op op (span_of (Between e f)) (span_of (Between g h)))

-- and of an operator's on one number
abbrev pub bounds_of_un : UnOp → Fact → Fact
bounds_of_un op Never = Never
bounds_of_un op (Fixed a) = Fixed (value_of_un_op op (wrapped a))
bounds_of_un op (Between e f) = rounded (span_un_op op (span_of (Between e f)))
