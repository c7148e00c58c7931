-- The fact of an operand where a test is known to hold: between the ends that the relation leaves it. Cited by
-- contracts.
use Rattle.std.specs.Prelude.{Bool, if◌then◌else◌, not, ◌&&◌, pos, ◌+ℤ◌, ◌-ℤ◌, int_lt, int_le}
use Rattle.std.specs.Int.{int_max, int_min}
use Rattle.mir_base.specs.declared.operators.RelOp.{RelOp}
use Rattle.mir_base.specs.declared.operators.RelOp.TheVariants.{Eq, Ne, Lt, Le, Gt, Ge}
use Rattle.bounds.specs.declared.ends.End.TheVariants.{Least, Greatest}
use Rattle.bounds.specs.declared.facts.Fact.{Fact}
use Rattle.bounds.specs.Ends.{end_value}
use Rattle.bounds.specs.declared.spans.Span.{Span}
use Rattle.bounds.specs.Bounding.{surest, span, span_of, are_one, may_equal}

-- the relation may hold between a number of the first span and one of the second
abbrev pub may_relate : RelOp → Span → Span → Bool
may_relate Eq s t = may_equal s t
may_relate Ne s t = not (are_one s t)
may_relate Lt s t = int_lt s.low t.high
may_relate Le s t = int_le s.low t.high
may_relate Gt s t = int_lt t.low s.high
may_relate Ge s t = int_le t.low s.high

-- all numbers of the second span are the low end of the first
abbrev pub is_low : Span → Span → Bool
is_low s t = int_le t.high s.low && int_le s.low t.low

-- all are the high end of the first
abbrev pub is_high : Span → Span → Bool
is_high s t = int_le t.high s.high && int_le s.high t.low

-- the numbers of the first span that are in the relation to one of the second lie here
abbrev pub span_where : RelOp → Span → Span → Span
span_where Eq s t = t
span_where Ne s t =
    span (if is_low s t then s.low +ℤ pos 1 else s.low)
    (if is_high s t then s.high -ℤ pos 1 else s.high)
span_where Lt s t = span (end_value Least) (t.high -ℤ pos 1)
span_where Le s t = span (end_value Least) t.high
span_where Gt s t = span (t.low +ℤ pos 1) (end_value Greatest)
span_where Ge s t = span t.low (end_value Greatest)

-- the span of the numbers that lie in both
abbrev pub meet : Span → Span → Span
meet s t = span (int_max s.low t.low) (int_min s.high t.high)

-- the surest fact of the first operand where the relation holds between it and the second
abbrev pub narrowed : RelOp → Fact → Fact → Fact
narrowed op x y = surest (meet (span_of x) (span_where op (span_of x) (span_of y)))

-- the relation that holds where this one does not
abbrev pub denied : RelOp → RelOp
denied Eq = Ne
denied Ne = Eq
denied Lt = Ge
denied Le = Gt
denied Gt = Le
denied Ge = Lt

-- the relation of the second to the first
abbrev pub turned : RelOp → RelOp
turned Eq = Eq
turned Ne = Ne
turned Lt = Gt
turned Le = Ge
turned Gt = Lt
turned Ge = Le
