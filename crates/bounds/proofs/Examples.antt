-- What the rules find in small cases, computed.
use Rattle.std.proofs.Common.{◌≡◌, refl, pos}
use Rattle.std.specs.Int.{int_wrap}
use Rattle.mir_base.specs.declared.operators.Op.TheVariants.{Add, Mul, Lt, Shl, Shr, Shra, And}
use Rattle.mir_base.specs.declared.operators.RelOp.TheVariants.{Eq as Equal, Ne as Differ, Lt as Below, Gt as Above}
use Rattle.bounds.specs.declared.ends.End.TheVariants.{Min32, Zero, One, Max8, MaxU8, Max32, MaxU32}
use Rattle.bounds.specs.declared.facts.Fact.TheVariants.{Never, Fixed, Between}
use Rattle.bounds.specs.Ends.{floor, ceiling, floor_in, ceiling_in}
use Rattle.bounds.specs.Facts.{joined_fact}
use Rattle.bounds.specs.Bounding.{bounds_of}
use Rattle.bounds.specs.Narrowing.{narrowed}
use Rattle.bounds.specs.Edges.{anything}

-- a byte
mask : bounds_of And anything (Fixed (pos 255)) ≡ Between Zero MaxU8
unfolding floor ceiling floor_in ceiling_in int_wrap
mask = refl

-- the low 32 bits, with their sign
low_half : bounds_of Shra (bounds_of Shl anything (Fixed (pos 32))) (Fixed (pos 32)) ≡ Between Min32 Max32
unfolding floor ceiling floor_in ceiling_in int_wrap
low_half = refl

-- the high 32 bits, without one
high_half : bounds_of Shr anything (Fixed (pos 32)) ≡ Between Zero MaxU32
unfolding floor ceiling floor_in ceiling_in int_wrap
high_half = refl

-- anything times 0
by_zero : bounds_of Mul anything (Fixed (pos 0)) ≡ Fixed (pos 0)
unfolding floor ceiling floor_in ceiling_in int_wrap
by_zero = refl

-- a byte is below 1000
decided : bounds_of Lt (Between Zero MaxU8) (Fixed (pos 1000)) ≡ Fixed (pos 1)
unfolding floor ceiling floor_in ceiling_in int_wrap
decided = refl

-- below 100, and not below 0
in_loop : narrowed Below (Between Zero MaxU8) (Fixed (pos 100)) ≡ Between Zero Max8
unfolding floor ceiling floor_in ceiling_in int_wrap
in_loop = refl

-- so one more stays a byte
one_more : joined_fact (Fixed (pos 0)) (bounds_of Add (Between Zero Max8) (Fixed (pos 1))) ≡ Between Zero MaxU8
unfolding floor ceiling floor_in ceiling_in int_wrap
one_more = refl

-- equal to 7
equal : narrowed Equal anything (Fixed (pos 7)) ≡ Fixed (pos 7)
unfolding floor ceiling floor_in ceiling_in int_wrap
equal = refl

-- not 0, of a byte
not_zero : narrowed Differ (Between Zero MaxU8) (Fixed (pos 0)) ≡ Between One MaxU8
unfolding floor ceiling floor_in ceiling_in int_wrap
not_zero = refl

-- a constant that a test leaves out
never : narrowed Above (Fixed (pos 3)) (Fixed (pos 5)) ≡ Never
unfolding floor ceiling floor_in ceiling_in int_wrap
never = refl
