-- The facts, when a fact holds of a number, their order and their join. Cited by contracts.
use Rattle.std.specs.Prelude.{◌≡◌, ℕ, ◌+◌, ◌-◌, ◌≤◌, if◌then◌else◌, ℤ, ◌≤ℤ◌}
use Rattle.std.specs.Ordering.{int_eq}
use Rattle.mir_base.specs.Numbers.{wrapped}
use Rattle.bounds.specs.declared.ends.End.{End}
use Rattle.bounds.specs.declared.ends.End.TheVariants.{Least, Greatest}
use Rattle.bounds.specs.declared.facts.Fact.{Fact}
use Rattle.bounds.specs.declared.facts.Fact.TheVariants.{Never, Fixed, Between}
use Rattle.bounds.specs.Ends.{index, end_value, floor, ceiling, lower, upper}

-- the least number of which a fact holds
abbrev pub low_of : Fact → ℤ
low_of Never = end_value Greatest
low_of (Fixed c) = wrapped c
low_of (Between e f) = end_value e

-- and the greatest
abbrev pub high_of : Fact → ℤ
high_of Never = end_value Least
high_of (Fixed c) = wrapped c
high_of (Between e f) = end_value f

-- the fact holds of the number
pub record Bounds (fact : Fact) (z : ℤ) : Type 0 where
  pub low : low_of fact ≤ℤ z
  pub high : z ≤ℤ high_of fact

-- ---- order

-- the greatest end that is at most all of which it holds
abbrev pub low_end : Fact → End
low_end Never = Greatest
low_end (Fixed c) = floor (wrapped c)
low_end (Between e f) = e

-- the least end that is at least all of which it holds
abbrev pub high_end : Fact → End
high_end Never = Least
high_end (Fixed c) = ceiling (wrapped c)
high_end (Between e f) = f

-- an interval reaches beyond a fact, or to its ends
pub record Reaches (fact : Fact) (e f : End) : Type 0 where
  pub low : index e ≤ index (low_end fact)
  pub high : index (high_end fact) ≤ index f

-- "never" is below all, a constant below itself, and every fact is below the intervals that reach beyond it
abbrev pub BelowFact : Fact → Fact → Type 0
BelowFact Never y = Unit {0}
BelowFact (Fixed a) Never = ⊥
BelowFact (Fixed a) (Fixed b) = a ≡ b
BelowFact (Fixed a) (Between e f) = Reaches (Fixed a) e f
BelowFact (Between e f) Never = ⊥
BelowFact (Between e f) (Fixed b) = ⊥
BelowFact (Between e f) (Between g h) = Reaches (Between e f) g h

-- the rank of a fact: an interval of all numbers has the greatest, 28
abbrev pub fact_rank : Fact → ℕ
fact_rank Never = 0
fact_rank (Fixed c) = 1
fact_rank (Between e f) = 15 - index e + index f

-- ---- join

-- the least interval with such ends that holds both
abbrev pub hull : Fact → Fact → Fact
hull x y = Between (lower (low_end x) (low_end y)) (upper (high_end x) (high_end y))

-- equal constants stay
abbrev pub joined_fact : Fact → Fact → Fact
joined_fact Never y = y
joined_fact (Fixed a) Never = Fixed a
joined_fact (Fixed a) (Fixed b) = if int_eq a b then Fixed a else hull (Fixed a) (Fixed b)
joined_fact (Fixed a) (Between e f) = hull (Fixed a) (Between e f)
joined_fact (Between e f) Never = Between e f
joined_fact (Between e f) (Fixed b) = hull (Between e f) (Fixed b)
joined_fact (Between e f) (Between g h) = hull (Between e f) (Between g h)
