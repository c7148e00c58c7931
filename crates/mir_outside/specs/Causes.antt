-- What a count of faults does from call to call, and what stands behind the answer that a call failed. Cited by
-- contracts.
use Rattle.std.specs.Prelude.{◌≡◌, ℕ, ◌+◌, ◌-◌, ◌^◌, ◌<◌, ◌≤◌, ◌⊎◌, min, Result, OnErr}

-- the greatest value of a count, at which it saturates
abbrev pub greatest_count : ℕ
greatest_count = 2 ^ 64 - 1

-- a count after one more
abbrev pub next_count : ℕ → ℕ
next_count count = min (count + 1) greatest_count

-- a count never falls, and saturates at its greatest value
pub record NeverFalls (before after : ℕ) : Type 0 where
  pub later : before ≤ after
  pub saturates : before ≡ greatest_count → after ≡ greatest_count

-- a count rose, or has saturated
abbrev pub Rose : ℕ → ℕ → Type 0
Rose before after = (before < after) ⊎ (after ≡ greatest_count)

-- the count of faults never falls, and behind a failure it rose or has saturated
pub record HasCause {T E : Type 0} (before after : ℕ) (result : Result T E) : Type 0 where
  pub count : NeverFalls before after
  pub failed : OnErr result (Rose before after)
