-- The counts of one row more.
use Rattle.std.proofs.Common.{◌≡◌, ◌≤◌, ◌+◌, ℕ, zero, suc, Bool, true, false, ap, arith}
use Rattle.flow_graph.specs.Sums.{one_if}
use Rattle.live_range.specs.Counts.{count_below}

-- at most one for each number
pub count_few : (test : ℕ → Bool) (n : ℕ) → count_below test n ≤ n
count_few test zero = omega arith
count_few test (suc n) = one (test n) (count_few test n)
  where
    one : (b : Bool) → count_below test n ≤ n → count_below test n + one_if b ≤ suc n
    one true few = omega (arith, few)
    one false few = omega (arith, few)

-- with `n + 1`, as loops count
pub count_next : (test : ℕ → Bool) (n : ℕ) → count_below test (n + 1) ≡ count_below test n + one_if (test n)
count_next test n = let next : n + 1 ≡ suc n = omega arith in ap (count_below test) next
