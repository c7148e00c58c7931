-- The numbers that are drawn. Cited by contracts.
use Rattle.std.specs.Prelude.{ℕ, ◌+◌, ◌*◌, ◌/◌, ◌%◌, ◌^◌}

-- the state after one more draw
unfoldable pub next : ℕ → ℕ
next state = (state * 6364136223846793005 + 1442695040888963407) % 2 ^ 64

-- the number below `k` that is drawn where the draw makes this state
unfoldable pub drawn : ℕ → ℕ → ℕ
drawn k state = (state / 2 ^ 33) % k
