-- When two numbers agree on their lowest bits. Cited by contracts.
use Rattle.std.specs.Prelude.{◌≡◌, ℕ, ◌^◌, ◌-◌, ℤ, pos, unsigned_abs}
use Rattle.std.specs.Int.{int_rem_euclid, leading_zeros}
use Rattle.mir_base.specs.Numbers.{unsigned}
use mir.Syntax.{w64}

-- the k lowest bits of a number, read without a sign: its remainder modulo 2^k
abbrev pub low_bits : ℕ → ℤ → ℕ
low_bits k z = unsigned_abs (int_rem_euclid z (pos (2 ^ k)))

-- the two have the same k lowest bits
abbrev pub AgreeBelow : ℕ → ℤ → ℤ → Type 0
AgreeBelow k a b = low_bits k a ≡ low_bits k b

-- how many bits a number has up to its highest bit that is 1, read without a sign
abbrev pub bit_length : ℤ → ℕ
bit_length c = 64 - leading_zeros w64 (unsigned c)
