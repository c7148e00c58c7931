-- The names of units and variables are names, and those of units differ.
use Rattle.std.proofs.Common.{◌≡◌, ◌<◌, ◌^◌, ℕ, false, not, List, codes, IsTrue, ap}
use Rattle.std.specs.List.{list_any}
use Rattle.mir_base.specs.DecimalLaws.{numbered_differ}
use Rattle.mir_base.specs.Names.{is_reserved, reserved_words}
use Rattle.mir_base.specs.Words.{is_text}
use Rattle.mir_trial.specs.Trial.{name_of}

-- of a text that is known whether it is reserved is computed
pub is_unreserved : (bytes : List ℕ) → list_any (λ word. is_text word bytes) reserved_words ≡ false → IsTrue (not (is_reserved bytes))
unfolding is_reserved
is_unreserved bytes is = ap not is

-- units of other numbers have other names
pub unit_one : (m n : ℕ) → m < 2 ^ 64 → n < 2 ^ 64 → name_of m ≡ name_of n → m ≡ n
unit_one = numbered_differ (codes "u")
