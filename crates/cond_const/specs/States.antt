-- What is known of one variable, its order and its join; and the states of nodes by it. Cited by contracts.
use Rattle.std.specs.Prelude.{◌≡◌, ℕ, if◌then◌else◌, ℤ}
use Rattle.std.specs.Ordering.{int_eq}
use Rattle.cond_flow.specs.States.{NodeState as StateBy}
pub use Rattle.cond_flow.specs.States.{Unreached, Knows, is_reached, size_of}
use Rattle.cond_const.specs.declared.known.Known.{Known}
use Rattle.cond_const.specs.declared.known.Known.TheVariants.{Fixed, Varying}

-- no run comes to the node, in a graph with so many variables; or for each variable its constant value or "varying"
abbrev pub NodeState : Type 0
NodeState = StateBy Known

-- a constant is below itself and "varying"
abbrev pub BelowKnown : Known → Known → Type 0
BelowKnown (Fixed a) (Fixed b) = a ≡ b
BelowKnown Varying (Fixed b) = ⊥
BelowKnown k Varying = Unit {0}

-- 1 for "varying" and 0 for a constant: the rank of what is known
abbrev pub is_varying : Known → ℕ
is_varying (Fixed a) = 0
is_varying Varying = 1

-- where two paths meet equal constants stay, and everything else is varying
abbrev pub joined_known : Known → Known → Known
joined_known (Fixed a) (Fixed b) = if int_eq a b then Fixed a else Varying
joined_known (Fixed a) Varying = Varying
joined_known Varying k = Varying

-- a constant holds of itself, and "varying" of every number
abbrev pub HasValue : Known → ℤ → Type 0
HasValue (Fixed c) z = z ≡ c
HasValue Varying z = Unit {0}
