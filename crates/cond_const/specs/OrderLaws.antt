-- What is known of one variable is ordered and has joins. For proofs only.
use Rattle.std.proofs.Common.{◌≡◌, ◌<◌, ◌≤◌, ◌⊎◌, inl, inr, Bool, true, false, if◌then◌else◌, refl, sym, ap, ◌∙◌, arith}
use Rattle.std.specs.Ordering.{int_eq}
use Rattle.fix_solve.specs.Order.{IsLeastUpper}
use Rattle.cond_flow.specs.Rules.{OrderRules}
use Rattle.cond_const.specs.declared.known.Known.{Known}
use Rattle.cond_const.specs.declared.known.Known.TheVariants.{Fixed, Varying}
use Rattle.cond_const.specs.States.{BelowKnown, is_varying, joined_known}
use Rattle.cond_const.specs.Folding.{fold_rules}
use Rattle.cond_const.specs.RelationLaws.{int_eq_is, int_eq_same}

-- the order of what is known of one variable
pub known_refl : (k : Known) → BelowKnown k k
known_refl (Fixed a) = refl
known_refl Varying = tt

-- the order of what is known is transitive
known_trans : (x y z : Known) → BelowKnown x y → BelowKnown y z → BelowKnown x z
known_trans (Fixed a) (Fixed b) (Fixed c) p q = p ∙ q
known_trans (Fixed a) (Fixed b) Varying p q = tt
known_trans (Fixed a) Varying (Fixed c) p q = absurd q
known_trans (Fixed a) Varying Varying p q = tt
known_trans Varying (Fixed b) z p q = absurd p
known_trans Varying Varying (Fixed c) p q = absurd q
known_trans Varying Varying Varying p q = tt

-- and antisymmetric
known_antisym : (x y : Known) → BelowKnown x y → BelowKnown y x → x ≡ y
known_antisym (Fixed a) (Fixed b) p q = ap Fixed p
known_antisym (Fixed a) Varying p q = absurd q
known_antisym Varying (Fixed b) p q = absurd p
known_antisym Varying Varying p q = refl

-- a constant that is below another value and differs from it is below "varying"
known_rises : (x y : Known) → BelowKnown x y → (x ≡ y) ⊎ (is_varying x < is_varying y)
known_rises (Fixed a) (Fixed b) h = inl (ap Fixed h)
known_rises (Fixed a) Varying h = inr (omega arith)
known_rises Varying (Fixed b) h = absurd h
known_rises Varying Varying h = inl refl

-- "varying" is above all
pub known_top : (k : Known) → BelowKnown k Varying
known_top (Fixed b) = tt
known_top Varying = tt

-- the join of what is known of one variable is the least upper bound
known_joins : (x y : Known) → IsLeastUpper BelowKnown x y (joined_known x y)
known_joins (Fixed a) (Fixed b) = cases (int_eq a b) refl
  where
    cases : (t : Bool) → int_eq a b ≡ t → IsLeastUpper BelowKnown (Fixed a) (Fixed b) (if t then Fixed a else Varying)
    cases true is = record { left = refl; right = sym (int_eq_is a b is); least = λ w p q. p }
    cases false is = record { left = tt; right = tt; least = least }
      where
        least : (w : Known) → BelowKnown (Fixed a) w → BelowKnown (Fixed b) w → BelowKnown Varying w
        least (Fixed c) p q = let bad : int_eq a b ≡ true = ap (int_eq a) (q ∙ sym p) ∙ int_eq_same a in absurd (cc)
        least Varying p q = tt
known_joins (Fixed a) Varying = record { left = tt; right = tt; least = λ w p q. q }
known_joins Varying y = record { left = tt; right = known_top y; least = λ w p q. p }

-- the rank is at most 1
ranks_few : (k : Known) → is_varying k ≤ 1
ranks_few (Fixed a) = omega arith
ranks_few Varying = omega arith

-- all together
pub order_rules : OrderRules BelowKnown fold_rules
order_rules = record {
  reflexive = known_refl;
  transitive = known_trans;
  antisymmetric = known_antisym;
  rises = known_rises;
  ranks = ranks_few;
  joins = known_joins;
}
