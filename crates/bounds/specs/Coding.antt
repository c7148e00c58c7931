-- Facts as they are kept: by a kind and a number. Cited by contracts, and the laws by proofs only.
use Rattle.std.proofs.Common.{◌≡◌, ℕ, ◌+◌, ◌-◌, ◌*◌, ◌/◌, ◌%◌, ◌<◌, ◌≤◌, ℤ, pos, Bool, true, false, ◌&&◌, if◌then◌else◌, nat_eq, nat_le, Option, Some, None, refl, ap, ◌∙◌, arith}
use Rattle.std.proofs.lemmas.Bool.{ne_eqb}
use Rattle.bounds.specs.declared.ends.End.{End}
use Rattle.bounds.specs.declared.ends.End.TheVariants.{Least, Min32, Min16, Min8, MinusOne, Zero, One, Max8, MaxU8, Max16, MaxU16, Max32, MaxU32, Greatest}
use Rattle.bounds.specs.declared.facts.Fact.{Fact}
use Rattle.bounds.specs.declared.facts.Fact.TheVariants.{Never, Fixed, Between}
use Rattle.bounds.specs.Ends.{index}

-- the end at this place, from the least
abbrev pub end_at : ℕ → End
end_at n =
    if nat_eq n 0 then Least
    else if nat_eq n 1 then Min32
    else if nat_eq n 2 then Min16
    else if nat_eq n 3 then Min8
    else if nat_eq n 4 then MinusOne
    else if nat_eq n 5 then Zero
    else if nat_eq n 6 then One
    else if nat_eq n 7 then Max8
    else if nat_eq n 8 then MaxU8
    else if nat_eq n 9 then Max16
    else if nat_eq n 10 then MaxU16
    else if nat_eq n 11 then Max32
    else if nat_eq n 12 then MaxU32 else Greatest

-- the kind of an interval: one for each two ends
abbrev pub interval_kind : End → End → ℕ
interval_kind low high = 2 + 14 * index low + index high

-- the kind of a fact, and its number, which says which one a constant is
abbrev pub kind_of : Fact → ℕ
kind_of (Fixed c) = 0
kind_of Never = 1
kind_of (Between e f) = interval_kind e f

-- 0 where the kind says all
abbrev pub number_of : Fact → ℤ
number_of (Fixed c) = c
number_of Never = pos 0
number_of (Between e f) = pos 0

-- what a kind and a number stand for
abbrev pub decoded_fact : ℕ → ℤ → Fact
decoded_fact kind number =
    if nat_eq kind 0 then Fixed number
    else if nat_eq kind 1 then Never
    else Between (end_at ((kind - 2) / 14)) (end_at ((kind - 2) % 14))

-- ---- where two paths meet

-- a kind is that of an interval
abbrev pub is_interval : ℕ → Bool
is_interval kind = nat_le 2 kind && nat_le kind 197

-- the lower of two places
abbrev pub lower_place : ℕ → ℕ → ℕ
lower_place place other = if nat_le place other then place else other

-- and the upper
abbrev pub upper_place : ℕ → ℕ → ℕ
upper_place place other = if nat_le place other then other else place

-- the kind of the least interval that holds two, by the places of their ends
abbrev pub joined_interval : ℕ → ℕ → ℕ
joined_interval ends other =
    2 + 14 * lower_place (ends / 14) (other / 14) + upper_place (ends % 14) (other % 14)

-- the kind of what is known where two paths meet, if both know an interval
abbrev pub joined_kind : ℕ → ℕ → Option ℕ
joined_kind kind other =
    if is_interval kind && is_interval other then Some (joined_interval (kind - 2) (other - 2))
    else None

-- ---- laws

-- places are below 14
pub index_small : (e : End) → index e ≤ 13
index_small Least = omega arith
index_small Min32 = omega arith
index_small Min16 = omega arith
index_small Min8 = omega arith
index_small MinusOne = omega arith
index_small Zero = omega arith
index_small One = omega arith
index_small Max8 = omega arith
index_small MaxU8 = omega arith
index_small Max16 = omega arith
index_small MaxU16 = omega arith
index_small Max32 = omega arith
index_small MaxU32 = omega arith
index_small Greatest = omega arith

-- the end that has the place of an end is this end
end_back : (e : End) → end_at (index e) ≡ e
end_back Least = refl
end_back Min32 = refl
end_back Min16 = refl
end_back Min8 = refl
end_back MinusOne = refl
end_back Zero = refl
end_back One = refl
end_back Max8 = refl
end_back MaxU8 = refl
end_back Max16 = refl
end_back MaxU16 = refl
end_back Max32 = refl
end_back MaxU32 = refl
end_back Greatest = refl

-- from 2 on a kind stands for an interval
pub interval_of : (kind : ℕ) (number : ℤ) → 2 ≤ kind
    → decoded_fact kind number ≡ Between (end_at ((kind - 2) / 14)) (end_at ((kind - 2) % 14))
interval_of kind number h =
    let rest : Fact = Between (end_at ((kind - 2) / 14)) (end_at ((kind - 2) % 14)) in
    ap (λ t. if t then Fixed number else if nat_eq kind 1 then Never else rest) (ne_eqb kind 0 (λ e. omega (arith, h, e)))
    ∙ ap (λ t. if t then Never else rest) (ne_eqb kind 1 (λ e. omega (arith, h, e)))

-- the kind of an interval stands for it
pub interval_back : (low high : End) (number : ℤ) → decoded_fact (interval_kind low high) number ≡ Between low high
interval_back low high number =
    let i : (interval_kind low high - 2) / 14 ≡ index low = omega (arith, index_small high) in
    let j : (interval_kind low high - 2) % 14 ≡ index high = omega (arith, index_small high) in
    interval_of (interval_kind low high) number (omega arith)
    ∙ ap (λ k. Between (end_at k) (end_at ((interval_kind low high - 2) % 14))) i
    ∙ ap (λ k. Between (end_at (index low)) (end_at k)) j
    ∙ ap (λ e. Between e (end_at (index high))) (end_back low) ∙ ap (Between low) (end_back high)

-- so do those of every fact
pub fact_stands : (x : Fact) → decoded_fact (kind_of x) (number_of x) ≡ x
fact_stands (Fixed c) = refl
fact_stands Never = refl
fact_stands (Between e f) = interval_back e f (pos 0)

-- the lower of two places is one of them
pub lower_small : (a b n : ℕ) → a < n → b < n → lower_place a b < n
lower_small a b n p q = by (nat_le a b)
  where
    by : (t : Bool) → (if t then a else b) < n
    by true = p
    by false = q

-- and so is the upper
pub upper_small : (a b n : ℕ) → a < n → b < n → upper_place a b < n
upper_small a b n p q = by (nat_le a b)
  where
    by : (t : Bool) → (if t then b else a) < n
    by true = q
    by false = p
