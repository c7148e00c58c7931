-- Kinds of intervals are joined as the intervals are.
use Rattle.std.proofs.Common.{◌≡◌, ℕ, zero, suc, ◌+◌, ◌-◌, ◌*◌, ◌/◌, ◌%◌, ◌<◌, ◌≤◌, ℤ, Bool, true, false, not, ◌&&◌, if◌then◌else◌, nat_eq, nat_le, Some, None, refl, sym, ap, subst, ◌∙◌, arith}
use Rattle.std.specs.Prelude.{IfSome}
use Rattle.cond_flow.specs.FactLists.{IsJoinedKind}
use Rattle.bounds.specs.declared.facts.Fact.{Fact}
use Rattle.bounds.specs.declared.facts.Fact.TheVariants.{Never, Fixed, Between}
use Rattle.bounds.specs.BoundRules.{bound_rules}
use Rattle.bounds.specs.Coding.{decoded_fact, end_at, interval_of, joined_interval, joined_kind, lower_place, lower_small, upper_place, upper_small}
use Rattle.bounds.specs.Ends.{index, lower, upper}
use Rattle.bounds.specs.Facts.{high_end, joined_fact, low_end}

-- the end at a place has this place
place_back : (n : ℕ) → n < 14 → index (end_at n) ≡ n
place_back zero h = refl
place_back (suc zero) h = refl
place_back (suc (suc zero)) h = refl
place_back (suc (suc (suc zero))) h = refl
place_back (suc (suc (suc (suc zero)))) h = refl
place_back (suc (suc (suc (suc (suc zero))))) h = refl
place_back (suc (suc (suc (suc (suc (suc zero)))))) h = refl
place_back (suc (suc (suc (suc (suc (suc (suc zero))))))) h = refl
place_back (suc (suc (suc (suc (suc (suc (suc (suc zero)))))))) h = refl
place_back (suc (suc (suc (suc (suc (suc (suc (suc (suc zero))))))))) h = refl
place_back (suc (suc (suc (suc (suc (suc (suc (suc (suc (suc zero)))))))))) h = refl
place_back (suc (suc (suc (suc (suc (suc (suc (suc (suc (suc (suc zero))))))))))) h = refl
place_back (suc (suc (suc (suc (suc (suc (suc (suc (suc (suc (suc (suc zero)))))))))))) h = refl
place_back (suc (suc (suc (suc (suc (suc (suc (suc (suc (suc (suc (suc (suc zero))))))))))))) h = refl
place_back (suc (suc (suc (suc (suc (suc (suc (suc (suc (suc (suc (suc (suc (suc n)))))))))))))) h = absurd (omega (arith, h))

-- the lower of two ends is at the lower place
lower_at : (a b : ℕ) → a < 14 → b < 14 → lower (end_at a) (end_at b) ≡ end_at (lower_place a b)
lower_at a b p q =
    ap (λ n. if nat_le n (index (end_at b)) then end_at a else end_at b) (place_back a p)
    ∙ ap (λ n. if nat_le a n then end_at a else end_at b) (place_back b q) ∙ by (nat_le a b)
  where
    by : (t : Bool) → (if t then end_at a else end_at b) ≡ end_at (if t then a else b)
    by true = refl
    by false = refl

-- and the upper at the upper
upper_at : (a b : ℕ) → a < 14 → b < 14 → upper (end_at a) (end_at b) ≡ end_at (upper_place a b)
upper_at a b p q =
    ap (λ n. if nat_le n (index (end_at b)) then end_at b else end_at a) (place_back a p)
    ∙ ap (λ n. if nat_le a n then end_at b else end_at a) (place_back b q) ∙ by (nat_le a b)
  where
    by : (t : Bool) → (if t then end_at b else end_at a) ≡ end_at (if t then b else a)
    by true = refl
    by false = refl

-- the interval that a kind stands for, by the places of its ends
at_places : (low high : ℕ) (number : ℤ) → low < 14 → high < 14 → decoded_fact (2 + 14 * low + high) number ≡ Between (end_at low) (end_at high)
at_places low high number p q =
    let i : (2 + 14 * low + high - 2) / 14 ≡ low = omega (arith, q) in
    let j : (2 + 14 * low + high - 2) % 14 ≡ high = omega (arith, q) in
    interval_of (2 + 14 * low + high) number (omega arith)
    ∙ ap (λ k. Between (end_at k) (end_at ((2 + 14 * low + high - 2) % 14))) i ∙ ap (λ k. Between (end_at low) (end_at k)) j

-- two kinds by the places of the ends
places_meet : (e f g h : ℕ) → e < 14 → f < 14 → g < 14 → h < 14
    → IsJoinedKind bound_rules decoded_fact (2 + 14 * e + f) (2 + 14 * g + h) (2 + 14 * lower_place e g + upper_place f h)
places_meet e f g h p q r s =
    let low : lower_place e g < 14 = lower_small e g 14 p r in
    let high : upper_place f h < 14 = upper_small f h 14 q s in
    record {
      joined = λ n m.
          ap (λ x. joined_fact x (decoded_fact (2 + 14 * g + h) m)) (at_places e f n p q)
          ∙ ap (joined_fact (Between (end_at e) (end_at f))) (at_places g h m r s)
          ∙ ap (λ l. Between l (upper (end_at f) (end_at h))) (lower_at e g p r)
          ∙ ap (Between (end_at (lower_place e g))) (upper_at f h q s)
          ∙ sym (at_places (lower_place e g) (upper_place f h) n low high);
      stays = λ n same.
          let both : Between (end_at (lower_place e g)) (end_at (upper_place f h)) ≡ Between (end_at e) (end_at f) = sym (at_places (lower_place e g) (upper_place f h) n low high) ∙ same ∙ at_places e f n p q in
          let lows : lower_place e g ≡ e = sym (place_back (lower_place e g) low) ∙ ap (λ x. index (low_end x)) both ∙ place_back e p in
          let highs : upper_place f h ≡ f = sym (place_back (upper_place f h) high) ∙ ap (λ x. index (high_end x)) both ∙ place_back f q in
          ap (λ l. 2 + 14 * l + upper_place f h) lows ∙ ap (λ u. 2 + 14 * e + u) highs;
    }

-- a kind by the places of its ends
by_places : (kind : ℕ) → 2 ≤ kind → 2 + 14 * ((kind - 2) / 14) + (kind - 2) % 14 ≡ kind
by_places kind h = omega (arith, h)

-- two kinds of intervals
intervals_meet : (kind other : ℕ) → 2 ≤ kind → kind ≤ 197 → 2 ≤ other → other ≤ 197
    → IsJoinedKind bound_rules decoded_fact kind other (joined_interval (kind - 2) (other - 2))
intervals_meet kind other p p' q q' =
    subst (λ k. IsJoinedKind bound_rules decoded_fact k other (joined_interval (kind - 2) (other - 2))) (by_places kind p)
    (subst (λ o. IsJoinedKind bound_rules decoded_fact (2 + 14 * ((kind - 2) / 14) + (kind - 2) % 14) o (joined_interval (kind - 2) (other - 2))) (by_places other q)
    (places_meet ((kind - 2) / 14) ((kind - 2) % 14) ((other - 2) / 14) ((other - 2) % 14) (omega (arith, p')) (omega arith) (omega (arith, q')) (omega arith)))

-- what is found so
le_of : (a b : ℕ) → nat_le a b ≡ true → a ≤ b
le_of a b h = grind arith

-- the kind that is answered is that of what is known where the paths meet
pub kinds_meet : (kind other : ℕ) → IfSome (joined_kind kind other) (IsJoinedKind bound_rules decoded_fact kind other)
kinds_meet kind other = by (nat_le 2 kind) (nat_le kind 197) (nat_le 2 other) (nat_le other 197) refl refl refl refl
  where
    by : (a b c d : Bool) → nat_le 2 kind ≡ a → nat_le kind 197 ≡ b → nat_le 2 other ≡ c → nat_le other 197 ≡ d
        → IfSome (if (a && b) && (c && d) then Some (joined_interval (kind - 2) (other - 2)) else None) (IsJoinedKind bound_rules decoded_fact kind other)
    by true true true true p p' q q' = intervals_meet kind other (le_of 2 kind p) (le_of kind 197 p') (le_of 2 other q) (le_of other 197 q')
    by true true true false p p' q q' = tt
    by true true false d p p' q q' = tt
    by true false c d p p' q q' = tt
    by false b c d p p' q q' = tt

-- a kind but that of a constant stands for the same with any number
pub tells_all : (kind : ℕ) → not (nat_eq kind 0) ≡ true → (n m : ℤ) → decoded_fact kind n ≡ decoded_fact kind m
tells_all kind on n m = by (nat_eq kind 0) on
  where
    rest : Fact
    rest = if nat_eq kind 1 then Never else Between (end_at ((kind - 2) / 14)) (end_at ((kind - 2) % 14))

    by : (nought : Bool) → not nought ≡ true → (if nought then Fixed n else rest) ≡ (if nought then Fixed m else rest)
    by true on = absurd (let bad : false ≡ true = on in cc)
    by false on = refl
