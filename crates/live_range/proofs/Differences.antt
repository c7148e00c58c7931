-- What a count becomes where two rows differ in a bit.
use Rattle.std.proofs.Common.{◌≡◌, ◌<◌, ◌+◌, ◌-◌, ◌&&◌, not, ℕ, Bool, true, false, refl, sym, arith}
use Rattle.flow_graph.specs.Sums.{one_if}
use Rattle.live_range.specs.Counts.{only_if}

-- what has the first and not the second has not the second
pub not_second : (x y : Bool) → (x && not y) ≡ true → y ≡ false
not_second true true on = sym on
not_second true false on = refl
not_second false true on = absurd (cc)
not_second false false on = refl

-- and has the first
pub has_first : (x y : Bool) → (x && not y) ≡ true → x ≡ true
has_first true y on = refl
has_first false y on = on

-- none where it is not
pub none_if : (x : Bool) (count : ℕ) → x ≡ false → only_if x count ≡ 0
none_if true count off = absurd (cc)
none_if false count off = refl

-- so many more where it turns on, and so many less where it turns off
pub differing_counted : (before now : Bool) (old more new left : ℕ)
    → more ≡ old + only_if (now && not before) left → new + only_if (before && not now) left ≡ more
    → new + only_if before left ≡ old + only_if now left
differing_counted true true old more new left add take = omega (arith, add, take)
differing_counted true false old more new left add take = omega (arith, add, take)
differing_counted false true old more new left add take = omega (arith, add, take)
differing_counted false false old more new left add take = omega (arith, add, take)

-- with one row more, of which one less is left
pub one_more : (before now : Bool) (count old new n rows : ℕ) → n < rows
    → old ≡ count + only_if before (rows - n) → new + only_if before (rows - n) ≡ old + only_if now (rows - n)
    → new ≡ (count + one_if now) + only_if now (rows - (n + 1))
one_more true true count old new n rows low was turns = omega (arith, low, was, turns)
one_more true false count old new n rows low was turns = omega (arith, low, was, turns)
one_more false true count old new n rows low was turns = omega (arith, low, was, turns)
one_more false false count old new n rows low was turns = omega (arith, low, was, turns)
