-- The numbers of the bits that are set, found one after the other.
use Rattle.std.proofs.Common.{◌≡◌, ℕ, zero, suc, ◌+◌, ◌-◌, ◌<◌, ◌≤◌, Bool, true, false, List, [], ◌∷◌, length, get_or, drop, drop-cons, ap, ◌∙◌, arith}
use Rattle.motion_rewrite.specs.Flatten.{set_from}
use Rattle.std.proofs.lemmas.List.{drop_all}

-- false bits add nothing
bits_skip : (d from : ℕ) (row : List Bool) → from + d ≤ length row → ((j : ℕ) → from ≤ j → j < from + d → get_or row j false ≡ false) → set_from from (drop from row) ≡ set_from (from + d) (drop (from + d) row)
bits_skip zero from row within none = let same : from ≡ from + zero = omega arith in ap (λ n. set_from n (drop n row)) same
bits_skip (suc d) from row within none =
    let inside : from < length row = omega (arith, within) in
    let same : suc from + d ≡ from + suc d = omega arith in
    ap (set_from from) (drop-cons row from false inside)
    ∙ ap (λ b. set_from from (b ∷ drop (suc from) row)) (none from (omega arith) (omega arith))
    ∙ bits_skip d (suc from) row (omega (arith, within)) (λ j low high. none j (omega (arith, low)) (omega (arith, high)))
    ∙ ap (λ n. set_from n (drop n row)) same

-- from bit `from` on, the numbers of the true bits are that of the next true one, and those behind it
pub bits_step : (from b : ℕ) (row : List Bool) → from ≤ b → b < length row → ((j : ℕ) → from ≤ j → j < b → get_or row j false ≡ false) → get_or row b false ≡ true
    → set_from from (drop from row) ≡ b ∷ set_from (b + 1) (drop (b + 1) row)
bits_step from b row low within none set =
    let there : from + (b - from) ≡ b = omega (arith, low) in
    let one : suc b ≡ b + 1 = omega arith in
    bits_skip (b - from) from row (omega (arith, there, within)) (λ j l h. none j l (omega (arith, there, h)))
    ∙ ap (λ n. set_from n (drop n row)) there
    ∙ ap (set_from b) (drop-cons row b false within)
    ∙ ap (λ bit. set_from b (bit ∷ drop (suc b) row)) set
    ∙ ap (λ n. b ∷ set_from n (drop n row)) one

-- and to the end where none is left
pub bits_end : (from : ℕ) (row : List Bool) → from ≤ length row → ((j : ℕ) → from ≤ j → j < length row → get_or row j false ≡ false) → set_from from (drop from row) ≡ []
bits_end from row low none =
    let there : from + (length row - from) ≡ length row = omega (arith, low) in
    bits_skip (length row - from) from row (omega (arith, there)) (λ j l h. none j l (omega (arith, there, h)))
    ∙ ap (λ n. set_from n (drop n row)) there
    ∙ ap (set_from (length row)) (drop_all (length row) row (omega arith))
