-- Laws of marks, for the crates above.
use Rattle.std.proofs.Common.{◌≡◌, ℕ, zero, suc, Bool, true, false, List, [], ◌∷◌, replicate, slice_set, refl, sym, ap, ◌∙◌, true≢false}
use Rattle.std.proofs.lemmas.List.{get_or-set_other}
use Rattle.unit_callers.specs.Stale.{is_stale}

-- a mark that is set, or is for no unit
set_marks : (marks : List Bool) (u : ℕ) → is_stale (slice_set marks u true) u ≡ true
set_marks [] u = refl
set_marks (m ∷ marks) zero = refl
set_marks (m ∷ marks) (suc u) = set_marks marks u

-- what is not marked then was not marked, and is another unit
pub set_others : (marks : List Bool) (u w : ℕ) → is_stale (slice_set marks u true) w ≡ false → (is_stale marks w ≡ false) × (w ≡ u → ⊥)
set_others marks u w off = (
  sym (get_or-set_other marks u w true true other) ∙ off,
  other,
)
  where
    other : w ≡ u → ⊥
    other e = true≢false (sym (set_marks marks u) ∙ ap (is_stale (slice_set marks u true)) (sym e) ∙ off)

-- where all are marked
pub all_marked : (n u : ℕ) → is_stale (replicate n true) u ≡ true
all_marked zero u = refl
all_marked (suc n) zero = refl
all_marked (suc n) (suc u) = all_marked n u
