-- Which expressions have an insertion.
use Rattle.std.proofs.Common.{◌≡◌, ℕ, ◌+◌, ◌<◌, Bool, false, ◌||◌, List, [], ◌∷◌, ◌++◌, length, get_or, take, sym, ap, ◌∙◌}
use Rattle.std.proofs.Math.Bool.{or_assoc, or-false}
use Rattle.std.proofs.lemmas.List.{take_more}
use Rattle.bit_rows.specs.Bits.{row_of}
use Rattle.motion_rewrite.specs.Temporaries.{has_insertion}

-- one row more
has_insertion_push : (rows : List (List Bool)) (row : List Bool) (i : ℕ) → has_insertion (rows ++ row ∷ []) i ≡ (has_insertion rows i || get_or row i false)
has_insertion_push [] row i = or-false (get_or row i false)
has_insertion_push (r ∷ rows) row i = ap (λ b. get_or r i false || b) (has_insertion_push rows row i) ∙ sym (or_assoc (get_or r i false) (has_insertion rows i) (get_or row i false))

-- so it is of the rows below one more node
pub has_insertion_more : (rows : List (List Bool)) (n i : ℕ) → n < length rows → has_insertion (take (n + 1) rows) i ≡ (has_insertion (take n rows) i || get_or (row_of rows n) i false)
has_insertion_more rows n i n_in = ap (λ rs. has_insertion rs i) (take_more rows n [] n_in) ∙ has_insertion_push (take n rows) (row_of rows n) i
