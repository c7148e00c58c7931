-- Laws of rows of false bits, with which rows begin that are filled in. Cited by proofs, here and above.
use Rattle.std.proofs.Common.{◌≡◌, ℕ, zero, suc, ◌<◌, Bool, false, List, [], length, get_or, replicate, refl, ap, ◌∙◌}
use Rattle.std.proofs.lemmas.List.{get_or-replicate, length-replicate}
use Rattle.bit_rows.specs.Bits.{row_of}
use Rattle.path_laws.specs.Paths.{AreRows, has_bit}

-- a bit of a row of false ones
pub false_bit : (n k : ℕ) → get_or (replicate n false) k false ≡ false
false_bit zero k = refl
false_bit (suc n) zero = refl
false_bit (suc n) (suc k) = false_bit n k

-- rows of false ones
pub false_rows : (count bits : ℕ) (rows : List (List Bool)) → rows ≡ replicate count (replicate bits false)
    → AreRows count bits rows × ((n i : ℕ) → n < count → has_bit rows i n ≡ false)
false_rows count bits rows is = (
  record {
    len = ap length is ∙ length-replicate count (replicate bits false);
    each = λ n n_in. ap length (row n n_in) ∙ length-replicate bits false;
  },
  λ n i n_in. ap (λ r. get_or r i false) (row n n_in) ∙ false_bit bits i,
)
  where
    row : (n : ℕ) → n < count → row_of rows n ≡ replicate bits false
    row n n_in = ap (λ r. row_of r n) is ∙ get_or-replicate count n (replicate bits false) [] n_in
