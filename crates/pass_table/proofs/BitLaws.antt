-- Rows of a shape have the bits below it, which lines of bits need.
use Rattle.std.proofs.Common.{ℕ, ◌<◌, Bool, List, length, sym, subst}
use Rattle.path_laws.specs.Paths.{AreRows}
use Rattle.table_text.specs.Rows.{HaveBit}

-- where each row has so many bits
pub have_bit : (count bits : ℕ) (rows : List (List Bool)) (bit : ℕ) → AreRows count bits rows → bit < bits → HaveBit rows bit
have_bit count bits rows bit shape lt = λ n within. subst (λ k. bit < k) (sym (shape.each n (subst (λ k. n < k) shape.len within))) lt

-- rows of a shape are of as many rows as there are
pub own_count : (count bits : ℕ) (rows : List (List Bool)) → AreRows count bits rows → AreRows (length rows) bits rows
own_count count bits rows shape = subst (λ n. AreRows n bits rows) (sym shape.len) shape
