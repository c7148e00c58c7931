-- Numbers that are looked up by marks. Cited by contracts; the law is for proofs only.
use Rattle.std.proofs.Common.{◌≡◌, ℕ, ◌<◌, Bool, false, List, length, get_or, slice_get, Some}
use Rattle.std.proofs.lemmas.Option.{get_or_from_slice_get}
use Rattle.flow_graph.specs.Numbering.{is_in}

-- one mark for each number below `count`, set where the number is one of these
pub record AreMarksOf (numbers : List ℕ) (count : ℕ) (marks : List Bool) : Type 0 where
  pub long : length marks ≡ count
  pub are : (x : ℕ) → x < count → slice_get marks x ≡ Some (is_in x numbers)

-- the mark of a number tells whether it is one of them
pub mark_told : (numbers : List ℕ) (count : ℕ) (marks : List Bool) (x : ℕ) → AreMarksOf numbers count marks
    → x < count → get_or marks x false ≡ is_in x numbers
mark_told numbers count marks x m lt = get_or_from_slice_get marks x (is_in x numbers) false (m.are x lt)
