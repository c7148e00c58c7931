-- Names for new variables of a graph. Cited by contracts, those of the passes that add variables too.
use Rattle.std.specs.Prelude.{◌≡◌, ℕ, ◌<◌, ◌≤◌, List, ◌++◌, length, slice_get, Some, take, ◌↔◌, Contains, codes}
use Rattle.mir_base.specs.Names.{numbered_name}

-- two lists have the same names
abbrev pub HaveSameNames : List (List ℕ) → List (List ℕ) → Type 0
HaveSameNames names taken = (name : List ℕ) → Contains taken name ↔ Contains names name

-- `h` and the number
abbrev pub temporary_name : ℕ → List ℕ
temporary_name = numbered_name (codes "h")

-- the name has the least number from 1 on that makes a name which is not among these
pub record IsNextName (names : List (List ℕ)) (name : List ℕ) : Type 0 where
  pub number : ℕ
  pub positive : 1 ≤ number
  pub spelled : name ≡ temporary_name number
  pub fresh : Contains names name → ⊥
  pub least : (smaller : ℕ) → 1 ≤ smaller → smaller < number
      → Contains names (temporary_name smaller)

-- the names of so many temporaries of a graph whose variables have the names `vars`
pub record AreTemporaryNames (vars : List (List ℕ)) (count : ℕ)
    (names : List (List ℕ)) : Type 0 where
  pub long : length names ≡ count
  pub each : (k : ℕ) (name : List ℕ) → slice_get names k ≡ Some name
      → IsNextName (vars ++ take k names) name
