-- Names, and the number that a list of entries gives a name. Cited by contracts.
use Rattle.std.specs.Prelude.{ℕ, Bool, List, Option}
use Rattle.std.specs.List.{list_any}
use Rattle.std.specs.Map.{lookup}
use Rattle.mir_base.specs.Words.{is_text}

-- one of the names is x
abbrev pub has_name : List (List ℕ) → List ℕ → Bool
has_name names x = list_any (is_text x) names

-- a name and its number
abbrev pub NameEntry : Type 0
NameEntry = List ℕ × ℕ

-- the number of the first entry with this name
abbrev pub number_in : List NameEntry → List ℕ → Option ℕ
number_in entries x = lookup (is_text x) entries
