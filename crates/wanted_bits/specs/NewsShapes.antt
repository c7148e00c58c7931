-- Some variables, as `SomeVariables` keeps them, and when they are news of a list. Cited by contracts of private
-- functions and by ghost members.
use Rattle.std.specs.Prelude.{◌≡◌, ℕ, Bool, true, false, ◌||◌, List, [], length}
use Rattle.flow_graph.specs.Numbering.{is_in}
use Rattle.wanted_bits.specs.Walking.{bits_at}

-- whether they are all variables; and if not, which
pub record VariablesShape : Type 0 where
  pub whole : Bool
  pub listed : List ℕ

-- the variable is one of these
abbrev pub is_meant : VariablesShape → ℕ → Bool
is_meant some k = some.whole || is_in k some.listed

-- each of the first list stands in the second
abbrev pub StandIn : List ℕ → List ℕ → Type 0
StandIn those listed = (k : ℕ) → is_in k those ≡ true → is_in k listed ≡ true

-- each of this list is one of them
abbrev pub AreMeant : List ℕ → VariablesShape → Type 0
AreMeant those some = (k : ℕ) → is_in k those ≡ true → is_meant some k ≡ true

-- these variables were put to what there was, or all are among them now
pub record AreNoted (those : List ℕ) (old new : VariablesShape) : Type 0 where
  pub kept : (k : ℕ) → is_meant old k ≡ true → is_meant new k ≡ true
  pub noted : AreMeant those new

-- ---- as news

-- news stand beside lists of any size
abbrev pub FitsAny : VariablesShape → ℕ → Type 0
FitsAny news size = Unit {0}

-- all of the list is news
abbrev pub IsAllNew : VariablesShape → Type 0
IsAllNew news = news.whole ≡ true

-- nothing of it is
pub record IsNoneNew (news : VariablesShape) : Type 0 where
  pub whole : news.whole ≡ false
  pub none : news.listed ≡ []

-- a list has changed at variables alone that are among the news, which have kept what was there
pub record KeepsRaised (news : VariablesShape) (old : List ℕ) (news' : VariablesShape)
    (new : List ℕ) : Type 0 where
  pub long : length new ≡ length old
  pub same : (k : ℕ) → is_meant news' k ≡ false
      → (is_meant news k ≡ false) × (bits_at new k ≡ bits_at old k)
