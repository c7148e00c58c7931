-- What of a state is news, as `StateNews` keeps it. Cited by contracts of private functions and by ghost members.
use Rattle.std.specs.Prelude.{◌≡◌, ℕ, Bool, true, false, ◌||◌, nat_eq, List, [], ◌∷◌, ◌++◌}

-- whether all of the state is news; and if not, the variables that were raised: of each more may be known now
pub record NewsShape : Type 0 where
  pub whole : Bool
  pub raised : List ℕ

-- the variable is one of these
abbrev pub is_among : List ℕ → ℕ → Bool
is_among [] k = false
is_among (x ∷ xs) k = nat_eq k x || is_among xs k

-- news stand beside states of any size
abbrev pub FitsAny : NewsShape → ℕ → Type 0
FitsAny news size = Unit {0}

-- all of the state is news
abbrev pub IsAllNew : NewsShape → Type 0
IsAllNew news = news.whole ≡ true

-- nothing of it is
pub record IsNoneNew (news : NewsShape) : Type 0 where
  pub whole : news.whole ≡ false
  pub none : news.raised ≡ []

-- this variable was put behind those that were raised, or all is news now
pub record IsPut (x : ℕ) (old new : NewsShape) : Type 0 where
  pub was : new.whole ≡ false → old.whole ≡ false
  pub raised : new.whole ≡ false → new.raised ≡ old.raised ++ x ∷ []

-- it is among the news now, with what was, or all is news
pub record IsNoted (x : ℕ) (old new : NewsShape) : Type 0 where
  pub was : new.whole ≡ false → old.whole ≡ false
  pub raised : new.whole ≡ false → (k : ℕ) → is_among new.raised k ≡ false
      → (is_among old.raised k ≡ false) × (nat_eq k x ≡ false)

-- the same if it was raised, and else nothing
pub record IsNotedIf (rose : Bool) (x : ℕ) (old new : NewsShape) : Type 0 where
  pub noted : rose ≡ true → IsNoted x old new
  pub kept : rose ≡ false → new ≡ old
