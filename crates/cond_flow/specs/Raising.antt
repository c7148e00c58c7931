-- What happens to the lists of what is known and to the news where lists are joined. Cited by contracts of private
-- functions.
use Rattle.std.specs.Prelude.{◌≡◌, ℕ, ◌<◌, true, false, List, length, slice_get, Some}
use Rattle.fix_solve.specs.Pointwise.{Pointwise}
use Rattle.cond_flow.specs.NewsShapes.{NewsShape, is_among}
use Rattle.cond_flow.specs.Rules.{Rules, known_at}

-- the last list is the least above the one before it that is, at the first `count` of these variables, above the first
pub record IsRaisedTo {K : Type 0} (below : K → K → Type 0) (rules : Rules K) (raised : List ℕ)
    (count : ℕ)
    (from old new : List K) : Type 0 where
  pub above : Pointwise below old new
  pub has : (i k : ℕ) → i < count → slice_get raised i ≡ Some k
      → below (known_at rules from k) (known_at rules new k)
  pub least : (others : List K) → Pointwise below old others
      → ((k : ℕ) → is_among raised k ≡ true
      → below (known_at rules from k) (known_at rules others k))
      → Pointwise below new others

-- at all of them
abbrev pub IsRaised : {K : Type 0} → (K → K → Type 0) → Rules K → List ℕ → (from old new : List K)
    → Type 0
IsRaised below rules raised from old new =
    IsRaisedTo below rules raised (length raised) from old new

-- a list has changed at variables alone that are among the news, which have kept what was there
pub record KeepsRaised {K : Type 0} (rules : Rules K) (news : NewsShape) (old : List K)
    (news' : NewsShape)
    (new : List K) : Type 0 where
  pub long : length new ≡ length old
  pub was : news'.whole ≡ false → news.whole ≡ false
  pub same : news'.whole ≡ false → (k : ℕ) → is_among news'.raised k ≡ false
      → (is_among news.raised k ≡ false) × (known_at rules new k ≡ known_at rules old k)
