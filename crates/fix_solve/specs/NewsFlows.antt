-- What the news of values tell: along each edge, what is not news at its source is already in the value at its target.
-- Cited by contracts and by the ghost members of flows.
use Rattle.std.specs.Prelude.{◌≡◌, ℕ, ◌<◌, List, length, slice_index_or}
use Rattle.fix_solve.specs.Net.{Net, value_at}

-- where all is news nothing is told; where nothing is news the target lies above the transfer; and what the target grows
-- by does no harm
pub record NewsLaws {V N : Type 0} (below : V → V → Type 0) (size : V → ℕ) (fits : N → ℕ → Type 0)
    (is_all : N → Type 0) (is_none : N → Type 0) (net : Net V)
    (caught : ℕ → N → V → V → Type 0) : Type 0 where
  pub all : (e : ℕ) (news : N) (x w : V) → e < net.edges → is_all news → caught e news x w
  pub none : (e : ℕ) (news : N) (x w : V) → e < net.edges → fits news net.size → size x ≡ net.size
      → size w ≡ net.size
      → is_none news → below (net.transfer e x) w → caught e news x w
  pub grows : (e : ℕ) (news : N) (x w w' : V) → e < net.edges → caught e news x w → below w w'
      → caught e news x w'

-- what was not news of a node is none now: along each edge that leaves it, to a target of any value
pub record Keeps {V N : Type 0} (net : Net V) (caught : ℕ → N → V → V → Type 0) (node : ℕ)
    (news : N) (x : V) (news' : N) (x' : V) : Type 0 where
  pub along : (e : ℕ) (w : V) → e < net.edges → net.source e ≡ node → caught e news x w
      → caught e news' x' w

-- news for each node, of values of this size
pub record NewsFit {N : Type 0} (fits : N → ℕ → Type 0) (nodes size : ℕ)
    (news : List N) : Type 0 where
  pub long : length news ≡ nodes
  pub each : (d : N) (n : ℕ) → n < nodes → fits (slice_index_or news n d) size

-- all of each value is news
pub record AreAllNew {N : Type 0} (is_all : N → Type 0) (news : List N) : Type 0 where
  pub each : (d : N) (n : ℕ) → n < length news → is_all (slice_index_or news n d)

-- along each edge, what is not news at its source is already in its target
pub record Telling {V N : Type 0} (net : Net V) (caught : ℕ → N → V → V → Type 0) (values : List V)
    (news : List N) : Type 0 where
  pub along : (d : N) (e : ℕ) → e < net.edges
      → caught e (slice_index_or news (net.source e) d) (value_at net values (net.source e))
      (value_at net values (net.target e))

-- ---- flows that tell no news

-- nothing is told of any edge
abbrev pub Untold : {V N : Type 0} → ℕ → N → V → V → Type 0
Untold _ _ _ _ = Unit {0}

-- which keeps the laws, whatever the values are
pub untold_laws : {V N : Type 0} {below : V → V → Type 0} {size : V → ℕ} {fits : N → ℕ → Type 0} {is_all : N → Type 0} {is_none : N → Type 0} {net : Net V}
    → NewsLaws below size fits is_all is_none net Untold
untold_laws = record {
  all = λ e news x w h a. tt;
  none = λ e news x w h f s t a b. tt;
  grows = λ e news x w w' h a b. tt;
}
