-- A flow as contracts see it, what its solutions are, and which is the least. Cited by contracts.
use Rattle.std.specs.Prelude.{◌≡◌, ℕ, ◌+◌, ◌*◌, ◌<◌, ◌≤◌, List, length, slice_index_or}
use Rattle.fix_solve.specs.Order.{IsLeastUpper}

-- numbered nodes and edges, a first value for each node, a transfer along each edge
pub record Net (V : Type 0) : Type 0 where
  pub nodes : ℕ
  pub edges : ℕ
  pub source : ℕ → ℕ
  pub target : ℕ → ℕ
  -- the first number of a node's edges, and the number past the last
  pub start : ℕ → ℕ
  pub stop : ℕ → ℕ
  -- the size of all values, and a bound on the ranks of those
  pub size : ℕ
  pub height : ℕ
  pub first : ℕ → V
  pub transfer : ℕ → V → V

-- the edges are numbered by source; sizes are kept, and the transfer is monotone
pub record NetLaws {V : Type 0} (below : V → V → Type 0) (size : V → ℕ) (rank : V → ℕ)
    (net : Net V) : Type 0 where
  pub sources : (e : ℕ) → e < net.edges → net.source e < net.nodes
  pub targets : (e : ℕ) → e < net.edges → net.target e < net.nodes
  pub starts : (n : ℕ) → n < net.nodes → net.start n ≤ net.edges
  pub stops : (n : ℕ) → n < net.nodes → net.stop n ≤ net.edges
  pub within : (n e : ℕ) → n < net.nodes → net.start n ≤ e → e < net.stop n → net.source e ≡ n
  pub from_start : (e : ℕ) → e < net.edges → net.start (net.source e) ≤ e
  pub to_stop : (e : ℕ) → e < net.edges → e < net.stop (net.source e)
  pub first_size : (n : ℕ) → n < net.nodes → size (net.first n) ≡ net.size
  pub transfer_size : (e : ℕ) (x : V) → e < net.edges → size x ≡ net.size
      → size (net.transfer e x) ≡ net.size
  pub monotone : (e : ℕ) (x y : V) → e < net.edges → size x ≡ net.size → below x y
      → below (net.transfer e x) (net.transfer e y)
  pub ranks : (x : V) → size x ≡ net.size → rank x ≤ net.height

-- the new value is the least upper bound of the old one and the transfer along an edge
abbrev pub Joins : {V : Type 0} → (V → V → Type 0) → Net V → ℕ → V → V → V → Type 0
Joins below net number from old new = IsLeastUpper below old (net.transfer number from) new

-- and along an edge of a node to itself
abbrev pub JoinsItself : {V : Type 0} → (V → V → Type 0) → Net V → ℕ → V → V → Type 0
JoinsItself below net number old new = Joins below net number old old new

-- the number of edges, for each rank of a value and one more
abbrev pub most_pushes : {V : Type 0} → Net V → ℕ
most_pushes net = net.edges * (net.height + 1)

-- the values lie above the first ones, and above the transfer along each edge
pub record Solves {V : Type 0} (below : V → V → Type 0) (net : Net V)
    (values : ℕ → V) : Type 0 where
  pub above_first : (n : ℕ) → n < net.nodes → below (net.first n) (values n)
  pub above_edges : (e : ℕ) → e < net.edges
      → below (net.transfer e (values (net.source e))) (values (net.target e))

-- which values arise at a node: its first value, and the least upper bound of a value that arises there and of the
-- transfer along an edge of a value that arises at the edge's source
pub data Arises {V : Type 0} (below : V → V → Type 0) (net : Net V) : ℕ → V → Type 0 where
  at_first : (n : ℕ) → Arises below net n (net.first n)
  by_edge : (e : ℕ) (from old new : V) → e < net.edges → Arises below net (net.source e) from
      → Arises below net (net.target e) old → IsLeastUpper below old (net.transfer e from) new
      → Arises below net (net.target e) new

-- a solution that lies below every solution; by antisymmetry there is one. Its values arise, so that what holds of the
-- first values and goes over the edges holds of them
pub record IsLeastSolution {V : Type 0} (below : V → V → Type 0) (net : Net V)
    (values : ℕ → V) : Type 0 where
  pub solves : Solves below net values
  pub least : (others : ℕ → V) → Solves below net others → (n : ℕ) → n < net.nodes
      → below (values n) (others n)
  pub arises : (n : ℕ) → n < net.nodes → Arises below net n (values n)

-- the value of a node in a list of values
abbrev pub value_at : {V : Type 0} → Net V → List V → ℕ → V
value_at net values n = slice_index_or values n (net.first n)

-- each value of the list has the flow's size
abbrev pub AreOfSize : {V : Type 0} → (V → ℕ) → Net V → List V → Type 0
AreOfSize size net values = (n : ℕ) → n < net.nodes → size (value_at net values n) ≡ net.size

-- the values of the list are the least solution
abbrev pub HoldsLeast : {V : Type 0} → (V → V → Type 0) → Net V → List V → Type 0
HoldsLeast below net values = IsLeastSolution below net (value_at net values)

-- one value for each node, and it is the first one
pub record HoldsFirst {V : Type 0} (net : Net V) (values : List V) : Type 0 where
  pub len : length values ≡ net.nodes
  pub each : (n : ℕ) → n < net.nodes → value_at net values n ≡ net.first n
