-- What holds while the solver runs, and how much it may still do. Cited by contracts.
use Rattle.std.specs.Prelude.{◌≡◌, ℕ, suc, zero, ◌+◌, ◌-◌, ◌*◌, ◌<◌, Bool, false, if◌then◌else◌, List, length, slice_index_or, slice_set, ◌↔◌}
use Rattle.node_list.specs.Lists.{Lists}
use Rattle.fix_solve.specs.Order.{IsLeastUpper}
use Rattle.fix_solve.specs.OrderWalks.{AreNodes}
use Rattle.fix_solve.specs.Net.{Net, Arises, value_at}

-- the nodes that wait for a visit stand in one list
abbrev pub IsOneList : Lists → Type 0
IsOneList waiting = length waiting.lists ≡ 1

-- each of the values' nodes can wait in it, and those of the order are such
pub record CanWait {V : Type 0} (waiting : Lists) (values : List V) (order : List ℕ) : Type 0 where
  pub one_list : IsOneList waiting
  pub nodes : waiting.nodes ≡ length values
  pub in_range : AreNodes (length values) order

-- each value has news that fit it
pub record HaveNews {V N : Type 0} (size : V → ℕ) (fits : N → ℕ → Type 0) (values : List V)
    (news : List N) : Type 0 where
  pub long : length news ≡ length values
  pub fit : (d : V) (c : N) (n : ℕ) → n < length values
      → fits (slice_index_or news n c) (size (slice_index_or values n d))

-- where there are values of this size there is room for one
abbrev pub IsRoomy : {R : Type 0} → (R → ℕ → Type 0) → ℕ → ℕ → R → Type 0
IsRoomy fits nodes size room = (n : ℕ) → n < nodes → fits room size

-- there is room for each value
pub record HasRoom {V R : Type 0} (size : V → ℕ) (fits : R → ℕ → Type 0) (values : List V)
    (room : R) : Type 0 where
  pub each : (d : V) (n : ℕ) → n < length values → fits room (size (slice_index_or values n d))

-- the values lie above the first ones and arise, and they lie above the transfer along each edge that is done and whose
-- source does not wait
pub record Solving {V : Type 0} (below : V → V → Type 0) (net : Net V) (values : ℕ → V)
    (waits : ℕ → Bool) (done : ℕ → Type 0) : Type 0 where
  pub above_first : (n : ℕ) → n < net.nodes → below (net.first n) (values n)
  pub arises : (n : ℕ) → n < net.nodes → Arises below net n (values n)
  pub above_done : (e : ℕ) → e < net.edges → waits (net.source e) ≡ false → done e
      → below (net.transfer e (values (net.source e))) (values (net.target e))

-- a value for each node, of which that holds
pub record Working {V : Type 0} (below : V → V → Type 0) (net : Net V) (values : List V)
    (waits : ℕ → Bool) (done : ℕ → Type 0) : Type 0 where
  pub len : length values ≡ net.nodes
  pub solving : Solving below net (value_at net values) waits done

-- no edge is left to do of the nodes that do not wait
abbrev pub AllDone : ℕ → Type 0
AllDone _ = Unit {0}

-- the edges of this node are left to do, all of them
abbrev pub AllDoneBut : {V : Type 0} → Net V → ℕ → ℕ → Type 0
AllDoneBut net node e = net.source e ≡ node → e < net.start node

-- what a push along an edge leaves, and whether it changed the target
pub record Pushed {V : Type 0} (below : V → V → Type 0) (net : Net V) (number : ℕ)
    (before after : List V) (changes : Bool) : Type 0 where
  pub joined : IsLeastUpper below (value_at net before (net.target number))
      (net.transfer number (value_at net before (net.source number)))
      (value_at net after (net.target number))
  pub others : after ≡ slice_set before (net.target number) (value_at net after (net.target number))
  pub unchanged : (changes ≡ false)
      ↔ (value_at net after (net.target number) ≡ value_at net before (net.target number))

-- the sum of the first values of a function
unfoldable pub sum_below : (ℕ → ℕ) → ℕ → ℕ
sum_below f zero = zero
sum_below f (suc n) = sum_below f n + f n

-- how often a node may still be visited: once if it waits, and once for each rank that its value can still rise
abbrev pub visits_left : ℕ → Bool → ℕ → ℕ
visits_left height waits rank = (if waits then 1 else 0) + (height - rank)

-- how often nodes may still be visited, added up over the nodes, each visit with the weight of its node
abbrev pub load : {V : Type 0} → Net V → (V → ℕ) → (ℕ → ℕ) → (ℕ → V) → (ℕ → Bool) → ℕ
load net rank weight values waits =
    sum_below (λ n. weight n * visits_left net.height (waits n) (rank (values n))) net.nodes

-- how many edges leave a node
abbrev pub degree : {V : Type 0} → Net V → ℕ → ℕ
degree net n = net.stop n - net.start n

-- the pushes that may still come
abbrev pub pushes_left : {V : Type 0} → Net V → (V → ℕ) → List V → (ℕ → Bool) → ℕ
pushes_left net rank values waits = load net rank (degree net) (value_at net values) waits

-- the visits that may still come
abbrev pub nodes_left : {V : Type 0} → Net V → (V → ℕ) → List V → (ℕ → Bool) → ℕ
nodes_left net rank values waits = load net rank (λ _. 1) (value_at net values) waits
