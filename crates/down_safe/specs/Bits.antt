-- What rows of bits say from which the earliest nodes are read, of one bit and of all. A bit stands for an expression,
-- and says by node where it is used, killed, available or anticipatable. Cited by contracts of private functions.
use Rattle.std.specs.Prelude.{◌≡◌, ◌<◌, ℕ, Bool, true, not, ◌||◌, List, length}
use Rattle.flow_graph.specs.declared.nodes.Node.{Node}
use Rattle.flow_graph.specs.Graphs.{GraphShape}
use Rattle.flow_graph.specs.Paths.{HasEdge, Trace}
use Rattle.path_laws.specs.Paths.{HaveShape, Tell, has_bit, width}
use Rattle.motion_rewrite.specs.Placements.{ReachesAlong}
use Rattle.down_safe.specs.declared.safety.Sites.{Sites}

-- ---- one bit

-- available: every path from Start to n has, before n, a use such that neither it nor a later node before n kills
abbrev pub IsAvailableBit : List Node → (ℕ → Bool) → (ℕ → Bool) → ℕ → Type 0
IsAvailableBit nodes used killed n = (before : List ℕ) → Trace nodes n before
    → ReachesAlong (λ m. used m ≡ true) killed before

-- a frontier: the node kills, or it is neither available nor anticipatable before it, so that nothing is
-- evaluated before it for what follows it
abbrev pub is_frontier : Bool → Bool → Bool → Bool
is_frontier killed available anticipatable = killed || not (available || anticipatable)

-- earliest: it is anticipatable before n, and some predecessor is a frontier
abbrev pub IsEarliestBit : List Node → (ℕ → Bool) → (ℕ → Bool) → (ℕ → Bool) → ℕ → Type 0
IsEarliestBit nodes killed available anticipatable n = (anticipatable n ≡ true)
    × ((m : ℕ) × HasEdge nodes m n
    × (is_frontier (killed m) (available m) (anticipatable m) ≡ true))

-- ---- all bits

-- a row for each node of the graph, with as many bits as the rows of kills have
abbrev pub HaveShapeOf : Sites → List (List Bool) → Type 0
HaveShapeOf sites rows = HaveShape sites.graph.now (width sites.kills.now) rows

-- the rows say where each bit is available
abbrev pub AreAvailableRows : GraphShape → List (List Bool) → List (List Bool) → List (List Bool)
    → Type 0
AreAvailableRows graph uses kills rows = Tell graph (width kills) rows
    (λ b. IsAvailableBit graph.nodes (has_bit uses b) (has_bit kills b))

-- the rows say where each bit has a frontier
abbrev pub AreFrontierRows : List (List Bool) → List (List Bool) → List (List Bool)
    → List (List Bool) → Type 0
AreFrontierRows kills available anticipatable rows = (n b : ℕ) → n < length kills → b < width kills
    → has_bit rows b n
    ≡ is_frontier (has_bit kills b n) (has_bit available b n) (has_bit anticipatable b n)

-- the rows say where each bit is earliest
abbrev pub AreEarliestRows : GraphShape → List (List Bool) → List (List Bool) → List (List Bool)
    → List (List Bool) → Type 0
AreEarliestRows graph kills available anticipatable rows = Tell graph (width kills) rows
    (λ b. IsEarliestBit graph.nodes (has_bit kills b) (has_bit available b)
    (has_bit anticipatable b))
