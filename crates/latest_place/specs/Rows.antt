-- What rows of bits say from which the lazy placement is read, of one bit and of all. A bit stands for an expression,
-- and says by node where it is earliest, used, delayed, latest or isolated. Cited by contracts of private functions.
use Rattle.std.specs.Prelude.{◌≡◌, ◌⊎◌, ◌&&◌, ℕ, Bool, true, false, not, List}
use Rattle.flow_graph.specs.declared.nodes.Node.{Node}
use Rattle.flow_graph.specs.Blocks.{AreBlocksOf}
use Rattle.flow_graph.specs.Edges.{edges_of}
use Rattle.flow_graph.specs.Graphs.{GraphShape}
use Rattle.flow_graph.specs.Paths.{HasEdge}
use Rattle.path_laws.specs.Paths.{BornAhead, BornBefore, HaveShape, Tell, has_bit, width}
use Rattle.latest_place.specs.declared.equations.Uses.{Uses}

-- ---- one bit

-- the bit is delayed at n: n is earliest, or every path to n has an earliest node before n such that no node from that
-- one up to n, n left out, uses the expression. `early` and `uses` tell of each node the bit of one expression
abbrev pub IsDelayedBit : List Node → (ℕ → Bool) → (ℕ → Bool) → ℕ → Type 0
IsDelayedBit nodes early uses n = (early n ≡ true)
    ⊎ BornBefore nodes (λ m. early m && not (uses m)) uses n

-- the bit is latest at n: it is delayed there, and n uses the expression or has a successor at which it is not delayed
abbrev pub IsLatestBit : List Node → (ℕ → Bool) → (ℕ → Bool) → ℕ → Type 0
IsLatestBit nodes delayed uses n = (delayed n ≡ true)
    × ((uses n ≡ true) ⊎ ((s : ℕ) × HasEdge nodes n s × (delayed s ≡ false)))

-- from some successor of n a path comes, through nodes that are not latest, to a use that is not latest
abbrev pub IsNeededBit : List Node → (ℕ → Bool) → (ℕ → Bool) → ℕ → Type 0
IsNeededBit nodes latest uses n = (s : ℕ) × HasEdge nodes n s
    × BornAhead nodes (λ m. uses m && not (latest m)) latest s

-- ---- all bits

-- with the edges and the blocks of the graph, one row for each node in both, and as many bits in the uses as in these rows
pub record AreLikeUses (uses : Uses) (rows : List (List Bool)) : Type 0 where
  pub edges_are : uses.edges.now ≡ edges_of uses.graph.now.nodes
  pub blocks_are : AreBlocksOf uses.graph.now.nodes uses.blocks.now
  pub rows_are : HaveShape uses.graph.now (width rows) rows
  pub uses_are : HaveShape uses.graph.now (width rows) uses.rows.now

-- the rows say where each bit is delayed
abbrev pub AreDelayedRows : GraphShape → List (List Bool) → List (List Bool) → List (List Bool)
    → Type 0
AreDelayedRows graph early uses rows =
    Tell graph (width early) rows (λ b. IsDelayedBit graph.nodes (has_bit early b) (has_bit uses b))

-- the rows say where each bit is latest
abbrev pub AreLatestRows : GraphShape → List (List Bool) → List (List Bool) → List (List Bool)
    → Type 0
AreLatestRows graph delayed uses rows = Tell graph (width delayed) rows
    (λ b. IsLatestBit graph.nodes (has_bit delayed b) (has_bit uses b))

-- the rows say where each bit is needed
abbrev pub AreNeededRows : GraphShape → List (List Bool) → List (List Bool) → List (List Bool)
    → Type 0
AreNeededRows graph latest uses rows = Tell graph (width latest) rows
    (λ b. IsNeededBit graph.nodes (has_bit latest b) (has_bit uses b))

-- the rows say where each bit is isolated, which is where it is not needed
abbrev pub AreIsolatedRows : GraphShape → List (List Bool) → List (List Bool) → List (List Bool)
    → Type 0
AreIsolatedRows graph latest uses rows = Tell graph (width latest) rows
    (λ b n. IsNeededBit graph.nodes (has_bit latest b) (has_bit uses b) n → ⊥)

-- the rows have the latest bits that are not isolated
abbrev pub AreInsertedRows : List (List Bool) → List (List Bool) → List (List Bool) → Type 0
AreInsertedRows latest isolated rows = (n b : ℕ)
    → has_bit rows b n ≡ (has_bit latest b n && not (has_bit isolated b n))

-- the rows have the used bits that are not both latest and isolated
abbrev pub AreReplacedRows : List (List Bool) → List (List Bool) → List (List Bool)
    → List (List Bool) → Type 0
AreReplacedRows uses latest isolated rows = (n b : ℕ)
    → has_bit rows b n ≡ (has_bit uses b n && not (has_bit latest b n && has_bit isolated b n))
