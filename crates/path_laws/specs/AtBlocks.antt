-- What comes to blocks over the edges between them, where rows say what blocks do to bits. Cited by contracts.
use Rattle.std.specs.Prelude.{◌≡◌, ℕ, ◌<◌, ◌↔◌, ◌||◌, ◌&&◌, not, nat_eq, Bool, true, false, List, [], ◌∷◌, length, reverse, slice_get, Some}
use Rattle.flow_graph.specs.declared.edges.Edge.{Edge}
use Rattle.flow_graph.specs.declared.nodes.Node.{Node}
use Rattle.flow_graph.specs.Paths.{Begins, Ends, HasEdge}
use Rattle.path_laws.specs.Between.{AreBetween}
use Rattle.path_laws.specs.Blockwise.{passed_all}
use Rattle.path_laws.specs.Flow.{AreOut}
use Rattle.path_laws.specs.Paths.{AreRows, BornAhead, BornBefore, has_bit}

-- ---- what blocks do to bits

-- each bit is stopped at Start, and comes out of a block from which an edge leads where it is not lost in it, and came to
-- it or is held in it: so says passing the nodes of the block, one after the other
pub record ArePassedAlong (nodes : List Node) (lists : List (List ℕ)) (bits : ℕ)
    (born stop : ℕ → ℕ → Bool) (lost held : List (List Bool)) : Type 0 where
  pub start : (b : ℕ) → b < bits → stop b 0 ≡ true
  pub does : (c b last next : ℕ) (list : List ℕ) (x : Bool) → b < bits
      → slice_get lists c ≡ Some list → Ends last list → HasEdge nodes last next
      → passed_all (born b) (stop b) x list ≡ (not (has_bit lost b c) && (x || has_bit held b c))

-- each bit comes out of a block at its first node where it is born in it, or came to it and is not stopped in it: so says
-- passing the nodes of the block, one after the other from its last
abbrev pub ArePassedBack : List (List ℕ) → ℕ → (ℕ → ℕ → Bool) → (ℕ → ℕ → Bool) → List (List Bool)
    → List (List Bool) → Type 0
ArePassedBack lists bits bears stops born stop = (c b : ℕ) (list : List ℕ) (x : Bool) → b < bits
    → slice_get lists c ≡ Some list
    → passed_all (bears b) (stops b) x (reverse list)
    ≡ (has_bit born b c || (x && not (has_bit stop b c)))

-- ---- what comes to blocks

-- the rows tell for which blocks each bit is so at the first node: on every path from Start it is born before that node,
-- and not stopped after that
abbrev pub AreBornAtHeads : List Node → List (List ℕ) → ℕ → (ℕ → ℕ → Bool) → (ℕ → ℕ → Bool)
    → List (List Bool) → Type 0
AreBornAtHeads nodes lists bits born stop rows = (c b head : ℕ) (list : List ℕ) → b < bits
    → slice_get lists c ≡ Some list → Begins head list
    → (has_bit rows b c ≡ true) ↔ BornBefore nodes (born b) (stop b) head

-- the rows tell for which blocks each bit is so at some successor of the last node: some path from there ends at a node
-- at which it is born, and no node before that one stops it
abbrev pub AreBornAtEnds : List Node → List (List ℕ) → ℕ → (ℕ → ℕ → Bool) → (ℕ → ℕ → Bool)
    → List (List Bool) → Type 0
AreBornAtEnds nodes lists bits born stop rows = (c b last : ℕ) (list : List ℕ) → b < bits
    → slice_get lists c ≡ Some list → Ends last list
    → (has_bit rows b c ≡ true)
    ↔ ((s : ℕ) × HasEdge nodes last s × BornAhead nodes (born b) (stop b) s)

-- ---- over edges

-- each of these edges leads from one of so many blocks to one
abbrev pub LeadWithin : ℕ → List Edge → Type 0
LeadWithin count edges = (e : ℕ) (edge : Edge) → slice_get edges e ≡ Some edge
    → (edge.source < count) × (edge.target < count)

-- whether some edge of a list brings a bit to the block of this number, from these that it comes out of
abbrev pub comes_over : List Edge → (ℕ → Bool) → ℕ → Bool
comes_over [] out c = false
comes_over (e ∷ edges) out c = (nat_eq e.target c && out e.source) || comes_over edges out c

-- the rows tell which bits the edges bring to each of so many blocks, where other rows tell which come out of it
pub record AreBrought (count bits : ℕ) (edges : List Edge)
    (out rows : List (List Bool)) : Type 0 where
  pub shape : AreRows count bits rows
  pub are : (c b : ℕ) → c < count → b < bits → has_bit rows b c ≡ comes_over edges (has_bit out b) c

-- and those come out of it that flow over the edges from where they are seeded
pub record AreJoinedOver (edges : List Edge) (seeds stops : List (List Bool)) (bits : ℕ)
    (rows : List (List Bool)) : Type 0 where
  pub out : List (List Bool)
  pub leads : AreOut edges seeds stops bits out
  pub brought : AreBrought (length seeds) bits edges out rows

-- and these are the edges between the blocks
pub record ComeOver (against : Bool) (nodes : List Node) (lists : List (List ℕ)) (bits : ℕ)
    (seeds stops rows : List (List Bool)) : Type 0 where
  pub edges : List Edge
  pub firsts : List ℕ
  pub between : AreBetween against nodes lists (length lists) edges firsts
  pub joined : AreJoinedOver edges seeds stops bits rows
