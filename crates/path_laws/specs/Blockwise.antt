-- A bit along the nodes of a block, in the order in which the flow passes them: what comes out of a node, of a block,
-- and what a block does to it as a whole. Cited by contracts.
use Rattle.std.specs.Prelude.{◌≡◌, ℕ, ◌<◌, Bool, true, false, not, ◌||◌, ◌&&◌, List, [], ◌∷◌, length, reverse}
use Rattle.std.specs.List.{list_any}
use Rattle.flow_graph.specs.declared.nodes.Node.{Node}
use Rattle.flow_graph.specs.Paths.{HasEdge}
use Rattle.path_laws.specs.Leads.{Leads, steps_of}
use Rattle.path_laws.specs.Paths.{AreRows, has_bit}

-- whether the bit holds after node n, where x says whether it came to the node: it is a seed there, or it came and the
-- node does not bar it
abbrev pub passed : (ℕ → Bool) → (ℕ → Bool) → ℕ → Bool → Bool
passed seed bar n x = seed n || (x && not (bar n))

-- whether it holds after these nodes, which are passed one after the other
abbrev pub passed_all : (ℕ → Bool) → (ℕ → Bool) → Bool → List ℕ → Bool
passed_all seed bar x [] = x
passed_all seed bar x (n ∷ path) = passed_all seed bar (passed seed bar n x) path

-- the nodes of a block in the order of the flow: along the edges as they are passed, against them the other way round
abbrev pub flow_order : Bool → List ℕ → List ℕ
flow_order true list = reverse list
flow_order false list = list

-- the answer at a node: against the edges whether its bit comes from a seed, and along them whether that of a
-- predecessor does
abbrev pub HasAnswer : Bool → List Node → (ℕ → Bool) → (ℕ → Bool) → ℕ → Type 0
HasAnswer true nodes seed bar n = Leads (steps_of true nodes) seed bar n
HasAnswer false nodes seed bar n = (m : ℕ) × HasEdge nodes m n
    × Leads (steps_of false nodes) seed bar m

-- the row of each block says which bits are barred by some node of the list that belongs to the block
pub record AreBarredByPaths (count bits : ℕ) (paths : ℕ → List ℕ) (stop : ℕ → ℕ → Bool)
    (rows : List (List Bool)) : Type 0 where
  pub shape : AreRows count bits rows
  pub are : (c b : ℕ) → c < count → b < bits → has_bit rows b c ≡ list_any (stop b) (paths c)

-- ---- answers

-- what the row of a node begins with: against the edges its seeds, and along them nothing
abbrev pub initial_bit : Bool → (ℕ → Bool) → ℕ → Bool
initial_bit true seed n = seed n
initial_bit false seed n = false

-- what an edge between blocks brings to the answer at the first node of a block: what comes out of the other block, and
-- against the edges only what the node does not bar
abbrev pub brought : Bool → (ℕ → Bool) → ℕ → Bool → Bool
brought true bar n x = x && not (bar n)
brought false bar n x = x

-- what the answer x at node `before` gives to the answer at node n, the next of its block: against the edges x, unless
-- n bars it; along them what holds after `before`
abbrev pub handed_on : Bool → (ℕ → Bool) → (ℕ → Bool) → ℕ → ℕ → Bool → Bool
handed_on true seed bar before n x = x && not (bar n)
handed_on false seed bar before n x = passed seed bar before x

-- the true bits of the rows are bits of the answers, and those that the rows begin with are true
pub record AreGrowing (against : Bool) (nodes : List Node) (bits : ℕ) (seed stop : ℕ → ℕ → Bool)
    (rows : List (List Bool)) : Type 0 where
  pub shape : AreRows (length nodes) bits rows
  pub sound : (n b : ℕ) → n < length nodes → b < bits → has_bit rows b n ≡ true
      → HasAnswer against nodes (seed b) (stop b) n
  pub initial : (n b : ℕ) → n < length nodes → b < bits → initial_bit against (seed b) n ≡ true
      → has_bit rows b n ≡ true

-- no bit of the answer at node n is missing
abbrev pub IsWhole : Bool → List Node → ℕ → (ℕ → ℕ → Bool) → (ℕ → ℕ → Bool) → List (List Bool) → ℕ
    → Type 0
IsWhole against nodes bits seed stop rows n = (b : ℕ) → b < bits
    → HasAnswer against nodes (seed b) (stop b) n → has_bit rows b n ≡ true
