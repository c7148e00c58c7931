-- A path problem as its functions see it: what holds of it, and what the rows on the way to its answers say. Cited by
-- contracts.
use Rattle.std.specs.Prelude.{◌≡◌, ℕ, ◌+◌, ◌*◌, ◌<◌, ◌↔◌, ◌&&◌, ◌||◌, not, cond, Bool, true, false, List, [], ◌∷◌, length, map, replicate, slice_get, Some}
use Rattle.std.specs.List.{list_any}
use Rattle.flow_graph.specs.declared.edges.Edge.{Edge}
use Rattle.bit_rows.specs.Bits.{row_of}
use Rattle.flow_graph.specs.Graphs.{IsGraph}
use Rattle.node_list.specs.Lists.{list_at}
use Rattle.path_laws.specs.declared.between.BlockEdges.{BlockEdges}
use Rattle.path_laws.specs.declared.problems.Problem.{Problem}
use Rattle.path_laws.specs.Between.{AreBetween, AreBlockEdges}
use Rattle.path_laws.specs.Blockwise.{AreGrowing, AreBarredByPaths, HasAnswer, IsWhole, initial_bit, brought, flow_order, handed_on, passed_all}
use Rattle.path_laws.specs.Crossings.{push_room}
use Rattle.path_laws.specs.Leads.{Leads}
use Rattle.flow_graph.specs.FlowEdges.{StepAlong}
use Rattle.path_laws.specs.Paths.{AreRows, HaveShape, Tell, has_bit, width}
use Rattle.path_laws.specs.RowLaws.{Joined}
use Rattle.path_laws.specs.Seeds.{IsPathProblem, bars_of, is_end, passed_row, seeds_of}

-- its graph keeps the laws of graphs
abbrev pub HasGraph : Problem → Type 0
HasGraph p = IsGraph p.graph.now.vars p.graph.now.received p.graph.now.nodes

-- its edges and blocks are those of its graph, and its rows have one shape
abbrev pub IsProblem : Problem → Type 0
IsProblem p = IsPathProblem p.graph.now.nodes p.edges.now p.blocks.now p.bits p.born.now p.stop.now

-- the nodes of the block of this number, in the order of the flow
abbrev pub orders : Problem → ℕ → List ℕ
orders p b = flow_order p.against (list_at p.blocks.now.lists b)

-- at which nodes each bit is seeded
abbrev pub is_seed : Problem → ℕ → ℕ → Bool
is_seed p = has_bit (seeds_of p.every p.against p.graph.now.nodes p.born.now p.stop.now)

-- which bits each node bars, as rows
abbrev pub bars_in : Problem → List (List Bool)
bars_in p = bars_of p.every p.born.now p.stop.now

-- at which nodes each bit is barred
abbrev pub is_barred : Problem → ℕ → ℕ → Bool
is_barred p = has_bit (bars_in p)

-- the row that leaves a node where this one comes to it
abbrev pub row_after : Problem → ℕ → List Bool → List Bool
row_after p = passed_row p.every p.against p.graph.now.nodes p.born.now p.stop.now

-- the row of which the seeds of a node are made: what it stops, where what is stopped is seeded, and else what is born
abbrev pub begun_row : Problem → ℕ → List Bool
begun_row p n = cond p.every
    (cond (is_end p.against p.graph.now.nodes n) (row_of p.born.now n) (row_of p.stop.now n))
    (row_of p.born.now n)

-- the row that leaves these nodes, one after the other, where this one comes to the first
abbrev pub row_through : Problem → List ℕ → List Bool → List Bool
row_through p [] row = row
row_through p (n ∷ path) row = row_through p path (row_after p n row)

-- what comes out of each block where nothing comes to it
abbrev pub block_seeds : Problem → List (List Bool)
block_seeds p = map
    (λ list. row_through p (flow_order p.against list) (replicate p.bits false)) p.blocks.now.lists

-- ---- rows

-- one row for each block, each of as many bits as the problem has
abbrev pub HaveBlockShape : Problem → List (List Bool) → Type 0
HaveBlockShape p rows = AreRows (length p.blocks.now.lists) p.bits rows

-- one row for each node, each of as many bits as the rows of births have
abbrev pub HaveBornShape : Problem → List (List Bool) → Type 0
HaveBornShape p rows = HaveShape p.graph.now (width p.born.now) rows

-- one row for each of so many blocks says which bits some node of the block bars
abbrev pub HaveBarred : Problem → ℕ → List (List Bool) → Type 0
HaveBarred p count rows = AreBarredByPaths count p.bits (orders p) (is_barred p) rows

-- these rows say to which blocks each bit comes over these edges from a block that seeds it
abbrev pub AreLed : Problem → List Edge → List (List Bool) → Type 0
AreLed p edges rows = (c b : ℕ) → c < length p.blocks.now.lists → b < p.bits
    → (has_bit rows b c ≡ true)
    ↔ Leads (StepAlong edges) (λ k. passed_all (is_seed p b) (is_barred p b) false (orders p k))
    (λ k. list_any (is_barred p b) (orders p k)) c

-- rows of nodes as the answers begin
pub record AreInitial (p : Problem) (rows : List (List Bool)) : Type 0 where
  pub shape : HaveShape p.graph.now p.bits rows
  pub are : (n b : ℕ) → n < length p.graph.now.nodes → b < p.bits
      → has_bit rows b n ≡ initial_bit p.against (is_seed p b) n

-- rows of nodes to which bits of the answers are joined
abbrev pub GrowTo : Problem → List (List Bool) → Type 0
GrowTo p rows = AreGrowing p.against p.graph.now.nodes p.bits (is_seed p) (is_barred p) rows

-- of the answer at this node no bit is missing
abbrev pub HasWhole : Problem → List (List Bool) → ℕ → Type 0
HasWhole p rows n = IsWhole p.against p.graph.now.nodes p.bits (is_seed p) (is_barred p) rows n

-- nor of that at the first node of each block
abbrev pub HaveFirsts : Problem → List (List Bool) → Type 0
HaveFirsts p rows = (c n : ℕ) → c < length p.blocks.now.lists → slice_get (orders p c) 0 ≡ Some n
    → HasWhole p rows n

-- nor of those at the nodes of the blocks below this number
abbrev pub HaveBlocks : Problem → ℕ → List (List Bool) → Type 0
HaveBlocks p block rows = (c i n : ℕ) → c < block → slice_get (orders p c) i ≡ Some n
    → HasWhole p rows n

-- what comes over this edge is joined to the row of the first node of the block to which it leads
abbrev pub TakesIn : Problem → Edge → List (List Bool) → List (List Bool) → List (List Bool)
    → Type 0
TakesIn p edge work rows after = (n : ℕ) × (slice_get (orders p edge.target) 0 ≡ Some n)
    × (n < length p.graph.now.nodes)
    × Joined p.bits rows after n
    (λ b. brought p.against (is_barred p b) n (has_bit work b edge.source))

-- what the row of a node brings to that of the next of its block is joined to that one
abbrev pub HandsOn : Problem → ℕ → ℕ → List (List Bool) → List (List Bool) → Type 0
HandsOn p before n rows after = Joined p.bits rows after n
    (λ b. handed_on p.against (is_seed p b) (is_barred p b) before n (has_bit rows b before))

-- what came to a node and it does not bar, and what it seeds, is joined to the row of the next of its block
abbrev pub HandsAlong : Problem → ℕ → ℕ → List (List Bool) → List (List Bool) → Type 0
HandsAlong p before n rows after = Joined p.bits rows after n
    (λ b. is_seed p b before || (has_bit rows b before && not (is_barred p b before)))

-- the rows of all nodes are answers
pub record HaveAnswers (p : Problem) (rows : List (List Bool)) : Type 0 where
  pub shape : HaveShape p.graph.now p.bits rows
  pub are : Tell p.graph.now p.bits rows
      (λ b n. HasAnswer p.against p.graph.now.nodes (is_seed p b) (is_barred p b) n)

-- the rows of all nodes are answers, for as many bits as the rows of births have
abbrev pub AreSolved : Problem → List (List Bool) → Type 0
AreSolved p rows = Tell p.graph.now (width p.born.now) rows
    (λ b n. HasAnswer p.against p.graph.now.nodes (is_seed p b) (is_barred p b) n)

-- ---- edges between blocks, and pushes along them

-- these are all edges between the blocks of the problem
abbrev pub HasBetween : Problem → BlockEdges → Type 0
HasBetween p made = AreBlockEdges p.against p.graph.now.nodes p.blocks.now.lists made

-- this list has all edges between the blocks of the problem, in order of their sources
abbrev pub AreAllBetween : Problem → List Edge → Type 0
AreAllBetween p edges = (firsts : List ℕ)
    × AreBetween p.against p.graph.now.nodes p.blocks.now.lists
    (length p.blocks.now.lists) edges firsts

-- by how much the counter may rise by pushes along these edges
abbrev pub room_along : Problem → BlockEdges → ℕ
room_along p made = length made.edges.items * (p.bits + 1)

-- by how much it may rise in all, for as many bits as the rows of births have
abbrev pub born_room : Problem → ℕ
born_room p = push_room p.blocks.now p.edges.now p.born.now
