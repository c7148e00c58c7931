-- A flow of bits over the edges between blocks, as `BitFlow` has it. Cited by contracts and by the ghost members of
-- `BitFlow`.
use Rattle.std.specs.Prelude.{◌≡◌, ℕ, ◌<◌, ◌↔◌, Bool, true, List, length}
use Rattle.fix_solve.specs.Net.{Net, NetLaws}
use Rattle.fix_solve.specs.NewsFlows.{NewsLaws}
use Rattle.flow_graph.specs.declared.edges.Edge.{Edge}
use Rattle.flow_graph.specs.FlowEdges.{StepAlong}
use Rattle.flow_graph.specs.NumberTables.{number_at}
use Rattle.path_laws.specs.declared.between.BlockEdges.{BlockEdges}
use Rattle.path_laws.specs.declared.bits.BitFlow.{BitFlow}
use Rattle.path_laws.specs.declared.bits.Seeds.{Seeds}
use Rattle.path_laws.specs.declared.bits.Seeds.TheVariants.{OfProblem, OfRows}
use Rattle.path_laws.specs.Leads.{Leads}
use Rattle.path_laws.specs.Nets.{IsListedFlow, bit_flow}
use Rattle.path_laws.specs.NetsLaws.{bit_laws}
use Rattle.path_laws.specs.Order.{BelowBits, trues}
use Rattle.path_laws.specs.Paths.{has_bit}
use Rattle.path_laws.specs.Problem.{IsProblem, block_seeds}
use Rattle.path_laws.specs.RowMarks.{AllMarked, AreMarksFor, NoneMarked, caught_along, caught_laws}

-- the edges are in order of their sources, and the rows of seeds and of stops have one shape: one row for each block, so
-- many bits
abbrev pub IsBlockFlow : BlockEdges → List (List Bool) → List (List Bool) → ℕ → Type 0
IsBlockFlow between seeds stops bits =
    IsListedFlow (length seeds) between.edges.items between.firsts.items bits seeds stops

-- the rows of the seeds
abbrev pub seed_rows : Seeds → List (List Bool)
seed_rows (OfProblem problem) = block_seeds problem.now
seed_rows (OfRows rows) = rows.now

-- a block has seeds
abbrev pub HasSeed : Seeds → ℕ → Type 0
HasSeed (OfProblem problem) block = IsProblem problem.now
    × (block < length problem.now.blocks.now.lists)
HasSeed (OfRows rows) block = block < length rows.now

-- the edges between so many blocks are in order of their sources, each block has seeds, and the rows have one shape
pub record IsSeeded (count : ℕ) (between : BlockEdges) (seeds : Seeds) (stops : List (List Bool))
    (bits : ℕ) : Type 0 where
  pub listed : IsListedFlow count between.edges.items between.firsts.items bits
      (seed_rows seeds) stops
  pub seeds_are : (block : ℕ) → block < count → HasSeed seeds block

-- and so it is of a flow
abbrev pub IsInOrder : {L : Type 0} → BitFlow L → Type 0
IsInOrder f = IsSeeded f.count f.between.now f.seeds f.stops.now f.bits

-- the flow as the solver sees it
abbrev pub net_of : {L : Type 0} → BitFlow L → Net (List Bool)
net_of f = bit_flow f.count f.between.now.edges.items (number_at f.between.now.firsts.items) f.bits
    (seed_rows f.seeds) f.stops.now

-- what is not news has been taken along an edge
abbrev pub caught_in : {L : Type 0} → BitFlow L → ℕ → List Bool → List Bool → List Bool → Type 0
caught_in f = caught_along f.between.now.edges.items f.stops.now

-- it keeps the laws of flows
pub flow_laws : {L : Type 0} (f : BitFlow L) → IsInOrder f → NetLaws BelowBits length trues (net_of f)
flow_laws f is = bit_laws f.count f.between.now.edges.items (number_at f.between.now.firsts.items) f.bits (seed_rows f.seeds) f.stops.now is.listed.flow

-- and those of news
pub news_laws : {L : Type 0} (f : BitFlow L) → IsInOrder f → NewsLaws BelowBits length AreMarksFor AllMarked NoneMarked (net_of f) (caught_in f)
news_laws f is = caught_laws f.count f.between.now.edges.items (number_at f.between.now.firsts.items) f.bits (seed_rows f.seeds) f.stops.now is.listed.flow

-- of so many bits the rows say out of which blocks each comes over these edges: from a seed, over blocks of which none
-- stops it
abbrev pub AreOut : List Edge → List (List Bool) → List (List Bool) → ℕ → List (List Bool) → Type 0
AreOut edges seeds stops bits rows = (c b : ℕ) → c < length seeds → b < bits
    → (has_bit rows b c ≡ true) ↔ Leads (StepAlong edges) (has_bit seeds b) (has_bit stops b) c
