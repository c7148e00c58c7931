-- The flow of bits over a list of edges that is in order of their sources. Cited by contracts.
use Rattle.std.specs.Prelude.{◌≡◌, ℕ, suc, Bool, List, length}
use Rattle.fix_solve.specs.Net.{Net}
use Rattle.bit_rows.specs.Bits.{minus_bits, row_of}
use Rattle.flow_graph.specs.declared.edges.Edge.{Edge}
use Rattle.flow_graph.specs.FlowEdges.{AreFlowEdges, edge_at}
use Rattle.flow_graph.specs.NumberTables.{number_at}
use Rattle.path_laws.specs.Paths.{AreRows}

-- values are rows of so many bits; what is true at the source of an edge flows on to its target, where that one does
-- not bar it
abbrev pub bit_flow : ℕ → List Edge → (ℕ → ℕ) → ℕ → List (List Bool) → List (List Bool)
    → Net (List Bool)
bit_flow nodes edges out bits first bar = record {
  nodes = nodes;
  edges = length edges;
  source = λ e. (edge_at edges e).source;
  target = λ e. (edge_at edges e).target;
  start = λ n. out n;
  stop = λ n. out (suc n);
  size = bits;
  height = bits;
  first = λ n. row_of first n;
  transfer = λ e x. minus_bits x (row_of bar (edge_at edges e).target);
}

-- the edges are in order of their sources, and the rows have one shape
pub record IsBitFlow (nodes : ℕ) (edges : List Edge) (out : ℕ → ℕ) (bits : ℕ)
    (first bar : List (List Bool)) : Type 0 where
  pub are : AreFlowEdges nodes edges out
  pub first_rows : AreRows nodes bits first
  pub bar_rows : AreRows nodes bits bar

-- the numbers are a table
pub record IsListedFlow (nodes : ℕ) (edges : List Edge) (firsts : List ℕ) (bits : ℕ)
    (first bar : List (List Bool)) : Type 0 where
  pub long : length firsts ≡ suc nodes
  pub flow : IsBitFlow nodes edges (number_at firsts) bits first bar
