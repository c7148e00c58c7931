-- The wanted bits as a flow over blocks, against the edges of a graph: the value of a block are the numbers behind its
-- last node. Cited by the ghost members of `WantedFlow` and by contracts of private functions.
use Rattle.std.specs.Prelude.{ℕ, suc, ◌*◌, min, List, map, length, replicate, Option}
use Rattle.fix_solve.specs.Net.{Net}
use Rattle.node_list.specs.Lists.{list_at}
use Rattle.flow_graph.specs.declared.edges.Edge.{Edge}
use Rattle.flow_graph.specs.FlowEdges.{edge_at}
use Rattle.flow_graph.specs.Graphs.{GraphShape}
use Rattle.flow_graph.specs.NumberTables.{number_at}
use Rattle.wanted_bits.specs.declared.picking.Shift.{Shift}
use Rattle.wanted_bits.specs.Wanted.{Asked}
use Rattle.wanted_bits.specs.Walking.{before_list}

-- at most 64 of each
abbrev pub capped : List ℕ → List ℕ
capped bits = map (min 64) bits

-- the flow over these edges between the blocks: along an edge goes what is wanted before the block that it leaves
abbrev pub wanted_net : GraphShape → Asked → (ℕ → Option Shift) → List (List ℕ) → List Edge → List ℕ
    → Net (List ℕ)
wanted_net graph asked back lists edges firsts = record {
  nodes = length lists;
  edges = length edges;
  source = λ e. (edge_at edges e).source;
  target = λ e. (edge_at edges e).target;
  start = λ b. number_at firsts b;
  stop = λ b. number_at firsts (suc b);
  size = length graph.vars;
  height = 65 * length graph.vars;
  first = λ b. replicate (length graph.vars) 0;
  transfer = λ e bits.
      capped (before_list graph asked back (list_at lists (edge_at edges e).source) bits);
}
