use Rattle.std.proofs.Common.{◌≡◌, ℕ, ◌<◌, true, slice_get, Some}
use Rattle.flow_graph.specs.FlowEdges.{edge_at}
use Rattle.path_laws.specs.Blockwise.{brought}
use Rattle.path_laws.specs.Paths.{has_bit}
use Rattle.path_laws.specs.Problem.{GrowTo, is_barred, orders}
use Rattle.path_laws.proofs.filling.come.Given as goal

abbrev pub invariant-loop-edge : goal.invariant-loop-edge
invariant-loop-edge l =
    let p = l.problem in
    record {
      rows : GrowTo p l.rows;
      taken : (e n b : ℕ) → e < l.edge-index → slice_get (orders p (edge_at l.edges e).target) 0 ≡ Some n → b < p.bits → brought p.against (is_barred p b) n (has_bit l.work b (edge_at l.edges e).source) ≡ true → has_bit l.rows b n ≡ true;
    }
