use Rattle.std.proofs.Common.{subst}
use Rattle.flow_graph.specs.Graphs.{IsGraph}
use Rattle.motion_rewrite.specs.PlacementLaws.{optimal_is_no_dearer}
use Rattle.div_move.specs.MustCome.{MustComeTo}
use Rattle.div_move.proofs.Trapping.{come_traps, lazy_comes}
use Rattle.div_move.proofs.moving.place_divisions.Goals as goal

pub flatten_dividing-requires-clause-traps : goal.flatten_dividing-requires-clause-traps
flatten_dividing-requires-clause-traps c =
    let graph = c.args.graph.now in
    let placement = c.in_ok-placement.placement in
    let is_graph = subst (IsGraph graph.vars graph.received) c.nodes-nodes.ensures.value c.nodes-nodes.ensures.graph in
    come_traps graph c.args.table.now placement (lazy_comes graph c.args.table.now placement is_graph c.in_ok-placement.ensures.lazy)

pub returns : goal.returns
returns c =
    let graph = c.args.graph.now in
    let table = c.args.table.now in
    let placement = c.in_ok-placement.placement in
    let is_graph = subst (IsGraph graph.vars graph.received) c.nodes-nodes.ensures.value c.nodes-nodes.ensures.graph in
    let come = lazy_comes graph table placement is_graph c.in_ok-placement.ensures.lazy in
    record {
      placed = record { insert_rows = c.in_ok-placement.ensures.insert; replace_rows = c.in_ok-placement.ensures.replace; lazy = c.in_ok-placement.ensures.lazy };
      flattened = c.in_ok-moved.ensures.flattened;
      keeps = c.in_ok-moved.ensures.keeps (optimal_is_no_dearer graph table (MustComeTo graph) placement c.in_ok-placement.ensures.optimal);
      is_split = c.in_ok-moved.ensures.split c.requires.split;
      comes = come;
      traps = come_traps graph table placement come;
      optimal = c.in_ok-placement.ensures.optimal;
      paths = c.in_ok-moved.ensures.paths;
      runs = c.in_ok-moved.ensures.runs;
    }
