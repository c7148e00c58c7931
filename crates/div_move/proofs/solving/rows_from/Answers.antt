use Rattle.std.proofs.Common.{◌≡◌, length, sym, subst, arith}
use Rattle.flow_graph.specs.Graphs.{AllWithin}
use Rattle.path_laws.specs.Paths.{AreRows}
use Rattle.div_move.proofs.Reaching.{rows_tell}
use Rattle.div_move.proofs.solving.rows_from.Goals as goal

pub returns : goal.returns
returns g c =
    let sites = c.args.sites.now in
    let within : AllWithin sites.graph.now.nodes = subst AllWithin c.nodes-nodes.ensures.value (λ m slot s edge. (c.nodes-nodes.ensures.graph.can.succs m slot s edge).1) in
    let long : c.len.result ≡ length c.args.table.now = c.len.ensures.len in
    rows_tell _ (record {
      edges_are = c.requires.sites.edges_are;
      within = within;
      use_rows = subst (λ k. AreRows (length sites.graph.now.nodes) k sites.uses.now) (sym long) c.requires.sites.uses_are.shape;
      kill_rows = subst (λ k. AreRows (length sites.graph.now.nodes) k sites.kills.now) (sym long) c.requires.sites.kills_are.shape;
    }) c.in_ok-work.work c.in_ok-work.ensures c.args.table.now long c.requires.sites.uses_are c.requires.sites.kills_are c.in_ok-rows.rows c.in_ok-rows.ensures

pub down_rows-requires-clause-valid : goal.down_rows-requires-clause-valid
down_rows-requires-clause-valid g c =
    let sites = c.args.sites.now in
    let within : AllWithin sites.graph.now.nodes = subst AllWithin c.nodes-nodes.ensures.value (λ m slot s edge. (c.nodes-nodes.ensures.graph.can.succs m slot s edge).1) in
    let long : c.len.result ≡ length c.args.table.now = c.len.ensures.len in
    record {
      edges_are = c.requires.sites.edges_are;
      within = within;
      use_rows = subst (λ k. AreRows (length sites.graph.now.nodes) k sites.uses.now) (sym long) c.requires.sites.uses_are.shape;
      kill_rows = subst (λ k. AreRows (length sites.graph.now.nodes) k sites.kills.now) (sym long) c.requires.sites.kills_are.shape;
    }
