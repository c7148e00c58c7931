use Rattle.std.proofs.Common.{◌≡◌, ◌↔◌, Bool, true, sym, subst}
use Rattle.flow_graph.specs.Graphs.{IsGraph}
use Rattle.unread_div.specs.Unread.{IsDeadDivision}
use Rattle.unread_div.proofs.Flagging.{dead_says, fits_rows, flags_more}
use Rattle.unread_div.proofs.dead.dead_by.Goals as goal

pub is_dead-requires : goal.is_dead-requires
is_dead-requires c =
    let graph = c.args.graph.now in
    let is_graph = subst (IsGraph graph.vars graph.received) c.nodes-nodes.ensures.value c.nodes-nodes.ensures.graph in
    fits_rows graph is_graph.can c.args.live.now c.requires.shape c.requires.live c.loop-n.n c.node.result.now c.node.ensures

pub loop-n-preserved : goal.loop-n-preserved
loop-n-preserved c =
    let graph = c.args.graph.now in
    let is_graph = subst (IsGraph graph.vars graph.received) c.nodes-nodes.ensures.value c.nodes-nodes.ensures.graph in
    let says = dead_says graph is_graph.can c.args.live.now c.requires.shape c.requires.live c.loop-n.n c.node.result.now c.node.ensures in
    flags_more (IsDeadDivision graph) c.loop-n.n c.is_dead.result c.loop-n.dead.items c.push.new.self.items
    (subst (λ (b : Bool). (b ≡ true) ↔ IsDeadDivision graph c.loop-n.n) (sym c.is_dead.ensures) says)
    c.in_ok-push.ensures.items c.loop-n.invariant
