use Rattle.std.proofs.Common.{◌∙◌, sym, ap, subst}
use Rattle.flow_graph.specs.Graphs.{IsGraph}
use Rattle.graph_edit.specs.Flagged.{graph_flagged}
use Rattle.unread_div.specs.Flags.{TellUnread}
use Rattle.unread_div.specs.Unread.{IsUnread}
use Rattle.unread_div.specs.UnreadLaws.{unread_is_one}
use Rattle.unread_div.proofs.Flagging.{flagged_unread}
use Rattle.unread_div.proofs.Shapes.{lessened_divides, lessened_keeps, lessened_split, lessened_succs}
use Rattle.unread_div.proofs.unreading.unread.Goals as goal
use Rattle.unread_div.proofs.unreading.unread.Goals.{After-without_flagged-lessened}

-- what holds of every graph
is_graph : (c : After-without_flagged-lessened) → IsGraph c.args.graph.now.vars c.args.graph.now.received c.args.graph.now.nodes
is_graph c = subst (IsGraph c.args.graph.now.vars c.args.graph.now.received) c.nodes-nodes.ensures.value c.nodes-nodes.ensures.graph

-- the answer is the exact graph
exact : (c : After-without_flagged-lessened) → IsUnread c.args.graph.now c.without_flagged-lessened.result
exact c =
    let graph = c.args.graph.now in
    let flags = c.as_slice.result.now in
    let tells : TellUnread graph flags = subst (TellUnread graph) (sym c.as_slice.ensures.value) c.in_ok-flags.ensures in
    subst (IsUnread graph) (sym (c.without_flagged-lessened.ensures ∙ ap (graph_flagged flags) c.in_ok-copy.ensures)) (flagged_unread graph flags tells)

pub returns-clause-unread : goal.returns-clause-unread
returns-clause-unread c = exact (goal.at.returns-clause-unread c).After-without_flagged-lessened

pub returns-clause-only : goal.returns-clause-only
returns-clause-only c = λ other is. unread_is_one c.args.graph.now other c.without_flagged-lessened.result is (exact (goal.at.returns-clause-only c).After-without_flagged-lessened)

pub returns-clause-keeps : goal.returns-clause-keeps
returns-clause-keeps c =
    let here = (goal.at.returns-clause-keeps c).After-without_flagged-lessened in
    lessened_keeps c.args.graph.now c.zeros_hold.ensures c.states_hold.ensures (is_graph here) c.without_flagged-lessened.result (exact here)

pub returns-clause-divides : goal.returns-clause-divides
returns-clause-divides c =
    let here = (goal.at.returns-clause-divides c).After-without_flagged-lessened in
    lessened_divides c.args.graph.now c.zeros_hold.ensures c.states_hold.ensures (is_graph here) c.without_flagged-lessened.result (exact here)

pub returns-clause-succs : goal.returns-clause-succs
returns-clause-succs c =
    let here = (goal.at.returns-clause-succs c).After-without_flagged-lessened in
    lessened_succs c.args.graph.now c.zeros_hold.ensures c.states_hold.ensures (is_graph here) c.without_flagged-lessened.result (exact here)

pub returns-clause-split : goal.returns-clause-split
returns-clause-split c =
    let here = (goal.at.returns-clause-split c).After-without_flagged-lessened in
    lessened_split c.args.graph.now c.zeros_hold.ensures c.states_hold.ensures (is_graph here) c.without_flagged-lessened.result (exact here)
