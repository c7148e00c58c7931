use Rattle.std.proofs.Common.{◌∙◌, ◌≤◌, sym, subst, arith, length}
use Rattle.mir_base.specs.Shapes.{AllBelow}
use Rattle.flow_graph.specs.Graphs.{IsGraph, node_vars}
use Rattle.value_number.specs.TermWalks.{Passes}
use Rattle.value_number.proofs.Unvisited.{visit_leaves}
use Rattle.value_number.proofs.TermWalks.{at_visit, succs_below, visit_goes_on, visit_less}
use Rattle.value_number.proofs.walk.Walk.visit.Goals as goal
use Rattle.value_number.proofs.walk.Walk.visit.Goals.{In_ok-holder}

pub node-node-requires : goal.node-node-requires
node-node-requires c = at_visit c.args.self.now.steps.items c.args.root c.requires.walks

pub pass-requires-clause-below : goal.pass-requires-clause-below
pass-requires-clause-below c =
    let graph = c.args.graph.now in
    let is_graph = subst (λ l. IsGraph graph.vars graph.received l) c.nodes-nodes.ensures.value c.nodes-nodes.ensures.graph in
    subst (λ k. AllBelow k (node_vars c.node-node.result.now)) (sym c.requires.walks.numbers_long) (is_graph.can.below c.args.n c.node-node.result.now c.node-node.ensures)

pub pass-requires-clause-shared : goal.pass-requires-clause-shared
pass-requires-clause-shared c = subst (λ k. c.shared.result ≤ k) (sym c.requires.walks.numbers_long) c.shared.ensures.shares.count

pub put-requires : goal.put-requires
put-requires c = omega (arith, at_visit c.args.self.now.steps.items c.args.root c.requires.walks, c.requires.walks.holders_long)

pub succs-requires : goal.succs-requires
succs-requires c = at_visit c.args.self.now.steps.items c.args.root c.requires.walks

pub list-requires : goal.list-requires
list-requires c =
    let graph = c.args.graph.now in
    let is_graph = subst (λ l. IsGraph graph.vars graph.received l) c.nodes-nodes.ensures.value c.nodes-nodes.ensures.graph in
    let listed = c.args.self.now.listed.items in
    subst (AllBelow (length listed)) (sym (c.as_slice-2.ensures ∙ c.succs.ensures)) (succs_below graph is_graph listed c.args.n c.requires.walks.listed_long)

-- what holds of every graph
is_graph : (c : In_ok-holder) → IsGraph c.args.graph.now.vars c.args.graph.now.received c.args.graph.now.nodes
is_graph c = rw (← c.nodes-nodes.ensures.value) c.nodes-nodes.ensures.graph

-- the node was passed
passes : (c : In_ok-holder) → Passes c.args.graph.now.shared c.args.root c.args.n c.node-node.result.now c.args.self.now.table c.pass.new.table c.args.self.now.numbers c.pass.new.numbers c.args.self.now.steps.items c.pass.new.steps.items c.in_ok-holder.holder
passes c = rw (← c.shared.ensures.value) c.in_ok-holder.ensures

pub returns-clause-walks : goal.returns-clause-walks
returns-clause-walks c =
    let walk = c.args.self.now in
    let known = (goal.at.returns-clause-walks c).In_ok-holder in
    visit_goes_on c.args.graph.now (is_graph known) walk.table c.pass.new.table walk.numbers c.pass.new.numbers walk.listed.items walk.steps.items c.pass.new.steps.items walk.holders.items c.args.n c.args.root c.node-node.result.now c.in_ok-holder.holder c.list.new.listed.items c.list.new.steps.items c.put.new.list.items c.as_slice-2.result.now
    (c.as_slice-2.ensures ∙ c.succs.ensures) c.in_ok-list.ensures.listed c.in_ok-list.ensures.steps c.put.ensures (passes known) c.requires.walks c.node-node.ensures

pub returns-clause-lighter : goal.returns-clause-lighter
returns-clause-lighter c =
    let walk = c.args.self.now in
    let known = (goal.at.returns-clause-lighter c).In_ok-holder in
    visit_less c.args.graph.now (is_graph known) walk.table c.pass.new.table walk.numbers c.pass.new.numbers walk.listed.items walk.steps.items c.pass.new.steps.items walk.holders.items c.args.n c.args.root c.node-node.result.now c.in_ok-holder.holder c.list.new.listed.items c.list.new.steps.items c.put.new.list.items c.as_slice-2.result.now
    (c.as_slice-2.ensures ∙ c.succs.ensures) c.in_ok-list.ensures.listed c.in_ok-list.ensures.steps c.put.ensures (passes known) c.requires.walks.listed_long

pub returns-clause-unvisited : goal.returns-clause-unvisited
returns-clause-unvisited c =
    let walk = c.args.self.now in
    let known = passes (goal.at.returns-clause-unvisited c).In_ok-holder in
    visit_leaves c.args.n c.args.root c.as_slice-2.result.now walk.listed.items c.list.new.listed.items walk.steps.items c.pass.new.steps.items c.list.new.steps.items known.undoes.visits c.in_ok-list.ensures.listed c.in_ok-list.ensures.steps
