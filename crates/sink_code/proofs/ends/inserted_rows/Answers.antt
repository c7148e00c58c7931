use Rattle.std.proofs.Common.{◌≤◌, List, length, subst, arith}
use Rattle.flow_graph.specs.declared.nodes.Node.{Node}
use Rattle.flow_graph.specs.Graphs.{IsGraph}
use Rattle.sink_code.proofs.Ending.{ended_all, ended_none}
use Rattle.sink_code.proofs.ends.inserted_rows.Goals as goal
use Rattle.sink_code.proofs.ends.inserted_rows.Goals.{After-nodes-nodes}

is_graph : (c : After-nodes-nodes) → IsGraph c.args.over.now.graph.now.vars c.args.over.now.graph.now.received c.args.over.now.graph.now.nodes
is_graph c = subst (λ (l : List Node). IsGraph c.args.over.now.graph.now.vars c.args.over.now.graph.now.received l) c.nodes-nodes.ensures.value c.nodes-nodes.ensures.graph

pub loop-number-init : goal.loop-number-init
loop-number-init c = ended_none c.args.over.now (is_graph (goal.at.loop-number-init c).After-nodes-nodes) c.requires.over c.args.delayed.now c.requires.delayed c.args.blocked.now c.in_ok-rows.rows c.requires.blocked c.in_ok-rows.ensures

pub returns : goal.returns
returns c =
    let late : length c.args.over.now.edges.now.edges ≤ c.loop-number.number = omega (arith, c.loop-number-test.false, c.len-number-end.ensures) in
    ended_all c.args.over.now (is_graph (goal.at.returns c).After-nodes-nodes) c.requires.over c.args.delayed.now c.requires.delayed c.loop-number.number c.loop-number.rows late c.loop-number.invariant
