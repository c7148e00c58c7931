use Rattle.std.proofs.Common.{◌≡◌, ◌≤◌, length, subst, arith}
use Rattle.path_laws.specs.Leads.{TellLasts}
use Rattle.path_laws.proofs.joins.lasts.Goals as goal
use Rattle.path_laws.proofs.joins.lasts.Goals.{After-loop-node}

-- once all nodes have come there is a row for each
whole : (c : After-loop-node) → TellLasts c.args.graph.now.nodes c.args.bits c.args.rows.now c.args.stop.now (length c.args.graph.now.nodes) c.loop-node.all
whole c =
    let late : length c.args.graph.now.nodes ≤ c.loop-node.node = rw c.nodes-count.ensures.value at c.loop-node-test.false in
    let most : c.loop-node.node ≤ length c.args.graph.now.nodes = rw c.nodes-count.ensures.value at c.loop-node.auto.node-end in
    let all : c.loop-node.node ≡ length c.args.graph.now.nodes = omega (arith, late, most) in
    subst (λ k. TellLasts c.args.graph.now.nodes c.args.bits c.args.rows.now c.args.stop.now k c.loop-node.all) all c.loop-node.invariant

pub returns-clause-shape : goal.returns-clause-shape
returns-clause-shape c = (whole (goal.at.returns-clause-shape c).After-loop-node).shape

pub returns-clause-last : goal.returns-clause-last
returns-clause-last c = λ n b h. (whole (goal.at.returns-clause-last c).After-loop-node).are n b h
