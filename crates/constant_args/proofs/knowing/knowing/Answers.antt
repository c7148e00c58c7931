use Rattle.std.proofs.Common.{◌≡◌, ◌∙◌, map, ap, subst}
use Rattle.flow_graph.specs.Graphs.{CanMake}
use Rattle.program_pass.specs.Puts.{insertions}
use Rattle.constant_args.specs.ConstantArguments.{put_behind_start, constant_puts}
use Rattle.constant_args.specs.Gathered.{constant_in}
use Rattle.constant_args.proofs.Made.{knows_can, knows_made}
use Rattle.constant_args.proofs.knowing.knowing.Goals as goal
use Rattle.constant_args.proofs.knowing.knowing.Goals.{In_ok-nodes}

-- the nodes are those of the graph with the assignments
nodes_are : (c : In_ok-nodes) → c.in_ok-nodes.nodes.items ≡ put_behind_start c.args.graph.now.nodes (constant_puts c.args.graph.now.received (map constant_in c.args.arguments.now))
nodes_are c =
    c.in_ok-nodes.ensures ∙ ap (put_behind_start c.args.graph.now.nodes) (ap insertions c.as_slice.ensures.value ∙ c.in_ok-puts.ensures ∙ ap (λ l. constant_puts l (map constant_in c.args.arguments.now)) c.received.ensures)

-- a graph can be made of the graph's nodes
can : (c : In_ok-nodes) → CanMake c.args.graph.now.vars c.args.graph.now.received c.args.graph.now.nodes
can c = subst (CanMake c.args.graph.now.vars c.args.graph.now.received) c.nodes-nodes.ensures.value c.nodes-nodes.ensures.graph.can

pub with_nodes-requires : goal.with_nodes-requires
with_nodes-requires c =
    let before = (goal.at.with_nodes-requires c).In_ok-nodes in
    knows_can c.args.graph.now (map constant_in c.args.arguments.now) c.in_ok-nodes.nodes.items (can before) (nodes_are before)

pub returns : goal.returns
returns c =
    let before = (goal.at.returns c).In_ok-nodes in
    let is = c.in_ok-known.ensures in
    knows_made c.args.graph.now (map constant_in c.args.arguments.now) c.in_ok-nodes.nodes.items (can before) (nodes_are before) c.in_ok-known.known is.made is.same is.cheaper is.calls
