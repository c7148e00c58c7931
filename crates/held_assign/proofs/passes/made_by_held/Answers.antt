use Rattle.held_assign.specs.HeldPasses.{AreMadeByHeld, IsMadeByHeld}
use Rattle.held_assign.specs.HeldPassLaws.{by_node, made_by_held_is_one, made_can, made_cheap}
use Rattle.held_assign.specs.InPlaceLaws.{has_nodes_where}
use Rattle.held_assign.specs.Rows.{held_at}
use Rattle.held_assign.proofs.passes.made_by_held.Goals as goal
use Rattle.held_assign.proofs.passes.made_by_held.Goals.{In_ok-nodes, In_ok-made}
use Rattle.held_assign.proofs.passes.made_by_held.Given.{Over}

-- the nodes are made by what the rows of assignments tell
are : (g : Over) (c : In_ok-nodes g) → AreMadeByHeld (g.P.Picks.picked c.args.pass.now) g.P.HeldPass.becomes c.args.graph.now c.in_ok-nodes.nodes.items
are g c = record { held = held_at c.in_ok-held.held; is_held = λ n v lt. c.in_ok-held.ensures.tells n v lt; nodes_are = c.in_ok-nodes.ensures }

pub made_in_place-requires-clause-by : goal.made_in_place-requires-clause-by
made_in_place-requires-clause-by g c =
    let nodes = are g (goal.at.made_in_place-requires-clause-by g c).In_ok-nodes in
    by_node (g.P.Picks.picked c.args.pass.now) g.P.HeldPass.becomes c.args.graph.now c.in_ok-nodes.nodes.items nodes g.met.P.HeldPass.in_place

pub made_in_place-requires-clause-can : goal.made_in_place-requires-clause-can
made_in_place-requires-clause-can g c =
    let nodes = are g (goal.at.made_in_place-requires-clause-can g c).In_ok-nodes in
    made_can (g.P.Picks.picked c.args.pass.now) g.P.HeldPass.becomes c.args.graph.now c.in_ok-nodes.nodes.items nodes g.met.P.HeldPass.in_place g.met.P.HeldPass.reads

pub made_in_place-requires-clause-cheap : goal.made_in_place-requires-clause-cheap
made_in_place-requires-clause-cheap g c = λ frame comes fits.
    let nodes = are g (goal.at.made_in_place-requires-clause-cheap g c).In_ok-nodes in
    made_cheap (g.P.Picks.picked c.args.pass.now) g.P.HeldPass.becomes c.args.graph.now c.in_ok-nodes.nodes.items nodes (g.met.P.HeldPass.does c.args.pass.now) frame (c.held_values.ensures frame comes) fits

-- the answer is the exact graph
exact : (g : Over) (c : In_ok-made g) → IsMadeByHeld (g.P.Picks.picked c.args.pass.now) g.P.HeldPass.becomes c.args.graph.now c.in_ok-made.made
exact g c =
    has_nodes_where (AreMadeByHeld (g.P.Picks.picked c.args.pass.now) g.P.HeldPass.becomes c.args.graph.now) c.args.graph.now c.in_ok-made.made c.in_ok-nodes.nodes.items c.in_ok-made.ensures.made (are g (goal.at.In_ok-made g c).In_ok-nodes)

pub returns-clause-made : goal.returns-clause-made
returns-clause-made g c = exact g (goal.at.returns-clause-made g c).In_ok-made

pub returns-clause-only : goal.returns-clause-only
returns-clause-only g c = λ other is.
    made_by_held_is_one (g.P.Picks.picked c.args.pass.now) g.P.HeldPass.becomes c.args.graph.now other c.in_ok-made.made is (exact g (goal.at.returns-clause-only g c).In_ok-made)
