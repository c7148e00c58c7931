use Rattle.std.proofs.Common.{sym, subst}
use Rattle.flow_graph.specs.Dividing.{DividesUnchanged}
use Rattle.held_assign.specs.InPlaceLaws.{has_nodes_where}
use Rattle.extend_flow.specs.Extended.{AreExtended, IsExtended}
use Rattle.extend_flow.specs.ExtendedLaws.{extended_is_one}
use Rattle.extend_flow.proofs.Meaning.{extended_cheap}
use Rattle.extend_flow.proofs.Shapes.{extended_by_node, extended_can_make, extended_divides}
use Rattle.extend_flow.proofs.extending.extensions.Goals as goal
use Rattle.extend_flow.proofs.extending.extensions.Goals.{In_ok-extended}

pub made_in_place-requires-clause-by : goal.made_in_place-requires-clause-by
made_in_place-requires-clause-by c = extended_by_node c.args.graph.now c.in_ok-nodes.nodes.items c.in_ok-nodes.ensures

pub made_in_place-requires-clause-can : goal.made_in_place-requires-clause-can
made_in_place-requires-clause-can c = extended_can_make c.args.graph.now c.in_ok-nodes.nodes.items c.in_ok-nodes.ensures

pub made_in_place-requires-clause-cheap : goal.made_in_place-requires-clause-cheap
made_in_place-requires-clause-cheap c = extended_cheap c.args.graph.now c.in_ok-nodes.nodes.items c.in_ok-nodes.ensures c.held_values.ensures c.states_hold.ensures

-- the answer is the exact graph
exact : (c : In_ok-extended) → IsExtended c.args.graph.now c.in_ok-extended.extended
exact c = has_nodes_where (AreExtended c.args.graph.now) c.args.graph.now c.in_ok-extended.extended c.in_ok-nodes.nodes.items c.in_ok-extended.ensures.made c.in_ok-nodes.ensures

pub returns-clause-extended : goal.returns-clause-extended
returns-clause-extended c = exact (goal.at.returns-clause-extended c).In_ok-extended

pub returns-clause-only : goal.returns-clause-only
returns-clause-only c = λ other is. extended_is_one c.args.graph.now other c.in_ok-extended.extended is (exact (goal.at.returns-clause-only c).In_ok-extended)

pub returns-clause-divides : goal.returns-clause-divides
returns-clause-divides c =
    subst (DividesUnchanged c.args.graph.now.nodes) (sym c.in_ok-extended.ensures.made.nodes_are) (extended_divides c.args.graph.now c.in_ok-nodes.nodes.items c.in_ok-nodes.ensures)
