use Rattle.held_assign.specs.Rows.{held_at}
use Rattle.extend_flow.proofs.extending.extended_nodes.Goals as goal

pub returns : goal.returns
returns c = record { held = held_at c.in_ok-held.held; is_held = λ n v lt. c.in_ok-held.ensures.tells n v lt; nodes_are = c.in_ok-nodes.ensures }
