-- Law: a graph has one copied graph. For proofs only, of mir_opt too.
use Rattle.std.proofs.Common.{◌≡◌}
use Rattle.flow_graph.specs.Graphs.{GraphShape}
use Rattle.held_assign.specs.HeldPassLaws.{made_by_held_is_one}
use Rattle.copy_flow.specs.Copied.{IsCopied, copied_node}
use Rattle.copy_flow.specs.Copies.{is_copy}

-- a graph has one copied graph
pub copied_is_one : (graph a b : GraphShape) → IsCopied graph a → IsCopied graph b → a ≡ b
copied_is_one = made_by_held_is_one is_copy copied_node
