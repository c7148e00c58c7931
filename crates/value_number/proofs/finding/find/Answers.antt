use Rattle.std.proofs.Common.{subst, length, flat_map}
use Rattle.mir_base.specs.BelowLaws.{all_below_left}
use Rattle.mir_base.specs.Shapes.{AllBelow, into_vars, operand_vars}
use Rattle.flow_graph.specs.Graphs.{node_vars}
use Rattle.value_number.proofs.finding.find.Goals as goal

pub returns-in_ok-found-in-Call-clause-finds : goal.returns-in_ok-found-in-Call-clause-finds
returns-in_ok-found-in-Call-clause-finds c =
    let count = length c.args.numbers.now in
    let below = all_below_left count (into_vars c.in-Call.into) (flat_map operand_vars c.in-Call.field-2) (subst (λ k. AllBelow count (node_vars k)) c.in-Call.is c.requires) in
    rw c.in-Call.is (c.in_ok-found-in-Call.ensures c.args.numbers.now c.args.root c.in-Call.field-1 c.in-Call.field-3 c.in-Call.field-2 below)
