use Rattle.std.proofs.Common.{◌≡◌, ◌∙◌, ap, sym, subst, arith, length}
use Rattle.std.proofs.lemmas.Grind.{common_steps}
use Rattle.mir_base.specs.Shapes.{UnitShape, receives_in}
use Rattle.flow_graph.specs.Graphs.{SharesVars}
use Rattle.flow_graph.specs.Lowered.{CanLower}
use Rattle.flow_graph.proofs.Lowers.{received_long}
use Rattle.flow_graph.proofs.LowerMade.{lower_makes, lower_shared}
use Rattle.flow_graph.proofs.lowering.lower_unit.Goals as goal

pub make-requires-clause-can : goal.make-requires-clause-can
make-requires-clause-can c =
    let insts = c.insts-insts.result.now in
    let told = c.insts-insts.ensures in
    let can : CanLower c.args.unit.now.shared insts = subst (CanLower c.args.unit.now.shared) (sym told.value) c.requires in
    let names = c.in_ok-vars.ensures ∙ c.items.ensures ∙ ap (λ (u : UnitShape). u.vars) c.unit.view_is in
    lower_makes c.args.unit.now.shared c.args.unit.now.vars c.in_ok-vars.vars insts c.in_ok-received.received.items c.in_ok-nodes.nodes.items told.tidy told.below can names c.in_ok-received.ensures c.in_ok-nodes.ensures

pub make-requires-clause-shares : goal.make-requires-clause-shares
make-requires-clause-shares c =
    let insts = c.insts-insts.result.now in
    let told = c.insts-insts.ensures in
    let can : CanLower c.args.unit.now.shared insts = subst (CanLower c.args.unit.now.shared) (sym told.value) c.requires in
    let names = c.in_ok-vars.ensures ∙ c.items.ensures ∙ ap (λ (u : UnitShape). u.vars) c.unit.view_is in
    subst (λ n. SharesVars n c.in_ok-vars.vars c.in_ok-received.received.items) (sym (ap (λ (u : UnitShape). u.shared) c.unit.view_is))
    (lower_shared c.args.unit.now.shared c.args.unit.now.vars c.in_ok-vars.vars insts c.in_ok-received.received.items told.tidy told.below can names c.in_ok-received.ensures)

pub all_nodes-requires-clause-lower : goal.all_nodes-requires-clause-lower
all_nodes-requires-clause-lower c = (c.args.unit.now.shared, subst (CanLower c.args.unit.now.shared) (sym c.insts-insts.ensures.value) c.requires)

pub all_nodes-requires-clause-receives : goal.all_nodes-requires-clause-receives
all_nodes-requires-clause-receives c =
    let insts = c.insts-insts.result.now in
    let count : length c.in_ok-received.received.items ≡ receives_in insts = ap length c.in_ok-received.ensures ∙ received_long insts in
    grind (arith, common_steps, count)
