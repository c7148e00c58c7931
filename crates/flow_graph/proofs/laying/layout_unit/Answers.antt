use Rattle.std.proofs.Common.{◌≤◌, length, ap, arith, sym, subst}
use Rattle.mir_base.specs.Shapes.{IsTidy}
use Rattle.flow_graph.specs.Graphs.{IsGraph}
use Rattle.flow_graph.specs.LayoutLaws.{laid_tidy}
use Rattle.flow_graph.proofs.laying.layout_unit.Goals as goal

pub invariant_of-result : goal.invariant_of-result
invariant_of-result c =
    let laid = c.in_ok-laid.laid in
    let nodes = c.nodes.result.now in
    let graph = subst (λ v. IsGraph v c.received.result.now nodes) (sym c.vars.ensures) (subst (λ r. IsGraph c.args.graph.now.vars r nodes) (sym c.received.ensures) c.nodes.ensures.graph) in
    let least : c.shared-shared.result ≤ length c.vars.result.now = omega (arith, c.shared-shared.ensures.shares.count, ap length c.vars.ensures) in
    let tidy = laid_tidy c.shared-shared.result c.vars.result.now c.received.result.now nodes laid.names.items laid.body.items graph least c.in_ok-laid.ensures in
    subst (λ n. IsTidy c.shared-shared.result n c.of-2.result) (sym c.of.ensures) (subst (IsTidy c.shared-shared.result laid.names.items) (sym c.of-2.ensures) tidy)
