use Rattle.std.proofs.Common.{sym, subst}
use Rattle.flow_graph.specs.Lowered.{CanLower}
use Rattle.flow_graph.proofs.Fitting.{laid_lowers}
use Rattle.flow_graph.specs.LayoutLaws.{layout_keeps}
use Rattle.flow_graph.proofs.LaidDivisions.{divisions_laid}
use Rattle.flow_graph.proofs.laying.layout.Goals as goal

pub returns-clause-keeps : goal.returns-clause-keeps
returns-clause-keeps c = layout_keeps c.args.graph.now c.in_ok-unit.unit c.layout_unit.ensures.graph c.layout_unit.ensures.shares.count c.in_ok-unit.ensures.layout

pub returns-clause-lowers : goal.returns-clause-lowers
returns-clause-lowers c =
    let laid = c.in_ok-unit.ensures.layout.laid in
    subst (λ n. CanLower n c.in_ok-unit.unit.body) (sym c.in_ok-unit.ensures.layout.shared) (laid_lowers c.args.graph.now.shared c.args.graph.now.vars c.args.graph.now.received c.args.graph.now.nodes c.in_ok-unit.unit.vars c.in_ok-unit.unit.body c.layout_unit.ensures.graph c.layout_unit.ensures.shares laid)

pub returns-clause-divides : goal.returns-clause-divides
returns-clause-divides c = divisions_laid c.args.graph.now c.in_ok-unit.unit c.layout_unit.ensures.graph c.in_ok-unit.ensures.layout
