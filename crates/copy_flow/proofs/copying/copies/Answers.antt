use Rattle.copy_flow.specs.Shapes.{copied_divides}
use Rattle.copy_flow.proofs.copying.copies.Goals as goal

pub returns-clause-divides : goal.returns-clause-divides
returns-clause-divides c = copied_divides c.args.graph.now c.in_ok-copied.copied.nodes c.in_ok-copied.ensures.made.nodes_are
