use Rattle.term_flow.specs.Shapes.{termed_divides}
use Rattle.term_flow.proofs.chains.terms.Goals as goal

pub returns-clause-divides : goal.returns-clause-divides
returns-clause-divides c = termed_divides c.args.graph.now c.in_ok-termed.termed.nodes c.in_ok-termed.ensures.made.nodes_are
