use Rattle.path_laws.specs.Leaving.{ends_last}
use Rattle.path_laws.proofs.between.ahead.Goals as goal

pub returns-else-against : goal.returns-else-against
returns-else-against c = rw c.if-against.false (ends_last c.args.nodes.now c.requires)
