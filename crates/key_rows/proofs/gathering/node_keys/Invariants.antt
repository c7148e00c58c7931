use Rattle.std.proofs.Common.{[], take}
use Rattle.key_rows.specs.Gathered.{TakesKeys}
use Rattle.key_rows.proofs.gathering.node_keys.Given as goal

abbrev pub invariant-loop-node : goal.invariant-loop-node
invariant-loop-node g l = TakesKeys (g.O.KeyOf.key_of l.of) (take l.node-index l.nodes) [] l.table
