use Rattle.std.proofs.Common.{◌≡◌, length}
use Rattle.tail_loop.specs.Positions.{EachCallPosition}
use Rattle.tail_loop.proofs.positions.positions_of.Given as goal

abbrev pub invariant-loop-n : goal.invariant-loop-n
invariant-loop-n l = record {
  long : length l.calls.items ≡ l.n;
  are : EachCallPosition l.shared l.nodes l.unit l.calls.items;
}
