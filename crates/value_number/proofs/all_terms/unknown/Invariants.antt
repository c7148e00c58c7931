use Rattle.std.proofs.Common.{◌≡◌, length}
use Rattle.value_number.proofs.all_terms.unknown.Given as goal

abbrev pub invariant-loop : goal.invariant-loop
invariant-loop l = length l.nodes.items ≡ l.counter
