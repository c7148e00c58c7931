use Rattle.std.proofs.Common.{◌≡◌, ℕ, ◌<◌, length}
use Rattle.fix_solve.specs.Net.{value_at}
use Rattle.fix_solve.proofs.work.first_values.Given as goal

abbrev pub invariant-loop-node : goal.invariant-loop-node
invariant-loop-node g l =
    let net = g.F.Flow.net l.flow in
    record {
      len : length l.values.items ≡ l.node;
      each : (n : ℕ) → n < l.node → value_at net l.values.items n ≡ net.first n;
    }
