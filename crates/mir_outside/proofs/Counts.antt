-- A count over two calls, one after the other.
use Rattle.std.proofs.Common.{ℕ, arith}
use Rattle.mir_outside.specs.Causes.{NeverFalls}

-- a count that never falls in two calls never falls in both
pub falls_never_on : (a b c : ℕ) → NeverFalls a b → NeverFalls b c → NeverFalls a c
falls_never_on a b c first second = record {
  later = omega (arith, first.later, second.later);
  saturates = λ is. second.saturates (first.saturates is);
}
