-- A flow of the tests: levels up to 255 that run down a line of nodes, each of which leads to the one of the next lower
-- number. Cited by contracts of the tests.
use Rattle.std.specs.Prelude.{ℕ, ◌+◌, ◌-◌, ◌<◌}
use Rattle.std.proofs.Common.{arith}
use Rattle.fix_solve.specs.Net.{Net, NetLaws}
use Rattle.mir_tests.specs.Ladder.{Under, level, level_size}

-- edge e leads from node e + 1 to node e
abbrev pub slope : ℕ → Net ℕ
slope edges = record {
  nodes = edges + 1;
  edges = edges;
  source = λ e. e + 1;
  target = λ e. e;
  start = λ n. n - 1;
  stop = λ n. n;
  size = 0;
  height = 255;
  first = λ n. n;
  transfer = λ e x. x;
}

-- it is a lawful flow
pub slope_laws : (edges : ℕ) → edges < 256 → NetLaws Under level_size level (slope edges)
slope_laws edges few = record {
  sources = λ e h. omega (arith, h);
  targets = λ e h. omega (arith, h);
  starts = λ n h. omega (arith, h);
  stops = λ n h. omega (arith, h);
  within = λ n e h late early. omega (arith, h, late, early);
  from_start = λ e h. omega arith;
  to_stop = λ e h. omega arith;
  first_size = λ n h. omega (arith, h, few);
  transfer_size = λ e x h s. s;
  monotone = λ e x y h s p. p;
  ranks = λ x s. omega arith;
}
