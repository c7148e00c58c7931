use Rattle.std.proofs.Common.{◌≡◌, ℕ, ◌<◌, length, slice_get}
use Rattle.flow_graph.specs.Paths.{is_return}
use Rattle.path_laws.specs.Paths.{AreRows, has_bit}
use Rattle.live_range.proofs.wanted.return_rows.Given as goal

abbrev pub invariant-loop-n : goal.invariant-loop-n
invariant-loop-n l = record {
  shape : AreRows (length l.nodes) 1 l.rows;
  done : (m : ℕ) → m < l.n → has_bit l.rows 0 m ≡ is_return (slice_get l.nodes m);
}
