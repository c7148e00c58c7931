use Rattle.std.proofs.Common.{◌≡◌, ◌<◌, ℕ, length, slice_get, option_map}
use Rattle.flow_graph.specs.NumberTables.{number_at}
use Rattle.wanted_bits.specs.Asking.{asked_by}
use Rattle.wanted_bits.specs.Found.{narrowed_by}
use Rattle.wanted_bits.specs.Walking.{back_in}
use Rattle.wanted_bits.proofs.narrowing.listed_nodes.Given as goal

abbrev pub invariant-loop-n : goal.invariant-loop-n
invariant-loop-n l = record {
  long : length l.nodes.items ≡ l.n;
  are : (m : ℕ) → m < l.n → slice_get l.nodes.items m ≡ option_map (narrowed_by (asked_by l.graph.shared l.around) (back_in l.backs m) (number_at l.behind m)) (slice_get l.graph.nodes m);
}
