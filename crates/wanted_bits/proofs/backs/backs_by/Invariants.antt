use Rattle.std.proofs.Common.{◌≡◌, ◌<◌, ℕ, length, slice_get, Some}
use Rattle.flow_graph.specs.declared.nodes.Node.{Node}
use Rattle.wanted_bits.specs.ByRows.{shift_at}
use Rattle.wanted_bits.specs.Walking.{back_in, back_of}
use Rattle.wanted_bits.proofs.backs.backs_by.Given as goal

abbrev pub invariant-loop-n : goal.invariant-loop-n
invariant-loop-n l = record {
  long : length l.backs.items ≡ l.n;
  are : (m : ℕ) (node : Node) → m < l.n → slice_get l.graph.nodes m ≡ Some node → back_in l.backs.items m ≡ back_of (shift_at l.held m) node;
}
