use Rattle.std.proofs.Common.{◌≡◌, ℕ, ◌-◌, ◌≤◌, length, get_or, slice_get}
use Rattle.graph_edit.specs.Editing.{change_each}
use Rattle.motion_rewrite.specs.Flatten.{inserted, reading}
use Rattle.motion_rewrite.proofs.editing.read_temporaries.Given as goal

abbrev pub invariant-loop-node : goal.invariant-loop-node
invariant-loop-node l = record {
  name : l.editor.graph.name ≡ l.initial.editor.graph.name;
  shared : l.editor.graph.shared ≡ l.initial.editor.graph.shared;
  vars : l.editor.graph.vars ≡ l.initial.editor.graph.vars;
  received : l.editor.graph.received ≡ l.initial.editor.graph.received;
  rest : (m : ℕ) → l.node ≤ m → slice_get l.editor.graph.nodes m ≡ slice_get l.initial.editor.graph.nodes m;
  all : change_each (λ n. reading (λ i. get_or l.temps i 0) (inserted l.replace n)) (length l.replace - l.node) l.node l.editor.graph.nodes ≡ change_each (λ n. reading (λ i. get_or l.temps i 0) (inserted l.replace n)) (length l.replace) 0 l.initial.editor.graph.nodes;
  spare : l.editor.spare ≡ l.initial.editor.spare;
}
