use Rattle.std.proofs.Common.{◌≡◌, ◌+◌, ◌-◌, ◌≤◌, length, get_or}
use Rattle.graph_edit.specs.Editing.{put_each}
use Rattle.motion_rewrite.specs.Flatten.{inserted, inserted_below, insertions_of}
use Rattle.motion_rewrite.proofs.editing.put_evaluations.Given as goal

abbrev pub invariant-loop-node : goal.invariant-loop-node
invariant-loop-node l = record {
  name : l.editor.graph.name ≡ l.initial.editor.graph.name;
  shared : l.editor.graph.shared ≡ l.initial.editor.graph.shared;
  vars : l.editor.graph.vars ≡ l.initial.editor.graph.vars;
  received : l.editor.graph.received ≡ l.initial.editor.graph.received;
  long : length l.initial.editor.graph.nodes ≤ length l.editor.graph.nodes;
  all : put_each (λ n. insertions_of (λ i. get_or l.temps i 0) l.table (inserted l.insert n)) (length l.insert - l.node) l.node l.editor.graph.nodes ≡ put_each (λ n. insertions_of (λ i. get_or l.temps i 0) l.table (inserted l.insert n)) (length l.insert) 0 l.initial.editor.graph.nodes;
  spare : l.editor.spare + inserted_below l.insert l.node ≡ l.initial.editor.spare;
}
