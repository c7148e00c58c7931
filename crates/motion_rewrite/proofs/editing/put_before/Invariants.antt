use Rattle.std.proofs.Common.{◌≡◌, ◌+◌, ◌-◌, ◌<◌, ◌≤◌, drop, length, get_or}
use Rattle.graph_edit.specs.Editing.{graph_put_all}
use Rattle.graph_edit.specs.Insertions.{InsertionsBelow}
use Rattle.motion_rewrite.specs.Flatten.{insertions_of, set_from}
use Rattle.motion_rewrite.proofs.editing.put_before.Given as goal

abbrev pub invariant-loop-from : goal.invariant-loop-from
invariant-loop-from l = record {
  within : l.from ≤ length l.row;
  node : l.node < length l.editor.graph.nodes;
  some : length (set_from l.from (drop l.from l.row)) ≤ length (set_from 0 l.row);
  vars : InsertionsBelow (length l.editor.graph.vars) (insertions_of (λ i. get_or l.temps i 0) l.table (set_from l.from (drop l.from l.row)));
  all : graph_put_all l.node (insertions_of (λ i. get_or l.temps i 0) l.table (set_from l.from (drop l.from l.row))) l.editor.graph ≡ graph_put_all l.node (insertions_of (λ i. get_or l.temps i 0) l.table (set_from 0 l.row)) l.initial.editor.graph;
  spare : l.editor.spare + length (set_from 0 l.row) ≡ l.initial.editor.spare + length (set_from l.from (drop l.from l.row));
}

abbrev pub decreases-loop-from : goal.decreases-loop-from
decreases-loop-from l = length l.row - l.from
