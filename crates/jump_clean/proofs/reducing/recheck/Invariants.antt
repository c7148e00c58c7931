use Rattle.std.proofs.Common.{◌≡◌, ◌≤◌, List, drop, length}
use Rattle.mir_base.specs.Shapes.{AllBelow}
use Rattle.flow_graph.specs.declared.nodes.Node.{Node}
use Rattle.flow_graph.specs.Graphs.{AllWithin}
use Rattle.jump_clean.specs.Joining.{IsJoining, joins_left}
use Rattle.jump_clean.proofs.reducing.recheck.Given as goal

abbrev pub invariant-loop-n : goal.invariant-loop-n
invariant-loop-n l = record {
  joining : (raw : List Node) → IsJoining raw l.initial.nodes.items l.classes l.initial.worklist.items l.checks → IsJoining raw l.nodes.items l.classes l.worklist.items (drop l.n-index l.checks);
  within : AllWithin l.nodes.items;
  long : length l.classes ≡ length l.nodes.items;
  below : AllBelow (length l.nodes.items) (drop l.n-index l.checks);
  less : joins_left l.nodes.items l.worklist.items ≤ joins_left l.initial.nodes.items l.initial.worklist.items;
}
