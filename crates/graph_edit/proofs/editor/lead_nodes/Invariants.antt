use Rattle.std.proofs.Common.{◌≡◌}
use Rattle.graph_edit.proofs.Edits.{led_below}
use Rattle.graph_edit.proofs.editor.lead_nodes.Given as goal

abbrev pub invariant-loop-number : goal.invariant-loop-number
invariant-loop-number l = l.nodes ≡ led_below l.links.lists 0 l.number l.fn.nodes
