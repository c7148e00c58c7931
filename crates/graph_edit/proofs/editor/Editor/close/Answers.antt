use Rattle.std.proofs.Common.{◌≡◌, ◌<◌, length, slice_get, Some, ap, sym, ◌∙◌, subst, arith}
use Rattle.flow_graph.specs.ListLaws.{get_take}
use Rattle.flow_graph.specs.BoundLaws.{node_succs_below}
use Rattle.flow_graph.specs.Graphs.{SuccsBelow, succs_of}
use Rattle.node_list.specs.Lists.{list_at}
use Rattle.graph_edit.proofs.Edits.{ends_head}
use Rattle.graph_edit.proofs.editor.Editor.close.Goals as goal

pub lead_nodes-requires-clause-firsts : goal.lead_nodes-requires-clause-firsts
lead_nodes-requires-clause-firsts c = λ s lt.
    let count = c.self.invariant.0.count in
    ends_head s (list_at c.self.inside.links.lists s) (c.self.invariant.0.ends s (omega (arith, lt, count)))

pub lead_nodes-requires-clause-below : goal.lead_nodes-requires-clause-below
lead_nodes-requires-clause-below c = λ n node inside at.
    let there : slice_get c.self.inside.nodes.items n ≡ Some node = sym (get_take c.self.inside.nodes.items c.self.inside.used n (omega (arith, inside, c.self.invariant.0.some))) ∙ ap (λ l. slice_get l n) (sym c.truncate.ensures.items) ∙ ap (λ l. slice_get l n) (sym c.deref_mut.ensures.value) ∙ at in
    node_succs_below c.self.inside.olds node (λ slot s leads. c.self.invariant.0.targets n slot s inside (ap (λ o. slice_get (succs_of o) slot) there ∙ leads))
