use Rattle.std.proofs.Common.{◌≡◌, false, List, slice_get, Some, ap, sym, ◌∙◌, subst}
use Rattle.std.proofs.lemmas.Option.{slice_get-get_or}
use Rattle.flow_graph.specs.declared.nodes.Node.{Node}
use Rattle.flow_graph.specs.Edges.{edges_of}
use Rattle.graph_edit.specs.Accesses.{blocks_pattern}
use Rattle.sink_code.specs.Skips.{LeadsTo}
use Rattle.sink_code.specs.PatternTables.{pattern_of}
use Rattle.sink_code.proofs.HeldUp.{not_held_up}
use Rattle.sink_code.proofs.patterns.moving_on.Goals as goal

pub stop_after-stop-requires-clause-edges : goal.stop_after-stop-requires-clause-edges
stop_after-stop-requires-clause-edges c = c.requires.edges ∙ ap (λ (l : List Node). edges_of l) (sym c.nodes-nodes.ensures.value)

pub stop_after-stop-requires-clause-within : goal.stop_after-stop-requires-clause-within
stop_after-stop-requires-clause-within c = λ m slot s edge. (c.nodes-nodes.ensures.graph.can.succs m slot s edge).1

pub returns-else-blocks : goal.returns-else-blocks
returns-else-blocks c =
    let graph = c.args.graph.now in
    let same = c.nodes-nodes.ensures.value in
    let pattern = c.in_ok-pattern.pattern in
    let stop = c.stop_after-stop.result in
    let found : pattern_of c.args.node.now ≡ Some c.in_ok-pattern.pattern = sym c.pattern_at.ensures ∙ c.in_ok-pattern.was in
    let at = slice_get-get_or c.nodes-nodes.result.now stop c.index-nodes-stop.result c.stop_after-stop.ensures.within ∙ ap Some (sym c.index-nodes-stop.is) in
    let free = ap (blocks_pattern graph pattern.var pattern.rhs) at ∙ sym c.blocks-2.ensures ∙ c.if-blocks.false in (
      found,
      not_held_up graph pattern c.args.next stop
          (subst (λ (l : List Node). LeadsTo l c.args.next stop) same c.stop_after-stop.ensures.leads)
          (subst (λ (l : List Node). blocks_pattern graph pattern.var pattern.rhs (slice_get l stop) ≡ false) same free),
    )
