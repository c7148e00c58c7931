use Rattle.std.proofs.Common.{◌≡◌, ◌∙◌, [], sym, ap, subst}
use Rattle.std.proofs.lemmas.List.{get_or_default}
use Rattle.std.proofs.lemmas.Option.{get_or_from_slice_get}
use Rattle.node_list.specs.Lists.{list_at}
use Rattle.flow_graph.specs.FlowEdges.{edge_at}
use Rattle.wanted_bits.specs.Asking.{asked_by}
use Rattle.wanted_bits.specs.BitsOrder.{HasFew}
use Rattle.wanted_bits.specs.Walking.{back_in, before_list}
use Rattle.wanted_bits.specs.WantedFlows.{list_left}
use Rattle.wanted_bits.specs.WalkLaws.{asks_few, list_few}
use Rattle.wanted_bits.proofs.Noting.{block_nodes}
use Rattle.wanted_bits.proofs.flow.WantedFlow.walk.Goals as goal

pub walk_back-requires-clause-nodes : goal.walk_back-requires-clause-nodes
walk_back-requires-clause-nodes g c =
    let f = c.args.self.now in
    block_nodes f.graph.now c.nodes-list.result.now (c.requires.valid.blocks.are.blocks _ c.nodes-list.result.now c.nodes-list.ensures)

pub returns-clause-few : goal.returns-clause-few
returns-clause-few g c =
    let f = c.args.self.now in
    let graph = f.graph.now in
    subst HasFew (sym c.walk_back.ensures) (list_few graph (asked_by graph.shared f.around.now) (back_in f.backs.now) c.nodes-list.result.now c.args.bits.now (asks_few graph.shared f.around.now) c.requires.few)

pub returns-clause-passed : goal.returns-clause-passed
returns-clause-passed g c =
    let f = c.args.self.now in
    let graph = f.graph.now in
    let list = c.nodes-list.result.now in
    let edge : edge_at f.between.now.edges.items c.args.number ≡ c.index-edge.result.now = get_or_default f.between.now.edges.items c.args.number _ c.index-edge.result.now c.requires.in_range ∙ sym c.index-edge.ensures in
    let here : list_left f c.args.number ≡ list = ap (λ e. list_at f.blocks.now.lists e.source) edge ∙ get_or_from_slice_get f.blocks.now.lists _ list [] c.nodes-list.ensures in
    c.walk_back.ensures ∙ ap (λ l. before_list graph (asked_by graph.shared f.around.now) (back_in f.backs.now) l c.args.bits.now) (sym here)
