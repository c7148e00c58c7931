use Rattle.std.proofs.Common.{◌≡◌, Some, length, slice_get, ap, sym, ◌∙◌, subst, arith}
use Rattle.std.proofs.lemmas.Option.{slice_get-get_or}
use Rattle.constant_args.specs.Gathered.{AreNotedBefore, NotesNode}
use Rattle.constant_args.proofs.Noting.{graph_noted, node_noted}
use Rattle.constant_args.proofs.gathering.note_calls.Goals as goal

pub loop-n-preserved : goal.loop-n-preserved
loop-n-preserved c =
    let graph = c.index-graph.result.now in
    let at : slice_get c.args.graphs.now.items c.args.unit ≡ Some graph = slice_get-get_or c.args.graphs.now.items c.args.unit graph c.requires.there ∙ ap Some (sym c.index-graph.ensures) in
    node_noted c.args.graphs.now.items c.args.unit c.loop-n.n graph c.node.result.now at c.node.ensures c.loop-n.noted.items c.note_node.new.noted.items
    (subst (λ l. NotesNode c.node.result.now c.args.unit l c.loop-n.noted.items c.note_node.new.noted.items) (c.as_slice.ensures.value ∙ c.in_ok-kept.ensures) c.in_ok-note_node.ensures) c.loop-n.invariant

pub returns : goal.returns
returns c =
    let graph = c.index-graph.result.now in
    let at : slice_get c.args.graphs.now.items c.args.unit ≡ Some graph = slice_get-get_or c.args.graphs.now.items c.args.unit graph c.requires.there ∙ ap Some (sym c.index-graph.ensures) in
    let all : c.loop-n.n ≡ length graph.nodes = omega (arith, c.loop-n-test.false, c.loop-n.auto.n-end, c.len-n-end.ensures) in
    graph_noted c.args.graphs.now.items c.args.unit graph c.loop-n.noted.items at (subst (λ n. AreNotedBefore c.args.graphs.now.items c.args.unit n c.loop-n.noted.items) all c.loop-n.invariant)
