use Rattle.std.proofs.Common.{◌∙◌, ap, arith, map, length, slice_range}
use Rattle.flow_graph.specs.Edges.{by_target, source_of}
use Rattle.flow_graph.proofs.EdgeOrder.{entering_row, row_within, sources_by_target}
use Rattle.flow_graph.proofs.edges.Edges.preds.Goals as goal

pub part-requires-clause-within : goal.part-requires-clause-within
part-requires-clause-within c =
    let now = c.args.self.now in
    let table = c.items.ensures ∙ sources_by_target c.self.inside.nodes c.self.inside.edges c.self.inside.sources c.self.inside.targets c.self.inside.starts c.self.inside.entries now c.self.invariant c.self.view_is in
    omega (arith, c.entering-first.ensures.end, ap length table, row_within now.nodes c.args.node now.edges c.requires)

pub returns : goal.returns
returns c =
    let now = c.args.self.now in
    let table = c.items.ensures ∙ sources_by_target c.self.inside.nodes c.self.inside.edges c.self.inside.sources c.self.inside.targets c.self.inside.starts c.self.inside.entries now c.self.invariant c.self.view_is in
    c.part.ensures
    ∙ ap (λ l. slice_range l c.entering-first.result.0 c.entering-first.result.1) table
    ∙ ap (λ n. slice_range (map source_of (by_target now.nodes now.edges)) n c.entering-first.result.1) c.entering-first.ensures.first
    ∙ ap (slice_range (map source_of (by_target now.nodes now.edges)) _) c.entering-first.ensures.end
    ∙ entering_row now.nodes c.args.node now.edges c.requires
