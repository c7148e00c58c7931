use Rattle.std.proofs.Common.{◌≡◌, Some, ◌∙◌, ap, arith, length, map, slice_range}
use Rattle.flow_graph.specs.Edges.{by_target, preds_among, source_of}
use Rattle.flow_graph.proofs.EdgeOrder.{entering_row, no_source, one_source, row_end, row_within, sources_by_target}
use Rattle.flow_graph.proofs.edges.Edges.only_pred.Goals as goal
use Rattle.flow_graph.proofs.edges.Edges.only_pred.Goals.{After-items}

-- the sources stand by target
table : (c : After-items) → c.items.result.now ≡ map source_of (by_target c.args.self.now.nodes c.args.self.now.edges)
table c = c.items.ensures ∙ sources_by_target c.self.inside.nodes c.self.inside.edges c.self.inside.sources c.self.inside.targets c.self.inside.starts c.self.inside.entries c.args.self.now c.self.invariant c.self.view_is

pub overflow_sub-numbers : goal.overflow_sub-numbers
overflow_sub-numbers c = omega (arith, c.entering-numbers.ensures.first, c.entering-numbers.ensures.end, row_end c.args.node c.args.self.now.edges)

pub entry-requires : goal.entry-requires
entry-requires c =
    let now = c.args.self.now in
    omega (arith, c.if-numbers-eq1.true, c.entering-numbers.ensures.end, ap length (table (goal.at.entry-requires c).After-items), row_within now.nodes c.args.node now.edges c.requires)

pub returns-then-numbers-eq1 : goal.returns-then-numbers-eq1
returns-then-numbers-eq1 c =
    let now = c.args.self.now in
    let all = map source_of (by_target now.nodes now.edges) in
    let numbers = c.entering-numbers in
    let row = ap (λ l. slice_range l numbers.result.0 numbers.result.1) (table (goal.at.returns-then-numbers-eq1 c).After-items)
    ∙ ap (λ n. slice_range all n numbers.result.1) numbers.ensures.first
    ∙ ap (slice_range all _) numbers.ensures.end
    ∙ entering_row now.nodes c.args.node now.edges c.requires in
    ap Some c.entry.ensures ∙ one_source c.items.result.now (preds_among c.args.node now.edges) numbers.result.0 numbers.result.1 0 row (omega (arith, numbers.ensures.first, numbers.ensures.end, row_end c.args.node now.edges)) c.if-numbers-eq1.true

pub returns-else-numbers-eq1 : goal.returns-else-numbers-eq1
returns-else-numbers-eq1 c =
    let now = c.args.self.now in
    let numbers = c.entering-numbers in
    no_source (preds_among c.args.node now.edges) numbers.result.0 numbers.result.1 (omega (arith, numbers.ensures.first, numbers.ensures.end, row_end c.args.node now.edges)) c.if-numbers-eq1.false
