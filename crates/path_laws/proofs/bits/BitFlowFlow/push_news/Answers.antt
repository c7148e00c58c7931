use Rattle.std.proofs.Common.{sym, ◌∙◌}
use Rattle.flow_graph.specs.NumberTables.{number_at}
use Rattle.path_laws.specs.Flow.{flow_laws, seed_rows}
use Rattle.path_laws.specs.OrderLaws.{push_joins}
use Rattle.path_laws.specs.RowMarks.{all_stay, marked_keeps}
use Rattle.path_laws.proofs.bits.BitFlowFlow.push_news.Goals as goal

pub invariant_of-into_news : goal.invariant_of-into_news
invariant_of-into_news g c = λ all.
    all_stay _ _ _ _ c.or_minus_marked.ensures.marked (c.into_news-2.invariant all)

pub returns-clause-joined : goal.returns-clause-joined
returns-clause-joined g c =
    let laws = flow_laws c.args.self.now c.requires.valid in
    let long = c.requires.valid.listed.flow.bar_rows.each _ (laws.targets c.args.number c.requires.in_range) in
    rw (c.or_minus_marked.ensures.or_minus, c.into.view_is, c.view.ensures, c.from.view_is, c.row-stop.ensures, c.requires.target)
    (push_joins c.args.into.now c.args.from.now _ (c.requires.from_size ∙ sym c.requires.into_size) (long ∙ sym c.requires.into_size))

pub returns-clause-keeps : goal.returns-clause-keeps
returns-clause-keeps g c =
    let f = c.args.self.now in
    marked_keeps f.count f.between.now.edges.items (number_at f.between.now.firsts.items) f.bits (seed_rows f.seeds) f.stops.now _ _ _ _ _
    (rw (c.into_news-2.view_is, c.into.view_is) at c.or_minus_marked.ensures.marked)
