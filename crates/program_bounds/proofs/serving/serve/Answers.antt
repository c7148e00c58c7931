use Rattle.std.proofs.Common.{◌≡◌, ◌∙◌, [], length, map, false, slice_get, slice_set, Some, sym, ap, subst, arith}
use Rattle.std.specs.Option.{option_map}
use Rattle.std.proofs.lemmas.List.{get_or_default}
use Rattle.std.proofs.lemmas.Option.{slice_get-get_or}
use Rattle.node_list.specs.Lists.{list_at}
use Rattle.bounds.specs.Facts.{BelowFact}
use Rattle.cond_flow.specs.Handing.{AreHanded}
use Rattle.cond_flow.specs.Rewritten.{IsMadeWithin}
use Rattle.program_bounds.specs.Facts.{row_at}
use Rattle.program_bounds.specs.Stale.{FreshAreServed, RaisedMarked}
use Rattle.program_bounds.specs.Sweeps.{CanGive, GivesTo}
use Rattle.program_bounds.specs.Tables.{facts_of}
use Rattle.program_bounds.proofs.Rows.{reached_known}
use Rattle.program_bounds.proofs.ServeLaws.{can_give, unit_fresh, unit_serves}
use Rattle.program_bounds.proofs.serving.serve.Goals as goal

pub give-requires : goal.give-requires
give-requires c =
    let graphs = c.args.graphs.now.items in
    let old = facts_of c.args.tables.now in
    let u = c.args.unit in
    let graph = c.index-graph.result.now in
    let at : slice_get graphs u ≡ Some graph = slice_get-get_or graphs u graph c.requires.there ∙ ap Some (sym c.index-graph.ensures) in
    let known = reached_known (row_at old.entries u) c.requires.entered in
    let are = subst (λ r. AreHanded BelowFact r graph c.in_ok-solved.solved.handed.items) c.around-outside.ensures c.in_ok-solved.ensures.handed in
    subst (λ l. CanGive graph u (map (option_map (λ list. list.items)) l) old) (sym c.as_slice.ensures.value)
    (can_give graphs c.requires.can.fit u graph at old c.requires.can.progress known.0 known.1 c.in_ok-solved.solved.handed.items are)

pub returns-clause-serves : goal.returns-clause-serves
returns-clause-serves c =
    let graphs = c.args.graphs.now.items in
    let old = facts_of c.args.tables.now in
    let new = facts_of c.give.new.tables in
    let u = c.args.unit in
    let graph = c.index-graph.result.now in
    let at : slice_get graphs u ≡ Some graph = slice_get-get_or graphs u graph c.requires.there ∙ ap Some (sym c.index-graph.ensures) in
    let known = reached_known (row_at old.entries u) c.requires.entered in
    let are = subst (λ r. AreHanded BelowFact r graph c.in_ok-solved.solved.handed.items) c.around-outside.ensures c.in_ok-solved.ensures.handed in
    let gives = subst (λ l. GivesTo graph u (map (option_map (λ list. list.items)) l) (length graph.nodes) old new c.in_ok-raised.raised) c.as_slice.ensures.value c.in_ok-raised.ensures.gives in
    unit_serves graphs c.requires.can.fit u graph at old c.requires.can.progress known.0 known.1 c.in_ok-solved.solved.handed.items are new c.in_ok-raised.raised gives

pub returns-clause-fresh : goal.returns-clause-fresh
returns-clause-fresh c =
    let graphs = c.args.graphs.now.items in
    let callers = c.args.callers.now.items in
    let stale = c.args.tables.now.stale.items in
    let old = facts_of c.args.tables.now in
    let new = facts_of c.give.new.tables in
    let u = c.args.unit in
    let graph = c.index-graph.result.now in
    let at : slice_get graphs u ≡ Some graph = slice_get-get_or graphs u graph c.requires.there ∙ ap Some (sym c.index-graph.ensures) in
    let known = reached_known (row_at old.entries u) c.requires.entered in
    let are = subst (λ r. AreHanded BelowFact r graph c.in_ok-solved.solved.handed.items) c.around-outside.ensures c.in_ok-solved.ensures.handed in
    let gives = subst (λ l. GivesTo graph u (map (option_map (λ list. list.items)) l) (length graph.nodes) old new c.in_ok-raised.raised) c.as_slice.ensures.value c.in_ok-raised.ensures.gives in
    let units_are : c.units-list.result.now ≡ list_at callers u = c.units-list.ensures ∙ c.index.ensures ∙ get_or_default callers u _ [] (omega (arith, c.requires.there, c.requires.can.are_callers.long)) in
    subst (FreshAreServed graphs new c.give.new.tables.stale.items) (sym c.in_ok-raised.ensures.kept)
    (unit_fresh graphs c.requires.can.fit u graph at old c.requires.can.progress known.0 known.1 c.in_ok-solved.solved.handed.items are new c.in_ok-raised.raised gives
    callers c.requires.can.are_callers stale c.give.new.tables.stale.items c.args.tables.now.made.items c.in_ok-solved.solved.made c.requires.can.fresh
    (subst (λ r. IsMadeWithin BelowFact r graph c.in_ok-solved.solved.made) c.around-outside.ensures c.in_ok-solved.ensures.made)
    (subst (λ l. RaisedMarked l u old new (slice_set stale u false) c.give.new.tables.stale.items) units_are c.in_ok-raised.ensures.marked))
