use Rattle.std.proofs.Common.{◌∙◌, ◌<◌, [], length, map, slice_set, Some, sym, ap, subst, arith}
use Rattle.std.proofs.lemmas.List.{get_or-set_other, get_or_read, length-map, map-set, set-get_or}
use Rattle.cond_flow.specs.States.{Knows, Unreached}
use Rattle.program_bounds.specs.BoundStacks.{bounded_keep}
use Rattle.program_bounds.specs.Facts.{ProgramFacts, row_at}
use Rattle.program_bounds.specs.Sweeps.{CanJoin, GivesAt}
use Rattle.program_bounds.specs.Tables.{facts_of}
use Rattle.program_bounds.proofs.Marked.{back_marked, entry_marked}
use Rattle.program_bounds.proofs.Rows.{backs_given}
use Rattle.program_bounds.proofs.giving.join.Goals as goal

pub returns-in-Call-clause-marked : goal.returns-in-Call-clause-marked
returns-in-Call-clause-marked c =
    let can = subst (λ n. CanJoin n c.args.unit c.args.facts.now (facts_of c.args.tables.now)) c.in-Call.is c.requires in
    let rows = c.args.tables.now.entries.items in
    let v = c.in-Call.called in
    let value = get_or_read rows v c.index_mut.result.now can.0 c.index_mut.ensures.value (Unreached 0) in
    entry_marked c.args.callers.now c.args.unit rows (map Knows c.args.tables.now.backs.items) (slice_set rows v c.raise-raised.new.self) c.raise-raised.result c.args.tables.now.stale.items c.mark_if.new.stale.items v
    (λ w ne. get_or-set_other rows v w c.raise-raised.new.self (Unreached 0) ne)
    (λ off. ap (slice_set rows v) (c.raise-raised.ensures.unchanged.0 off ∙ value) ∙ set-get_or rows v (Unreached 0))
    c.mark_if.ensures

pub returns-in-Return-clause-gives : goal.returns-in-Return-clause-gives
returns-in-Return-clause-gives c =
    let keep = bounded_keep in
    let can = subst (λ n. CanJoin n c.args.unit c.args.facts.now (facts_of c.args.tables.now)) c.in-Return.is c.requires in
    let items = c.args.tables.now.backs.items in
    let lt : c.args.unit < length items = omega (arith, can.0, length-map items Knows) in
    let at = get_or_read items c.args.unit c.index_mut-in-Return.result.now lt c.index_mut-in-Return.ensures.value [] in
    let made : ProgramFacts = record { entries = c.args.tables.now.entries.items; backs = map Knows (slice_set items c.args.unit c.join_from-raised.new.self) } in
    subst (λ n. GivesAt n c.args.unit (Some c.args.facts.now) (facts_of c.args.tables.now) made c.join_from-raised.result) (sym c.in-Return.is)
    (backs_given c.in-Return.field-0 c.args.tables.now.entries.items items c.args.unit _ c.args.facts.now c.join_from-raised.new.self c.join_from-raised.result lt at c.join_from-raised.ensures.joined c.join_from-raised.ensures.unchanged)

pub returns-in-Return-clause-marked : goal.returns-in-Return-clause-marked
returns-in-Return-clause-marked c =
    let can = subst (λ n. CanJoin n c.args.unit c.args.facts.now (facts_of c.args.tables.now)) c.in-Return.is c.requires in
    let items = c.args.tables.now.backs.items in
    let u = c.args.unit in
    let row = c.join_from-raised.new.self in
    let lt : u < length items = omega (arith, can.0, length-map items Knows) in
    let at = get_or_read items u c.index_mut-in-Return.result.now lt c.index_mut-in-Return.ensures.value [] in
    back_marked c.args.callers.now u c.args.tables.now.entries.items (map Knows items) (map Knows (slice_set items u row)) c.join_from-raised.result c.args.tables.now.stale.items c.mark_if-in-Return.new.stale.items
    (λ w ne. ap (λ l. row_at l w) (map-set Knows items u row) ∙ get_or-set_other (map Knows items) u w (Knows row) (Unreached 0) ne)
    (λ off. ap (map Knows) (ap (slice_set items u) (c.join_from-raised.ensures.unchanged.0 off ∙ at) ∙ set-get_or items u []))
    c.mark_if-in-Return.ensures
