use Rattle.std.proofs.Common.{◌≡◌, ◌<◌, Some, length, slice_get, slice_set, refl, sym, subst, arith}
use Rattle.std.proofs.lemmas.Grind.{common_steps}
use Rattle.std.proofs.lemmas.Option.{slice_get_read}
use Rattle.flow_graph.specs.ListLaws.{set_here}
use Rattle.value_number.specs.Candidates.{CoverAll}
use Rattle.value_number.proofs.Covers.{cover_given, cover_more, cover_push, on_ok}
use Rattle.value_number.proofs.numbers.add_at.Goals as goal

pub loop-alloc-preserved : goal.loop-alloc-preserved
loop-alloc-preserved c = λ numbers all. subst (CoverAll numbers) (sym c.in_ok-push.ensures.items) (cover_push numbers c.loop-alloc.table.items (c.loop-alloc.invariant numbers all) c.none.result c.none.ensures)

pub returns-clause-covers : goal.returns-clause-covers
returns-clause-covers c = λ numbers all.
    let table = c.loop-alloc.table.items in
    let lt : c.args.number < length table = grind (arith, common_steps) in
    let here : slice_get table c.args.number ≡ Some c.index_mut.result.now = slice_get_read table (length table) c.args.number c.index_mut.result.now refl lt c.index_mut.ensures.value in
    cover_more numbers table (c.loop-alloc.invariant numbers all) c.args.number c.index_mut.result.now c.add.new.self here c.add.ensures.order c.add.ensures.stay

pub returns-clause-there : goal.returns-clause-there
returns-clause-there c =
    let table = c.loop-alloc.table.items in
    let new = c.add.new.self in
    let lt : c.args.number < length table = grind (arith, common_steps) in
    let here : slice_get table c.args.number ≡ Some c.index_mut.result.now = slice_get_read table (length table) c.args.number c.index_mut.result.now refl lt c.index_mut.ensures.value in
    on_ok c.add.result
    (λ is numbers within all. cover_given numbers (slice_set table c.args.number new)
    (cover_more numbers table (c.loop-alloc.invariant numbers all) c.args.number c.index_mut.result.now new here c.add.ensures.order c.add.ensures.stay)
    c.args.x c.args.number new within (set_here table c.args.number new lt) is)
    c.add.ensures.there
