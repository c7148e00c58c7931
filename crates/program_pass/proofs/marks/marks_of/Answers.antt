use Rattle.std.proofs.Common.{◌+◌, drop, slice_index_or, ap, subst}
use Rattle.std.proofs.lemmas.List.{drop_all}
use Rattle.std.proofs.lemmas.Option.{slice_get-get_or}
use Rattle.flow_graph.specs.ListLaws.{drop_at}
use Rattle.program_pass.proofs.Marking.{AreSet, all_set, set_more, set_passed}
use Rattle.program_pass.proofs.marks.marks_of.Goals as goal
use Rattle.program_pass.proofs.marks.marks_of.Goals.{then-number-count, else-number-count}

pub loop-number-preserved : goal.loop-number-preserved
loop-number-preserved c =
    let numbers = c.args.numbers.now in
    let i = c.loop-number.number-index in
    let number = slice_index_or numbers i 0 in
    let before = subst (λ rest. AreSet numbers rest c.args.count c.loop-number.marks.items) (drop_at numbers i number (slice_get-get_or numbers i 0 c.loop-number-test.true)) c.loop-number.invariant in
    elim c.if-number-count.branch [
      | then-number-count w ↦ set_more numbers (drop (i + 1) numbers) number c.args.count c.loop-number.marks.items c.if-number-count.marks.items w.if-number-count.true (ap (λ v. v.items) w.marks-is) before
      | else-number-count w ↦ set_passed numbers (drop (i + 1) numbers) number c.args.count c.loop-number.marks.items c.if-number-count.marks.items w.if-number-count.false (ap (λ v. v.items) w.marks-is) before
    ]

pub returns : goal.returns
returns c =
    let numbers = c.args.numbers.now in
    let i = c.loop-number.number-index in
    all_set numbers (drop i numbers) c.args.count c.loop-number.marks.items (drop_all i numbers c.loop-number-test.false) c.loop-number.invariant
