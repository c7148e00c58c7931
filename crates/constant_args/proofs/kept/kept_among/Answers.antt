use Rattle.std.proofs.Common.{◌≡◌, false, [], ◌∷◌, ◌++◌, if◌then◌else◌, map, None, Some, slice_get, slice_index_or, ap, ◌∙◌, arith}
use Rattle.std.proofs.lemmas.List.{get_or_default}
use Rattle.std.proofs.lemmas.Option.{slice_get-get_or}
use Rattle.program_pass.specs.Marks.{mark_told}
use Rattle.constant_args.specs.Gathered.{kept_var}
use Rattle.constant_args.proofs.Steps.{below_at, kept_more}
use Rattle.constant_args.proofs.kept.kept_among.Goals as goal

pub index-requires : goal.index-requires
index-requires c =
    let received = c.args.received.now in
    let i = c.loop-x.x-index in
    let low = below_at c.args.vars received i (slice_index_or received i 0) c.requires (slice_get-get_or received i 0 c.loop-x-test.true) in
    omega (arith, low, c.in_ok-marks.ensures.long)

pub loop-x-preserved : goal.loop-x-preserved
loop-x-preserved c =
    let received = c.args.received.now in
    let assigned = c.args.assigned.now in
    let i = c.loop-x.x-index in
    let x = slice_index_or received i 0 in
    let at : slice_get received i ≡ Some x = slice_get-get_or received i 0 c.loop-x-test.true in
    let low = below_at c.args.vars received i x c.requires at in
    let marks = c.in_ok-marks.marks.items in
    let told = mark_told assigned c.args.vars marks x c.in_ok-marks.ensures low in
    let is : c.unmarked.result ≡ kept_var assigned x = c.unmarked.ensures ∙ ap (λ b. if b then None else Some x) (c.index.ensures ∙ get_or_default marks x c.index.result.now false (omega (arith, low, c.in_ok-marks.ensures.long)) ∙ told) in
    kept_more assigned received i x c.loop-x.kept.items c.push.new.self.items (map (kept_var assigned) received) at (c.in_ok-push.ensures.items ∙ ap (λ k. c.loop-x.kept.items ++ k ∷ []) is) c.loop-x.invariant
