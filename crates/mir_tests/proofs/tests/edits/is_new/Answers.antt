use Rattle.std.proofs.Common.{◌≢◌, slice_get, Some, arith, below_more, sym, ◌∙◌}
use Rattle.std.proofs.lemmas.Option.{slice_get_within, get_or_from_slice_get}
use Rattle.std.specs.Cmp.Lexicographic.{other_text}
use Rattle.mir_tests.proofs.tests.edits.is_new.Goals as goal

pub loop-n-preserved : goal.loop-n-preserved
loop-n-preserved c =
    below_more (λ i. slice_get c.args.names.now i ≢ Some c.args.name.now) c.loop-n.n c.loop-n.invariant
    (λ at. other_text c.bytes.result.now c.bytes-in-loop-n.result.now (sym c.if-eq.false ∙ c.eq.ensures)
    (c.bytes.ensures.value ∙ c.index-names-n.is ∙ get_or_from_slice_get c.args.names.now c.loop-n.n c.args.name.now c.index-names-n.result at ∙ sym c.bytes-in-loop-n.ensures.value))

pub returns : goal.returns
returns c t i at = c.loop-n.invariant i (omega (arith, slice_get_within c.args.names.now i c.args.name.now at, c.loop-n-test.false)) at
