use Rattle.std.proofs.Common.{◌<◌, ◌∙◌, List, length, get_or, slice_get, Some, ap, sym, arith}
use Rattle.std.proofs.lemmas.Option.{slice_get-get_or, slice_get_within}
use Rattle.mir_base.specs.declared.instructions.Expr.{Expr}
use Rattle.latest_place.proofs.parts.part_of.Goals as goal

pub of-requires : goal.of-requires
of-requires c = λ i j low low' same.
    let inv = c.loop-k.invariant in
    let all = c.loop-k-test.false in
    let long = inv.long in
    let bound = c.loop-k.auto.k-end in
    let numbers = c.args.numbers.now in
    let i_in : i < length numbers = omega (arith, low, long, bound) in
    let j_in : j < length numbers = omega (arith, low', long, bound) in
    let at = slice_get-get_or numbers i 0 i_in in
    let at' = slice_get-get_or numbers j 0 j_in in
    let one = c.len-differ.ensures.differ (get_or numbers i 0) (get_or numbers j 0) (c.requires.below i (get_or numbers i 0) at) (c.requires.below j (get_or numbers j 0) at')
    (sym (inv.each i (get_or numbers i 0) (omega (arith, low, long)) at) ∙ same ∙ inv.each j (get_or numbers j 0) (omega (arith, low', long)) at') in
    c.requires.differ i j i_in j_in (at ∙ ap Some one ∙ sym at')

pub returns : goal.returns
returns c =
    let inv = c.loop-k.invariant in
    let all = c.loop-k-test.false in
    let bound = c.loop-k.auto.k-end in
    let long = inv.long in
    record {
      long = ap (λ (l : List Expr). length l) c.in_ok-part.ensures ∙ omega (arith, all, bound, long);
      each = λ k i at. ap (λ (l : List Expr). slice_get l k) c.in_ok-part.ensures ∙ inv.each k i (let inside = slice_get_within c.args.numbers.now k i at in omega (arith, inside, all)) at;
    }
