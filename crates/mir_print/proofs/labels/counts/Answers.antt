use Rattle.std.proofs.Common.{◌≡◌, ℕ, ◌+◌, ◌≤◌, Bool, true, false, refl, if◌then◌else◌, List, length, get_or, ap, ◌∙◌, arith}
use Rattle.std.proofs.lemmas.List.{length_push}
use mir.Val.{bool_byte}
use Rattle.mir_base.specs.Text.{is_target, targets_below}
use Rattle.mir_print.proofs.Counting.{at_most_one, counted_more, below_more}
use Rattle.mir_print.proofs.labels.counts.Goals as goal

byte-is : (b : Bool) → bool_byte b ≡ (if b then 1 else 0)
byte-is true = refl
byte-is false = refl

pub loop-mark-preserved : goal.loop-mark-preserved
loop-mark-preserved c =
    let i = c.loop-mark.mark-index in
    let marks = c.in_ok-marks.ensures in
    let mark : Bool = get_or c.deref-mark-items.result.now i false in
    let low : i ≤ length c.args.body.now = let e = ap length c.deref-mark-items.ensures.value in omega (arith, e, marks.many, c.loop-mark-test.true) in
    let is : mark ≡ is_target c.args.body.now i = ap (λ (ms : List Bool). get_or ms i false) c.deref-mark-items.ensures.value ∙ marks.each i low in
    let next : c.loop-mark.below + c.from-below.result ≡ targets_below c.args.body.now (i + 1) =
    ap (λ (n : ℕ). c.loop-mark.below + n) (c.from-below.ensures ∙ byte-is mark) ∙ below_more c.args.body.now i c.loop-mark.below mark is c.loop-mark.invariant.last in
    record {
      many = ap length c.in_ok-push-2.ensures.items ∙ length_push c.loop-mark.counts.items (c.loop-mark.below + c.from-below.result) ∙ ap (λ (n : ℕ). n + 1) c.loop-mark.invariant.many;
      last = next;
      low = let one = at_most_one mark in omega (arith, c.from-below.ensures, byte-is mark, c.loop-mark.invariant.low, one);
      each = λ place under.
          ap (λ (counts : List ℕ). get_or counts place 0) c.in_ok-push-2.ensures.items
          ∙ counted_more c.args.body.now c.loop-mark.counts.items i (c.loop-mark.below + c.from-below.result) c.loop-mark.invariant.many next c.loop-mark.invariant.each place under;
    }
