use Rattle.std.proofs.Common.{◌+◌, sym, ◌∙◌, subst, arith}
use Rattle.live_range.specs.Wanted.{AreMaskedBelow}
use Rattle.live_range.proofs.Masked.{stayed_row, lost_row}
use Rattle.live_range.proofs.wanted.mask_rows.Goals as goal
use Rattle.live_range.proofs.wanted.mask_rows.Goals.{then-not-get, else-not-get}

pub loop-n-preserved : goal.loop-n-preserved
loop-n-preserved c =
    let n = c.loop-n.n in
    let mask = c.args.mask.now in
    let old = c.args.rows.now in
    let rows = c.loop-n.rows in
    elim c.if-not-get.branch [
      | then-not-get w ↦
          lost_row n c.args.same.now mask old rows c.if-not-get.rows c.requires.same (sym c.get.ensures ∙ w.if-not-get.true) (omega (arith, c.loop-n-test.true, c.len-n-end.ensures)) (w.rows-is ∙ w.minus_into.ensures) c.loop-n.invariant
      | else-not-get w ↦ subst (AreMaskedBelow (n + 1) mask old) (sym w.rows-is) (stayed_row n mask old rows (sym c.get.ensures ∙ w.if-not-get.false) c.loop-n.invariant)
    ]
