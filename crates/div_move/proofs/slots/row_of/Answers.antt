use Rattle.std.proofs.Common.{◌∙◌, replicate, ap, sym}
use Rattle.bit_rows.specs.Bits.{not_bits}
use Rattle.div_move.proofs.Pairs.{not_replicate}
use Rattle.div_move.proofs.slots.row_of.Goals as goal
use Rattle.div_move.proofs.slots.row_of.Goals.{then-value, else-value}

pub returns : goal.returns
returns c = elim c.if-value.branch [
  | then-value w ↦ w.row-is ∙ w.flip.ensures.flipped ∙ ap not_bits c.in_ok-row.ensures ∙ not_replicate c.args.bits ∙ ap (replicate c.args.bits) (sym w.if-value.true)
  | else-value w ↦ w.row-is ∙ c.in_ok-row.ensures ∙ ap (replicate c.args.bits) (sym w.if-value.false)
]
