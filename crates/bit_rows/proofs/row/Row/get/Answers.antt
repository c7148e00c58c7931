use Rattle.std.proofs.Common.{◌≡◌, ◌+◌, ◌/◌, ◌<◌, length, arith, sym, ◌∙◌}
use Rattle.bit_rows.proofs.Ops.{row_len}
use Rattle.bit_rows.proofs.Views.{get_or_bits_of}
use Rattle.bit_rows.proofs.row.Row.get.Goals as goal
use Rattle.bit_rows.proofs.row.Row.get.Goals.{After-as_slice}

early : (c : After-as_slice) → c.args.bit < c.self.inside.bits
early c = rw (← row_len c.self.inside.bits c.self.inside.words.items c.args.self.now c.self.view_is) c.requires

pub word_bit-requires : goal.word_bit-requires
word_bit-requires c =
    let low : c.args.bit < c.self.inside.bits = early (goal.at.word_bit-requires c).After-as_slice in
    let len : length c.self.inside.words.items ≡ (c.self.inside.bits + 63) / 64 = c.self.invariant.len in
    rw c.as_slice.ensures (omega arith)

pub returns : goal.returns
returns c =
    let low = early (goal.at.returns c).After-as_slice in
    rw c.as_slice.ensures at c.word_bit.ensures ∙ rw (← c.self.view_is) (sym (get_or_bits_of c.self.inside.bits c.self.inside.words.items c.args.bit low))
