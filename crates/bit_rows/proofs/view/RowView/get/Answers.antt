use Rattle.std.proofs.Common.{◌≡◌, ◌+◌, ◌/◌, ◌<◌, length, arith, sym, ◌∙◌}
use Rattle.bit_rows.proofs.Ops.{row_len}
use Rattle.bit_rows.proofs.Views.{get_or_bits_of}
use Rattle.bit_rows.proofs.view.RowView.get.Goals as goal

pub word_bit-requires : goal.word_bit-requires
word_bit-requires c =
    let bits : length c.args.self.now ≡ c.self.inside.bits = row_len c.self.inside.bits c.self.inside.words.now c.args.self.now c.self.view_is in
    let low : c.args.bit < length c.args.self.now = c.requires in
    let len : length c.self.inside.words.now ≡ (c.self.inside.bits + 63) / 64 = c.self.invariant.len in
    omega arith

pub returns : goal.returns
returns c =
    let low : c.args.bit < c.self.inside.bits = rw (← row_len c.self.inside.bits c.self.inside.words.now c.args.self.now c.self.view_is) c.requires in
    c.word_bit.ensures ∙ rw (← c.self.view_is) (sym (get_or_bits_of c.self.inside.bits c.self.inside.words.now c.args.bit low))
