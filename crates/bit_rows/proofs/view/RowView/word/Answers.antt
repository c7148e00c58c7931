use Rattle.std.proofs.Common.{◌≡◌, ◌+◌, ◌*◌, ◌<◌, ◌/◌, length, arith}
use Rattle.bit_rows.proofs.Ops.{row_len}
use Rattle.bit_rows.proofs.Views.{word_of_bits}
use Rattle.bit_rows.proofs.view.RowView.word.Goals as goal

pub word_at-requires : goal.word_at-requires
word_at-requires c =
    let bits : length c.args.self.now ≡ c.self.inside.bits = row_len c.self.inside.bits c.self.inside.words.now c.args.self.now c.self.view_is in
    let low : 64 * c.args.number < length c.args.self.now = c.requires in
    let len : length c.self.inside.words.now ≡ (c.self.inside.bits + 63) / 64 = c.self.invariant.len in
    omega arith

pub returns : goal.returns
returns c i h =
    let low : 64 * c.args.number < c.self.inside.bits = rw (← row_len c.self.inside.bits c.self.inside.words.now c.args.self.now c.self.view_is) c.requires in
    rw (c.word_at.ensures, ← c.self.view_is) (word_of_bits c.self.inside.bits c.self.inside.words.now c.args.number c.self.invariant low i h)
