use Rattle.std.proofs.Common.{◌≡◌, ◌+◌, ◌/◌, ◌%◌, ◌<◌, ◌++◌, length, take, drop, set, get_or, refl, arith}
use Rattle.std.proofs.lemmas.List.{length-set}
use Rattle.bit_rows.specs.Words.{with_bit}
use Rattle.bit_rows.proofs.Ops.{row_len}
use Rattle.bit_rows.proofs.Views.{Holds, rewritten_whole, set_holds}
use Rattle.bit_rows.proofs.row.Row.set.Goals as goal
use Rattle.bit_rows.proofs.row.Row.set.Goals.{After-as_mut_slice, After-set_word_bit}

low : (c : After-as_mut_slice) → c.args.bit < c.self.inside.bits
low c = rw (← row_len c.self.inside.bits c.self.inside.words.items c.args.self.now c.self.view_is) c.requires

pub set_word_bit-requires : goal.set_word_bit-requires
set_word_bit-requires c =
    let early : c.args.bit < c.self.inside.bits = low (goal.at.set_word_bit-requires c).After-as_mut_slice in
    let len : length c.self.inside.words.items ≡ (c.self.inside.bits + 63) / 64 = c.self.invariant.len in
    rw c.as_mut_slice.ensures.value (omega arith)

done : (c : After-set_word_bit) → Holds c.self.inside.bits (take (length c.self.inside.words.items) (c.set_word_bit.new.words ++ drop (length c.set_word_bit.new.words) c.self.inside.words.items)) (set c.args.self.now c.args.bit c.args.value)
done c =
    let items = c.self.inside.words.items in
    let early : c.args.bit < c.self.inside.bits = rw (← row_len c.self.inside.bits items c.args.self.now c.self.view_is) c.requires in
    let is : c.set_word_bit.new.words ≡ set items (c.args.bit / 64) (with_bit (get_or items (c.args.bit / 64) 0) (c.args.bit % 64) c.args.value) = rw c.as_mut_slice.ensures.value at c.set_word_bit.ensures in
    rw (rewritten_whole (length items) items c.set_word_bit.new.words refl (rw is (length-set items (c.args.bit / 64) _)), is, ← c.self.view_is)
    (set_holds c.self.inside.bits c.args.bit c.args.value items c.self.invariant early)

pub invariant_of-self : goal.invariant_of-self
invariant_of-self c = (done (goal.at.invariant_of-self c).After-set_word_bit).fits

pub returns : goal.returns
returns c = (done (goal.at.returns c).After-set_word_bit).view
