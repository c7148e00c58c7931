use Rattle.std.proofs.Common.{◌++◌, length, take, drop, refl}
use Rattle.bit_rows.specs.Bits.{minus_bits, or_bits}
use Rattle.bit_rows.proofs.Views.{Holds, minus_bitwise, or_bitwise}
use Rattle.bit_rows.proofs.Ops.{as_long, joined_by_two, words_long}
use Rattle.bit_rows.proofs.row.Row.minus_then_or.Goals as goal
use Rattle.bit_rows.proofs.row.Row.minus_then_or.Goals.{After-minus_then_or_words}

pub minus_then_or_words-requires-clause-less : goal.minus_then_or_words-requires-clause-less
minus_then_or_words-requires-clause-less c =
    rw c.as_mut_slice.ensures.value
    (words_long c.self.inside.bits c.self.inside.words.items c.args.self.now c.self.invariant c.self.view_is
    c.less.inside.bits c.less.inside.words.now c.args.less.now c.less.invariant c.less.view_is c.requires.less)

pub minus_then_or_words-requires-clause-more : goal.minus_then_or_words-requires-clause-more
minus_then_or_words-requires-clause-more c =
    rw c.as_mut_slice.ensures.value
    (words_long c.self.inside.bits c.self.inside.words.items c.args.self.now c.self.invariant c.self.view_is
    c.more.inside.bits c.more.inside.words.now c.args.more.now c.more.invariant c.more.view_is c.requires.more)

done : (c : After-minus_then_or_words) → Holds c.self.inside.bits (take (length c.self.inside.words.items) (c.minus_then_or_words.new.into ++ drop (length c.minus_then_or_words.new.into) c.self.inside.words.items)) (or_bits (minus_bits c.args.self.now c.args.less.now) c.args.more.now)
done c =
    joined_by_two c.self.inside.bits (length c.self.inside.words.items) c.self.inside.words.items c.minus_then_or_words.new.into c.args.self.now c.self.invariant c.self.view_is refl (rw c.as_mut_slice.ensures.value at c.minus_then_or_words.ensures.len)
    c.less.inside.bits c.less.inside.words.now c.args.less.now c.less.invariant c.less.view_is c.requires.less
    c.more.inside.bits c.more.inside.words.now c.args.more.now c.more.invariant c.more.view_is c.requires.more
    _ _ minus_bitwise _ _ or_bitwise (rw c.as_mut_slice.ensures.value at c.minus_then_or_words.ensures.each)

pub invariant_of-self : goal.invariant_of-self
invariant_of-self c = (done (goal.at.invariant_of-self c).After-minus_then_or_words).fits

pub returns-clause-made : goal.returns-clause-made
returns-clause-made c = (done (goal.at.returns-clause-made c).After-minus_then_or_words).view

pub returns-clause-len : goal.returns-clause-len
returns-clause-len c = as_long c.self.inside.bits c.self.inside.words.items _ c.args.self.now c.self.view_is
