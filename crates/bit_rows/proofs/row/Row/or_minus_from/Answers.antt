use Rattle.std.proofs.Common.{◌≡◌, ◌++◌, length, take, drop, refl}
use Rattle.bit_rows.specs.Bits.{minus_bits, or_bits}
use Rattle.bit_rows.proofs.Views.{Holds}
use Rattle.bit_rows.proofs.Ops.{as_long, or_minused, words_long, changed_row}
use Rattle.bit_rows.proofs.row.Row.or_minus_from.Goals as goal
use Rattle.bit_rows.proofs.row.Row.or_minus_from.Goals.{After-or_minus_words}

pub or_minus_words-requires-clause-from : goal.or_minus_words-requires-clause-from
or_minus_words-requires-clause-from c =
    rw c.as_mut_slice.ensures.value
    (words_long c.self.inside.bits c.self.inside.words.items c.args.self.now c.self.invariant c.self.view_is
    c.other.inside.bits c.other.inside.words.now c.args.other.now c.other.invariant c.other.view_is c.requires.other)

pub or_minus_words-requires-clause-less : goal.or_minus_words-requires-clause-less
or_minus_words-requires-clause-less c =
    rw c.as_mut_slice.ensures.value
    (words_long c.self.inside.bits c.self.inside.words.items c.args.self.now c.self.invariant c.self.view_is
    c.less.inside.bits c.less.inside.words.now c.args.less.now c.less.invariant c.less.view_is c.requires.less)

same_len : (c : After-or_minus_words) → length c.or_minus_words.new.into ≡ length c.self.inside.words.items
same_len c = rw c.as_mut_slice.ensures.value at c.or_minus_words.ensures.len

done : (c : After-or_minus_words) → Holds c.self.inside.bits (take (length c.self.inside.words.items) (c.or_minus_words.new.into ++ drop (length c.or_minus_words.new.into) c.self.inside.words.items)) (or_bits c.args.self.now (minus_bits c.args.other.now c.args.less.now))
done c =
    or_minused c.self.inside.bits (length c.self.inside.words.items) c.self.inside.words.items c.or_minus_words.new.into c.args.self.now c.self.invariant c.self.view_is refl (same_len c)
    c.other.inside.bits c.other.inside.words.now c.args.other.now c.other.invariant c.other.view_is c.requires.other
    c.less.inside.bits c.less.inside.words.now c.args.less.now c.less.invariant c.less.view_is c.requires.less
    (rw c.as_mut_slice.ensures.value at c.or_minus_words.ensures.or_minus)

pub invariant_of-self : goal.invariant_of-self
invariant_of-self c = (done (goal.at.invariant_of-self c).After-or_minus_words).fits

pub returns-clause-or_minus : goal.returns-clause-or_minus
returns-clause-or_minus c = (done (goal.at.returns-clause-or_minus c).After-or_minus_words).view

pub returns-clause-len : goal.returns-clause-len
returns-clause-len c = as_long c.self.inside.bits c.self.inside.words.items _ c.args.self.now c.self.view_is

pub returns-clause-unchanged : goal.returns-clause-unchanged
returns-clause-unchanged c =
    let known = (goal.at.returns-clause-unchanged c).After-or_minus_words in
    changed_row c.self.inside.bits (length c.self.inside.words.items) c.self.inside.words.items c.or_minus_words.new.into c.args.self.now c.self.invariant c.self.view_is refl (same_len known) _ c.or_minus_words.result (done known)
    (rw c.as_mut_slice.ensures.value at c.or_minus_words.ensures.unchanged)
