use Rattle.std.proofs.Common.{◌≡◌, ◌++◌, length, take, drop, refl}
use Rattle.bit_rows.specs.Bits.{minus_bits, or_bits}
use Rattle.bit_rows.proofs.Views.{Holds}
use Rattle.bit_rows.proofs.Views.{rewritten_whole}
use Rattle.bit_rows.proofs.Marking.{marks_long, settled_from, marked_from}
use Rattle.bit_rows.proofs.Ops.{as_long, or_minused, words_long, changed_row}
use Rattle.bit_rows.proofs.row.Row.or_minus_marked.Goals as goal
use Rattle.bit_rows.proofs.row.Row.or_minus_marked.Goals.{After-or_minus_marked_words}

pub or_minus_marked_words-requires-clause-from : goal.or_minus_marked_words-requires-clause-from
or_minus_marked_words-requires-clause-from c =
    rw c.as_mut_slice.ensures.value
    (words_long c.self.inside.bits c.self.inside.words.items c.args.self.now c.self.invariant c.self.view_is
    c.other.inside.bits c.other.inside.words.now c.args.other.now c.other.invariant c.other.view_is c.requires.other)

pub or_minus_marked_words-requires-clause-less : goal.or_minus_marked_words-requires-clause-less
or_minus_marked_words-requires-clause-less c =
    rw c.as_mut_slice.ensures.value
    (words_long c.self.inside.bits c.self.inside.words.items c.args.self.now c.self.invariant c.self.view_is
    c.less.inside.bits c.less.inside.words.now c.args.less.now c.less.invariant c.less.view_is c.requires.less)

same_len : (c : After-or_minus_marked_words) → length c.or_minus_marked_words.new.into ≡ length c.self.inside.words.items
same_len c = rw c.as_mut_slice.ensures.value at c.or_minus_marked_words.ensures.len

done : (c : After-or_minus_marked_words) → Holds c.self.inside.bits (take (length c.self.inside.words.items) (c.or_minus_marked_words.new.into ++ drop (length c.or_minus_marked_words.new.into) c.self.inside.words.items)) (or_bits c.args.self.now (minus_bits c.args.other.now c.args.less.now))
done c =
    or_minused c.self.inside.bits (length c.self.inside.words.items) c.self.inside.words.items c.or_minus_marked_words.new.into c.args.self.now c.self.invariant c.self.view_is refl (same_len c)
    c.other.inside.bits c.other.inside.words.now c.args.other.now c.other.invariant c.other.view_is c.requires.other
    c.less.inside.bits c.less.inside.words.now c.args.less.now c.less.invariant c.less.view_is c.requires.less
    (rw c.as_mut_slice.ensures.value at c.or_minus_marked_words.ensures.or_minus)

pub invariant_of-self : goal.invariant_of-self
invariant_of-self c = (done (goal.at.invariant_of-self c).After-or_minus_marked_words).fits

pub returns-clause-or_minus : goal.returns-clause-or_minus
returns-clause-or_minus c = (done (goal.at.returns-clause-or_minus c).After-or_minus_marked_words).view

pub returns-clause-len : goal.returns-clause-len
returns-clause-len c = as_long c.self.inside.bits c.self.inside.words.items _ c.args.self.now c.self.view_is

pub returns-clause-unchanged : goal.returns-clause-unchanged
returns-clause-unchanged c =
    let known = (goal.at.returns-clause-unchanged c).After-or_minus_marked_words in
    changed_row c.self.inside.bits (length c.self.inside.words.items) c.self.inside.words.items c.or_minus_marked_words.new.into c.args.self.now c.self.invariant c.self.view_is refl (same_len known) _ c.or_minus_marked_words.result (done known)
    (rw c.as_mut_slice.ensures.value at c.or_minus_marked_words.ensures.unchanged)

pub or_minus_marked_words-requires-clause-marks : goal.or_minus_marked_words-requires-clause-marks
or_minus_marked_words-requires-clause-marks c =
    rw c.as_mut_slice.ensures.value (marks_long c.self.inside.bits c.self.inside.words.items c.args.self.now c.self.invariant c.self.view_is c.args.marks.now c.requires.marks)

pub or_minus_marked_words-requires-clause-into_marks : goal.or_minus_marked_words-requires-clause-into_marks
or_minus_marked_words-requires-clause-into_marks c =
    rw c.as_mut_slice.ensures.value (marks_long c.self.inside.bits c.self.inside.words.items c.args.self.now c.self.invariant c.self.view_is c.args.own_marks.now c.requires.own_marks)

pub or_minus_marked_words-requires-clause-settled : goal.or_minus_marked_words-requires-clause-settled
or_minus_marked_words-requires-clause-settled c =
    rw c.as_mut_slice.ensures.value
    (settled_from c.self.inside.bits c.self.inside.words.items c.args.self.now c.self.invariant c.self.view_is
    c.other.inside.bits c.other.inside.words.now c.args.other.now c.other.invariant c.other.view_is c.requires.other
    c.less.inside.bits c.less.inside.words.now c.args.less.now c.less.invariant c.less.view_is c.requires.less
    c.args.marks.now c.requires.marks c.requires.settled)

pub returns-clause-marked : goal.returns-clause-marked
returns-clause-marked c =
    let known = (goal.at.returns-clause-marked c).After-or_minus_marked_words in
    rw (rewritten_whole (length c.self.inside.words.items) c.self.inside.words.items c.or_minus_marked_words.new.into refl (same_len known))
    (marked_from c.self.inside.bits c.self.inside.words.items c.args.self.now c.self.invariant c.self.view_is c.or_minus_marked_words.new.into c.args.own_marks.now c.or_minus_marked_words.new.into_marks
    c.requires.own_marks c.or_minus_marked_words.ensures.marks_len (rw c.as_mut_slice.ensures.value at c.or_minus_marked_words.ensures.marked))
