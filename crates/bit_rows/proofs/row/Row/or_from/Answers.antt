use Rattle.std.proofs.Common.{◌≡◌, ◌++◌, length, take, drop, refl}
use Rattle.bit_rows.specs.Bits.{or_bits}
use Rattle.bit_rows.proofs.Views.{Holds, or_bitwise}
use Rattle.bit_rows.proofs.Ops.{as_long, joined, words_long, changed_row}
use Rattle.bit_rows.proofs.row.Row.or_from.Goals as goal
use Rattle.bit_rows.proofs.row.Row.or_from.Goals.{After-or_words}

pub or_words-requires : goal.or_words-requires
or_words-requires c =
    rw c.as_mut_slice.ensures.value
    (words_long c.self.inside.bits c.self.inside.words.items c.args.self.now c.self.invariant c.self.view_is
    c.other.inside.bits c.other.inside.words.now c.args.other.now c.other.invariant c.other.view_is c.requires)

same_len : (c : After-or_words) → length c.or_words.new.into ≡ length c.self.inside.words.items
same_len c = rw c.as_mut_slice.ensures.value at c.or_words.ensures.len

done : (c : After-or_words) → Holds c.self.inside.bits (take (length c.self.inside.words.items) (c.or_words.new.into ++ drop (length c.or_words.new.into) c.self.inside.words.items)) (or_bits c.args.self.now c.args.other.now)
done c =
    joined c.self.inside.bits (length c.self.inside.words.items) c.self.inside.words.items c.or_words.new.into c.args.self.now c.self.invariant c.self.view_is refl (same_len c)
    c.other.inside.bits c.other.inside.words.now c.args.other.now c.other.invariant c.other.view_is c.requires
    _ _ or_bitwise (rw c.as_mut_slice.ensures.value at c.or_words.ensures.or)

pub invariant_of-self : goal.invariant_of-self
invariant_of-self c = (done (goal.at.invariant_of-self c).After-or_words).fits

pub returns-clause-or : goal.returns-clause-or
returns-clause-or c = (done (goal.at.returns-clause-or c).After-or_words).view

pub returns-clause-len : goal.returns-clause-len
returns-clause-len c = as_long c.self.inside.bits c.self.inside.words.items _ c.args.self.now c.self.view_is

pub returns-clause-unchanged : goal.returns-clause-unchanged
returns-clause-unchanged c =
    let known = (goal.at.returns-clause-unchanged c).After-or_words in
    changed_row c.self.inside.bits (length c.self.inside.words.items) c.self.inside.words.items c.or_words.new.into c.args.self.now c.self.invariant c.self.view_is refl (same_len known) _ c.or_words.result (done known)
    (rw c.as_mut_slice.ensures.value at c.or_words.ensures.unchanged)
