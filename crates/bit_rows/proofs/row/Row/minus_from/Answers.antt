use Rattle.std.proofs.Common.{◌++◌, length, take, drop, refl}
use Rattle.bit_rows.specs.Bits.{minus_bits}
use Rattle.bit_rows.specs.declared.joining.Joining.TheVariants.{Minus}
use Rattle.bit_rows.proofs.Views.{Holds, joining_bitwise}
use Rattle.bit_rows.proofs.Ops.{as_long, joined, words_long}
use Rattle.bit_rows.proofs.row.Row.minus_from.Goals as goal
use Rattle.bit_rows.proofs.row.Row.minus_from.Goals.{After-join_words}

pub join_words-requires : goal.join_words-requires
join_words-requires c =
    rw c.as_mut_slice.ensures.value
    (words_long c.self.inside.bits c.self.inside.words.items c.args.self.now c.self.invariant c.self.view_is
    c.other.inside.bits c.other.inside.words.now c.args.other.now c.other.invariant c.other.view_is c.requires)

done : (c : After-join_words) → Holds c.self.inside.bits (take (length c.self.inside.words.items) (c.join_words.new.into ++ drop (length c.join_words.new.into) c.self.inside.words.items)) (minus_bits c.args.self.now c.args.other.now)
done c =
    joined c.self.inside.bits (length c.self.inside.words.items) c.self.inside.words.items c.join_words.new.into c.args.self.now c.self.invariant c.self.view_is refl (rw c.as_mut_slice.ensures.value at c.join_words.ensures.len)
    c.other.inside.bits c.other.inside.words.now c.args.other.now c.other.invariant c.other.view_is c.requires
    _ _ (joining_bitwise Minus) (rw c.as_mut_slice.ensures.value at c.join_words.ensures.each)

pub invariant_of-self : goal.invariant_of-self
invariant_of-self c = (done (goal.at.invariant_of-self c).After-join_words).fits

pub returns-clause-minus : goal.returns-clause-minus
returns-clause-minus c = (done (goal.at.returns-clause-minus c).After-join_words).view

pub returns-clause-len : goal.returns-clause-len
returns-clause-len c = as_long c.self.inside.bits c.self.inside.words.items _ c.args.self.now c.self.view_is
