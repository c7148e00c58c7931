use Rattle.std.proofs.Common.{◌≡◌, ◌+◌, ◌/◌, ◌++◌, length, take, drop, refl, arith}
use Rattle.bit_rows.specs.Bits.{not_bits}
use Rattle.bit_rows.proofs.Views.{Holds, flip_holds, rewritten_whole}
use Rattle.bit_rows.proofs.Ops.{as_long}
use Rattle.bit_rows.proofs.row.Row.flip.Goals as goal
use Rattle.bit_rows.proofs.row.Row.flip.Goals.{After-flip_words}

pub flip_words-requires : goal.flip_words-requires
flip_words-requires c = let e : length c.self.inside.words.items ≡ (c.self.inside.bits + 63) / 64 = c.self.invariant.len in rw c.as_mut_slice.ensures.value (omega arith)

same_len : (c : After-flip_words) → length c.flip_words.new.words ≡ length c.self.inside.words.items
same_len c = rw c.as_mut_slice.ensures.value at c.flip_words.ensures.len

done : (c : After-flip_words) → Holds c.self.inside.bits (take (length c.self.inside.words.items) (c.flip_words.new.words ++ drop (length c.flip_words.new.words) c.self.inside.words.items)) (not_bits c.args.self.now)
done c =
    rw (rewritten_whole (length c.self.inside.words.items) c.self.inside.words.items c.flip_words.new.words refl (same_len c), ← c.self.view_is)
    (flip_holds c.self.inside.bits c.self.inside.words.items c.flip_words.new.words c.self.invariant (same_len c) (rw c.as_mut_slice.ensures.value at c.flip_words.ensures.flipped))

pub invariant_of-self : goal.invariant_of-self
invariant_of-self c = (done (goal.at.invariant_of-self c).After-flip_words).fits

pub returns-clause-flipped : goal.returns-clause-flipped
returns-clause-flipped c = (done (goal.at.returns-clause-flipped c).After-flip_words).view

pub returns-clause-len : goal.returns-clause-len
returns-clause-len c = as_long c.self.inside.bits c.self.inside.words.items _ c.args.self.now c.self.view_is
