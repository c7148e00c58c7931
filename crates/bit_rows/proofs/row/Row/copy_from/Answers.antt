use Rattle.std.proofs.Common.{◌≡◌, ◌++◌, length, take, drop, refl}
use Rattle.bit_rows.proofs.Views.{Holds}
use Rattle.bit_rows.proofs.Ops.{as_long, copied, words_long}
use Rattle.bit_rows.proofs.row.Row.copy_from.Goals as goal
use Rattle.bit_rows.proofs.row.Row.copy_from.Goals.{After-copy_from_slice, After-other}

as_many : (c : After-other) → length c.self.inside.words.items ≡ length c.other.inside.words.now
as_many c =
    words_long c.self.inside.bits c.self.inside.words.items c.args.self.now c.self.invariant c.self.view_is
    c.other.inside.bits c.other.inside.words.now c.args.other.now c.other.invariant c.other.view_is c.requires

pub copy_from_slice-requires : goal.copy_from_slice-requires
copy_from_slice-requires c = rw c.as_mut_slice.ensures.value (as_many (goal.at.copy_from_slice-requires c).After-other)

done : (c : After-copy_from_slice) → Holds c.self.inside.bits (take (length c.self.inside.words.items) (c.copy_from_slice.new.self ++ drop (length c.copy_from_slice.new.self) c.self.inside.words.items)) c.args.other.now
done c =
    copied c.self.inside.bits (length c.self.inside.words.items) c.self.inside.words.items c.copy_from_slice.new.self c.args.self.now c.self.invariant c.self.view_is refl (rw c.as_mut_slice.ensures.value at c.copy_from_slice.ensures.len)
    c.other.inside.bits c.other.inside.words.now c.args.other.now c.other.invariant c.other.view_is c.requires c.copy_from_slice.ensures.after

pub invariant_of-self : goal.invariant_of-self
invariant_of-self c = (done (goal.at.invariant_of-self c).After-copy_from_slice).fits

pub returns-clause-copy : goal.returns-clause-copy
returns-clause-copy c = (done (goal.at.returns-clause-copy c).After-copy_from_slice).view

pub returns-clause-len : goal.returns-clause-len
returns-clause-len c = as_long c.self.inside.bits c.self.inside.words.items _ c.args.self.now c.self.view_is
