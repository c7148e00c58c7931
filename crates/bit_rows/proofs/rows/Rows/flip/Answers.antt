use Rattle.std.proofs.Common.{◌≡◌, ◌+◌, ◌/◌, ◌++◌, length, take, drop, set, arith}
use Rattle.bit_rows.specs.Bits.{not_bits, row_of}
use Rattle.bit_rows.proofs.Flat.{HoldRows, flipped_row, row_within, stride_is}
use Rattle.bit_rows.proofs.rows.Rows.flip.Goals as goal
use Rattle.bit_rows.proofs.rows.Rows.flip.Goals.{After-flip_row}

pub flip_row-requires-clause-within : goal.flip_row-requires-clause-within
flip_row-requires-clause-within c = rw c.deref_mut.ensures.value (row_within c.self.inside.rows c.self.inside.bits c.self.inside.stride c.self.inside.words.items c.args.self.now c.self.invariant c.self.view_is c.args.row c.requires)

pub flip_row-requires-clause-bits : goal.flip_row-requires-clause-bits
flip_row-requires-clause-bits c = let e : c.self.inside.stride ≡ (c.self.inside.bits + 63) / 64 = stride_is c.self.inside.rows c.self.inside.bits c.self.inside.stride c.self.inside.words.items c.args.self.now c.self.invariant c.self.view_is c.args.row c.requires in omega arith

done : (c : After-flip_row) → HoldRows c.self.inside.rows c.self.inside.bits c.self.inside.stride (take c.self.inside.words.len (c.flip_row.new.into ++ drop (length c.flip_row.new.into) c.self.inside.words.items)) (set c.args.self.now c.args.row (not_bits (row_of c.args.self.now c.args.row)))
done c =
    flipped_row c.self.inside.rows c.self.inside.bits c.self.inside.stride c.self.inside.words.items c.args.self.now c.self.invariant c.self.view_is c.args.row c.requires
    c.self.inside.words.len c.flip_row.new.into c.self.inside.words.ok.0 (rw c.deref_mut.ensures.value at c.flip_row.ensures.others) (rw c.deref_mut.ensures.value at c.flip_row.ensures.flipped)

pub invariant_of-self : goal.invariant_of-self
invariant_of-self c = (done (goal.at.invariant_of-self c).After-flip_row).fit

pub returns : goal.returns
returns c = (done (goal.at.returns c).After-flip_row).seen
