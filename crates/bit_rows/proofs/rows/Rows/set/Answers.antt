use Rattle.std.proofs.Common.{◌≡◌, ◌<◌, ◌+◌, ◌/◌, ◌++◌, length, take, drop, set, arith}
use Rattle.bit_rows.specs.Bits.{row_of}
use Rattle.bit_rows.proofs.Flat.{HoldRows, row_long, row_within, stride_is, written_row}
use Rattle.bit_rows.proofs.rows.Rows.set.Goals as goal
use Rattle.bit_rows.proofs.rows.Rows.set.Goals.{After-set_row_bit}

pub set_row_bit-requires-clause-within : goal.set_row_bit-requires-clause-within
set_row_bit-requires-clause-within c = rw c.deref_mut.ensures.value (row_within c.self.inside.rows c.self.inside.bits c.self.inside.stride c.self.inside.words.items c.args.self.now c.self.invariant c.self.view_is c.args.row c.requires.row)

pub set_row_bit-requires-clause-bit : goal.set_row_bit-requires-clause-bit
set_row_bit-requires-clause-bit c =
    let e : c.self.inside.stride ≡ (c.self.inside.bits + 63) / 64 = stride_is c.self.inside.rows c.self.inside.bits c.self.inside.stride c.self.inside.words.items c.args.self.now c.self.invariant c.self.view_is c.args.row c.requires.row in
    let bits : length (row_of c.args.self.now c.args.row) ≡ c.self.inside.bits = row_long c.self.inside.rows c.self.inside.bits c.self.inside.stride c.self.inside.words.items c.args.self.now c.self.invariant c.self.view_is c.args.row c.requires.row in
    let low : c.args.bit < length (row_of c.args.self.now c.args.row) = c.requires.bit in
    omega arith

done : (c : After-set_row_bit) → HoldRows c.self.inside.rows c.self.inside.bits c.self.inside.stride (take c.self.inside.words.len (c.set_row_bit.new.into ++ drop (length c.set_row_bit.new.into) c.self.inside.words.items)) (set c.args.self.now c.args.row (set (row_of c.args.self.now c.args.row) c.args.bit c.args.value))
done c =
    written_row c.self.inside.rows c.self.inside.bits c.self.inside.stride c.self.inside.words.items c.args.self.now c.self.invariant c.self.view_is c.args.row c.requires.row
    c.self.inside.words.len c.set_row_bit.new.into c.self.inside.words.ok.0 (rw c.deref_mut.ensures.value at c.set_row_bit.ensures.others)
    c.args.bit c.args.value c.requires.bit (rw c.deref_mut.ensures.value at c.set_row_bit.ensures.set)

pub invariant_of-self : goal.invariant_of-self
invariant_of-self c = (done (goal.at.invariant_of-self c).After-set_row_bit).fit

pub returns : goal.returns
returns c = (done (goal.at.returns c).After-set_row_bit).seen
