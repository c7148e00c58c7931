use Rattle.std.proofs.Common.{◌++◌, length, take, drop, set}
use Rattle.bit_rows.specs.Bits.{zip_with, row_of}
use Rattle.bit_rows.specs.Joinings.{bit_join}
use Rattle.bit_rows.proofs.Flat.{HoldRows, as_many_words, joined_row, row_within}
use Rattle.bit_rows.proofs.Views.{joining_bitwise}
use Rattle.bit_rows.proofs.rows.Rows.join_from.Goals as goal
use Rattle.bit_rows.proofs.rows.Rows.join_from.Goals.{After-join_row}

pub join_row-requires-clause-within : goal.join_row-requires-clause-within
join_row-requires-clause-within c = rw c.deref_mut.ensures.value (row_within c.self.inside.rows c.self.inside.bits c.self.inside.stride c.self.inside.words.items c.args.self.now c.self.invariant c.self.view_is c.args.row c.requires.row)

pub join_row-requires-clause-from : goal.join_row-requires-clause-from
join_row-requires-clause-from c = as_many_words c.self.inside.rows c.self.inside.bits c.self.inside.stride c.self.inside.words.items c.args.self.now c.self.invariant c.self.view_is c.args.row c.requires.row c.from.inside.bits c.from.inside.words.now c.args.from.now c.from.invariant c.from.view_is c.requires.equally_long

done : (c : After-join_row) → HoldRows c.self.inside.rows c.self.inside.bits c.self.inside.stride (take c.self.inside.words.len (c.join_row.new.into ++ drop (length c.join_row.new.into) c.self.inside.words.items)) (set c.args.self.now c.args.row (zip_with (bit_join c.args.how) (row_of c.args.self.now c.args.row) c.args.from.now))
done c =
    joined_row c.self.inside.rows c.self.inside.bits c.self.inside.stride c.self.inside.words.items c.args.self.now c.self.invariant c.self.view_is c.args.row c.requires.row
    c.self.inside.words.len c.join_row.new.into c.self.inside.words.ok.0 (rw c.deref_mut.ensures.value at c.join_row.ensures.others)
    c.from.inside.bits c.from.inside.words.now c.args.from.now c.from.invariant c.from.view_is c.requires.equally_long _ _ (joining_bitwise c.args.how) (rw c.deref_mut.ensures.value at c.join_row.ensures.each)

pub invariant_of-self : goal.invariant_of-self
invariant_of-self c = (done (goal.at.invariant_of-self c).After-join_row).fit

pub returns : goal.returns
returns c = (done (goal.at.returns c).After-join_row).seen
