use Rattle.std.proofs.Common.{◌≡◌, ◌++◌, length, take, drop, set, sym, ◌∙◌}
use Rattle.bit_rows.specs.Bits.{minus_bits, or_bits, row_of}
use Rattle.bit_rows.specs.Words.{words_at}
use Rattle.bit_rows.proofs.Flat.{HoldRows, as_many_words, or_passed_row, row_fits, row_long, row_view, row_within}
use Rattle.bit_rows.proofs.rows.Rows.or_passed_within.Goals as goal
use Rattle.bit_rows.proofs.rows.Rows.or_passed_within.Goals.{After-or_passed_rows}

pub or_passed_rows-requires-clause-row : goal.or_passed_rows-requires-clause-row
or_passed_rows-requires-clause-row c = rw c.deref_mut.ensures.value (row_within c.self.inside.rows c.self.inside.bits c.self.inside.stride c.self.inside.words.items c.args.self.now c.self.invariant c.self.view_is c.args.row c.requires.row)

pub or_passed_rows-requires-clause-from : goal.or_passed_rows-requires-clause-from
or_passed_rows-requires-clause-from c = rw c.deref_mut.ensures.value (row_within c.self.inside.rows c.self.inside.bits c.self.inside.stride c.self.inside.words.items c.args.self.now c.self.invariant c.self.view_is c.args.from c.requires.from)

pub or_passed_rows-requires-clause-more : goal.or_passed_rows-requires-clause-more
or_passed_rows-requires-clause-more c = as_many_words c.self.inside.rows c.self.inside.bits c.self.inside.stride c.self.inside.words.items c.args.self.now c.self.invariant c.self.view_is c.args.row c.requires.row c.more.inside.bits c.more.inside.words.now c.args.more.now c.more.invariant c.more.view_is c.requires.more

pub or_passed_rows-requires-clause-less : goal.or_passed_rows-requires-clause-less
or_passed_rows-requires-clause-less c = as_many_words c.self.inside.rows c.self.inside.bits c.self.inside.stride c.self.inside.words.items c.args.self.now c.self.invariant c.self.view_is c.args.row c.requires.row c.less.inside.bits c.less.inside.words.now c.args.less.now c.less.invariant c.less.view_is c.requires.less

-- the second row is as long as the first
as_long : (c : After-or_passed_rows) → length (row_of c.args.self.now c.args.row) ≡ length (row_of c.args.self.now c.args.from)
as_long c = row_long c.self.inside.rows c.self.inside.bits c.self.inside.stride c.self.inside.words.items c.args.self.now c.self.invariant c.self.view_is c.args.row c.requires.row ∙ sym (row_long c.self.inside.rows c.self.inside.bits c.self.inside.stride c.self.inside.words.items c.args.self.now c.self.invariant c.self.view_is c.args.from c.requires.from)

done : (c : After-or_passed_rows) → HoldRows c.self.inside.rows c.self.inside.bits c.self.inside.stride (take c.self.inside.words.len (c.or_passed_rows.new.words ++ drop (length c.or_passed_rows.new.words) c.self.inside.words.items)) (set c.args.self.now c.args.row (or_bits (row_of c.args.self.now c.args.row) (minus_bits (or_bits (row_of c.args.self.now c.args.from) c.args.more.now) c.args.less.now)))
done c =
    or_passed_row c.self.inside.rows c.self.inside.bits c.self.inside.stride c.self.inside.words.items c.args.self.now c.self.invariant c.self.view_is c.args.row c.requires.row
    c.self.inside.words.len c.or_passed_rows.new.words c.self.inside.words.ok.0 (rw c.deref_mut.ensures.value at c.or_passed_rows.ensures.others)
    c.self.inside.bits (words_at c.self.inside.stride c.self.inside.words.items c.args.from) (row_of c.args.self.now c.args.from) (row_fits c.self.inside.rows c.self.inside.bits c.self.inside.stride c.self.inside.words.items c.args.self.now c.self.invariant c.self.view_is c.args.from c.requires.from) (row_view c.self.inside.rows c.self.inside.bits c.self.inside.stride c.self.inside.words.items c.args.self.now c.self.invariant c.self.view_is c.args.from c.requires.from) (as_long c)
    c.more.inside.bits c.more.inside.words.now c.args.more.now c.more.invariant c.more.view_is c.requires.more
    c.less.inside.bits c.less.inside.words.now c.args.less.now c.less.invariant c.less.view_is c.requires.less (rw c.deref_mut.ensures.value at c.or_passed_rows.ensures.each)

pub invariant_of-self : goal.invariant_of-self
invariant_of-self c = (done (goal.at.invariant_of-self c).After-or_passed_rows).fit

pub returns : goal.returns
returns c = (done (goal.at.returns c).After-or_passed_rows).seen
