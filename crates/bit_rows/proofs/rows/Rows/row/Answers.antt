use Rattle.bit_rows.proofs.Flat.{row_fits, row_view, row_within}
use Rattle.bit_rows.proofs.rows.Rows.row.Goals as goal

pub row_words-requires : goal.row_words-requires
row_words-requires c = rw c.deref.ensures.value (row_within c.self.inside.rows c.self.inside.bits c.self.inside.stride c.self.inside.words.items c.args.self.now c.self.invariant c.self.view_is c.args.row c.requires)

pub invariant_of-result : goal.invariant_of-result
invariant_of-result c = rw (c.row_words.ensures, c.deref.ensures.value) (row_fits c.self.inside.rows c.self.inside.bits c.self.inside.stride c.self.inside.words.items c.args.self.now c.self.invariant c.self.view_is c.args.row c.requires)

pub returns : goal.returns
returns c = rw (c.row_words.ensures, c.deref.ensures.value) (row_view c.self.inside.rows c.self.inside.bits c.self.inside.stride c.self.inside.words.items c.args.self.now c.self.invariant c.self.view_is c.args.row c.requires)
