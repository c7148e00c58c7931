use Rattle.table_text.proofs.ColumnLaws.{column_long, column_part, column_within}
use Rattle.table_text.proofs.columns.Columns.column.Goals as goal

pub column_words-requires : goal.column_words-requires
column_words-requires c = rw c.deref.ensures.value (column_within c.self.inside.rows c.self.inside.bits c.self.inside.words.items c.args.self.now c.self.invariant c.self.view_is c.args.bit c.requires)

pub returns-clause-len : goal.returns-clause-len
returns-clause-len c = rw (c.column_words.ensures, c.deref.ensures.value) (column_long c.self.inside.rows c.self.inside.bits c.self.inside.words.items c.args.self.now c.self.invariant c.self.view_is c.args.bit c.requires)

pub returns-clause-bits : goal.returns-clause-bits
returns-clause-bits c = rw (c.column_words.ensures, c.deref.ensures.value) (λ n h. column_part c.self.inside.rows c.self.inside.bits c.self.inside.words.items c.args.self.now c.self.invariant c.self.view_is c.args.bit c.requires n h)
