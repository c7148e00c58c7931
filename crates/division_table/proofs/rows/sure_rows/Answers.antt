use Rattle.division_table.proofs.rows.sure_rows.Goals as goal

pub late-requires-clause-busy : goal.late-requires-clause-busy
late-requires-clause-busy c = c.in_ok-busy.ensures

-- the placement is the lazy one, with a bit for each expression
pub ranges-requires-clause-insert : goal.ranges-requires-clause-insert
ranges-requires-clause-insert c = c.requires.division.placed.insert_rows

pub ranges-requires-clause-replace : goal.ranges-requires-clause-replace
ranges-requires-clause-replace c = c.requires.division.placed.replace_rows

pub ranges-requires-clause-lazy : goal.ranges-requires-clause-lazy
ranges-requires-clause-lazy c = c.requires.division.placed.lazy

pub returns : goal.returns
returns c = record { busy_are = c.in_ok-busy.ensures; late_are = c.in_ok-late.ensures; held_are = c.in_ok-held.ensures.held }
