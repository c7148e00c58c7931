use Rattle.pass_table.proofs.motion.lazy_held.Goals as goal

-- the placement is the lazy one, with a bit for each expression
pub ranges-requires-clause-insert : goal.ranges-requires-clause-insert
ranges-requires-clause-insert c = c.requires.motion.placed.insert_rows

pub ranges-requires-clause-replace : goal.ranges-requires-clause-replace
ranges-requires-clause-replace c = c.requires.motion.placed.replace_rows

pub ranges-requires-clause-lazy : goal.ranges-requires-clause-lazy
ranges-requires-clause-lazy c = c.requires.motion.placed.lazy
