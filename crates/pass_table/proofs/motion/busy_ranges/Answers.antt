use Rattle.pass_table.proofs.motion.busy_ranges.Goals as goal

-- the placement is that of the rows, which are put back as they were
pub returns : goal.returns
returns c = record { busy_are = c.requires.busy; held_are = c.in_ok-held.ensures.held }

pub held_edges-requires-clause-insert : goal.held_edges-requires-clause-insert
held_edges-requires-clause-insert c = c.requires.busy.earliest.shape

pub held_edges-requires-clause-replace : goal.held_edges-requires-clause-replace
held_edges-requires-clause-replace c = c.requires.busy.uses.shape

pub held_edges-requires-clause-admissible : goal.held_edges-requires-clause-admissible
held_edges-requires-clause-admissible c = c.busy_admits.ensures.admissible
