use Rattle.pass_table.proofs.motion.place_rows.Goals as goal

pub returns : goal.returns
returns c = record { busy_are = c.in_ok-ranges.ensures.busy_are; late_are = c.in_ok-late.ensures; busy_held_are = c.in_ok-ranges.ensures.held_are }

pub late-requires-clause-busy : goal.late-requires-clause-busy
late-requires-clause-busy c = c.in_ok-busy.ensures
