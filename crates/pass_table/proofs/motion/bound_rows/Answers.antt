use Rattle.pass_table.proofs.motion.bound_rows.Goals as goal

pub returns : goal.returns
returns c = record { kills_are = c.in_ok-kills.ensures; held_are = c.in_ok-held.ensures }
