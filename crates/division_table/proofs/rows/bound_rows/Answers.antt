use Rattle.division_table.proofs.rows.bound_rows.Goals as goal

pub returns : goal.returns
returns c = record { kills_are = c.in_ok-kills.ensures; anticipatable_are = c.in_ok-anticipatable.ensures }
