use Rattle.div_move.proofs.solving.must_come_rows.Given as goal

abbrev pub ghosts-rows_from : goal.ghosts-rows_from
ghosts-rows_from a = record { name = a.blank.name; parts = a.blank.parts }
