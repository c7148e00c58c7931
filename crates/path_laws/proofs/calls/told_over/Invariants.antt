use Rattle.path_laws.proofs.calls.told_over.Given as goal

abbrev pub ghosts-told_from : goal.ghosts-told_from
ghosts-told_from a = record { name = a.blank.name; parts = a.blank.parts }
