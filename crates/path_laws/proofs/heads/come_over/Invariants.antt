use Rattle.path_laws.proofs.heads.come_over.Given as goal

abbrev pub ghosts-come_along : goal.ghosts-come_along
ghosts-come_along a = record { name = a.blank.name; parts = a.blank.parts }
