use Rattle.mir_tests.proofs.tests.flows.each_edge_is_pushed_along_once.Given as goal

abbrev pub ghosts-pushes_of : goal.ghosts-pushes_of
ghosts-pushes_of g a = record { name = a.blank.name; parts = a.blank.parts }
