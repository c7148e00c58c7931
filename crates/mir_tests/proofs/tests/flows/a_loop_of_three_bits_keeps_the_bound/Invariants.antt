use Rattle.mir_tests.proofs.tests.flows.a_loop_of_three_bits_keeps_the_bound.Given as goal

abbrev pub ghosts-looped : goal.ghosts-looped
ghosts-looped g a = record { name = a.blank.name; parts = a.blank.parts }
