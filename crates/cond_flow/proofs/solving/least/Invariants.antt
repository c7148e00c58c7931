use Rattle.cond_flow.proofs.solving.least.Given as goal

abbrev pub ghosts-least_from : goal.ghosts-least_from
ghosts-least_from g a = record { name = a.blank.name; parts = a.blank.parts }
