use Rattle.latest_place.proofs.equations.latest_rows.Goals as goal

pub returns-clause-bits : goal.returns-clause-bits
returns-clause-bits c = λ n b h l. c.in_ok-rows.ensures.last n b h
