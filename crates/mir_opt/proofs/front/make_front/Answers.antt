use Rattle.mir_opt.proofs.front.make_front.Goals as goal

pub returns : goal.returns
returns c = record { start = c.in_ok-start.ensures; values = c.in_ok-values.ensures }
