use Rattle.mir_sim.proofs.Sums.{sums_same, sums_cheaper}
use Rattle.mir_sim.proofs.tests.a_sum_is_worked_out.Goals as goal

pub lift-requires : goal.lift-requires
lift-requires c = record { units = sums_same c.args.first.now c.args.second.now c.requires.sum c.requires.worked_out c.requires.shared }

pub returns-clause-cheaper : goal.returns-clause-cheaper
returns-clause-cheaper c = c.lift.ensures.cheaper (sums_cheaper c.args.first.now c.args.second.now c.requires.sum c.requires.worked_out c.requires.shared)
