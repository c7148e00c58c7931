use Rattle.program_bounds.specs.Tables.{facts_of}
use Rattle.program_bounds.proofs.SweepLaws.{sweeps_both}
use Rattle.program_bounds.proofs.known.sweep.Goals as goal

pub sweep_up-requires : goal.sweep_up-requires
sweep_up-requires c = record { fit = c.requires.fit; are_callers = c.requires.are_callers; progress = c.in_ok-down.ensures.swept.progress; fresh = c.in_ok-down.ensures.fresh }

pub returns-clause-swept : goal.returns-clause-swept
returns-clause-swept c = sweeps_both c.args.graphs.now.items (facts_of c.args.tables.now) (facts_of c.sweep_down.new.tables) (facts_of c.sweep_up.new.tables) c.in_ok-down.down c.in_ok-up.up c.in_ok-down.ensures.swept c.in_ok-up.ensures.swept
