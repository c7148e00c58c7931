use Rattle.program_wanted.specs.Tables.{demands_of}
use Rattle.program_wanted.proofs.UnitServes.{sweeps_both}
use Rattle.program_wanted.proofs.demands.sweep.Goals as goal

pub returns-clause-swept : goal.returns-clause-swept
returns-clause-swept c = sweeps_both c.args.graphs.now.items (demands_of c.args.tables.now) (demands_of c.sweep_down.new.tables) (demands_of c.sweep_up.new.tables) c.in_ok-down.down c.in_ok-up.up c.in_ok-down.ensures.swept c.in_ok-up.ensures.swept
