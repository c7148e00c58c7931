use Rattle.program_wanted.specs.Serving.{IsServing}
use Rattle.program_wanted.specs.Tables.{demands_of}
use Rattle.program_wanted.proofs.demands.sweep_often.Given as goal

abbrev pub invariant-loop-count : goal.invariant-loop-count
invariant-loop-count l = IsServing l.graphs.items (demands_of l.tables) l.stale.items l.asks.items
