use Rattle.std.proofs.Common.{subst}
use Rattle.program_bounds.specs.Sweeps.{Sweeps}
use Rattle.program_bounds.specs.Tables.{facts_of}
use Rattle.program_bounds.proofs.SweepLaws.{least_at_rest}
use Rattle.program_bounds.proofs.known.served.Goals as goal

pub sweep-requires : goal.sweep-requires
sweep-requires c = record { fit = c.requires.fit; are_callers = c.requires.are_callers; progress = c.loop-tables.invariant.progress; fresh = c.loop-tables.invariant.fresh }

pub returns-then-not-raised-clause-least : goal.returns-then-not-raised-clause-least
returns-then-not-raised-clause-least c =
    let graphs = c.args.graphs.now.items in
    let old = facts_of c.loop-tables.tables in
    let after = facts_of c.sweep.new.tables in
    least_at_rest graphs old after (subst (Sweeps graphs old after) c.if-not-raised.true c.in_ok-raised.ensures.swept)
