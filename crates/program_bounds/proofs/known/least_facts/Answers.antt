use Rattle.program_bounds.proofs.known.least_facts.Goals as goal

pub served-requires : goal.served-requires
served-requires c = record { fit = c.requires; are_callers = c.in_ok-callers.ensures; progress = c.in_ok-tables.ensures.progress; fresh = c.in_ok-tables.ensures.fresh }
