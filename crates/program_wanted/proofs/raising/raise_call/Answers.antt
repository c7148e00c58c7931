use Rattle.program_wanted.proofs.raising.raise_call.Goals as goal

pub raise_row-requires-clause-there : goal.raise_row-requires-clause-there
raise_row-requires-clause-there c = (c.requires c.in-Call.field-0 c.in-Call.unit c.in-Call.field-2 c.in-Call.field-3 c.in-Some.widths c.in-Call.is c.in-Some.is).0
