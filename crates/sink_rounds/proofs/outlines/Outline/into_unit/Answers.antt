use Rattle.sink_rounds.proofs.outlines.Outline.into_unit.Goals as goal

pub returns-in-Some : goal.returns-in-Some
returns-in-Some c = c.requires.laid c.in-Some.unit c.in-Some.is
