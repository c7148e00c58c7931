use Rattle.std.proofs.Common.{drop}
use Rattle.program_pass.proofs.Marking.{AreSet}
use Rattle.program_pass.proofs.marks.marks_of.Given as goal

abbrev pub invariant-loop-number : goal.invariant-loop-number
invariant-loop-number l = AreSet l.numbers (drop l.number-index l.numbers) l.count l.marks.items
