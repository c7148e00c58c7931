use Rattle.std.proofs.Common.{◌-◌, length}
use Rattle.bit_rows.proofs.Marking.{MarkedSoFar}
use Rattle.bit_rows.proofs.marked.or_minus_marked_words.Given as goal

abbrev pub invariant-loop-word : goal.invariant-loop-word
invariant-loop-word l = MarkedSoFar l.from l.less l.initial.into l.initial.into_marks l.into l.into_marks l.at l.changed

abbrev pub decreases-loop-word : goal.decreases-loop-word
decreases-loop-word l = length l.marks - l.at
