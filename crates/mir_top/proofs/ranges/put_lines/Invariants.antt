use Rattle.std.proofs.Common.{◌≡◌, ◌++◌}
use Rattle.mir_top.specs.RangeTexts.{lines_below, temporary_at}
use Rattle.mir_top.proofs.ranges.put_lines.Given as goal

abbrev pub invariant-loop-number : goal.invariant-loop-number
invariant-loop-number l =
    (l.text.items ≡ l.fn.text.items ++ lines_below l.unit l.held.edges l.number)
    × (l.temporary ≡ temporary_at l.unit l.number)
