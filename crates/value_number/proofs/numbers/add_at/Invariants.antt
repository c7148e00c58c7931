use Rattle.std.proofs.Common.{ℕ, ◌+◌, ◌-◌, List, Option, length}
use Rattle.value_number.specs.Candidates.{CoverAll}
use Rattle.value_number.proofs.numbers.add_at.Given as goal

abbrev pub invariant-loop-alloc : goal.invariant-loop-alloc
invariant-loop-alloc l = (numbers : List (Option ℕ)) → CoverAll numbers l.initial.table.items → CoverAll numbers l.table.items

abbrev pub decreases-loop-alloc : goal.decreases-loop-alloc
decreases-loop-alloc l = l.number + 1 - length l.table.items
