use Rattle.std.proofs.Common.{◌≡◌, drop, length}
use Rattle.value_number.specs.TermWalks.{listed_after, steps_after}
use Rattle.value_number.proofs.walk.list.Given as goal

abbrev pub invariant-loop-succ : goal.invariant-loop-succ
invariant-loop-succ l = (length l.listed.items ≡ length l.initial.listed.items) × (listed_after (drop l.succ-index l.succs) l.listed.items ≡ listed_after l.succs l.initial.listed.items)
    × (steps_after l.root (drop l.succ-index l.succs) l.listed.items l.steps.items ≡ steps_after l.root l.succs l.initial.listed.items l.initial.steps.items)
