use Rattle.std.proofs.Common.{◌≡◌, ◌++◌}
use Rattle.pass_table.specs.Rounds.{became_skip, flags_below}
use Rattle.pass_table.proofs.rounds.put_new_skips.Given as goal

abbrev pub invariant-loop-number : goal.invariant-loop-number
invariant-loop-number l = l.text.items ≡ l.fn.text.items ++ flags_below (became_skip l.before l.after) l.number
