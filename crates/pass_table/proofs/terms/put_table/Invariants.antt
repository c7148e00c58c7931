use Rattle.std.proofs.Common.{◌≡◌, ◌++◌}
use Rattle.pass_table.specs.Terms.{terms_below}
use Rattle.pass_table.proofs.terms.put_table.Given as goal

abbrev pub invariant-loop-number : goal.invariant-loop-number
invariant-loop-number l = l.text.items ≡ l.fn.text.items ++ terms_below l.vars l.table l.number
