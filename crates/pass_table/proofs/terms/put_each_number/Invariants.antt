use Rattle.std.proofs.Common.{◌≡◌, ◌++◌, flat_map, take}
use Rattle.pass_table.specs.Terms.{number_field}
use Rattle.pass_table.proofs.terms.put_each_number.Given as goal

abbrev pub invariant-loop-number : goal.invariant-loop-number
invariant-loop-number l = l.text.items ≡ l.fn.text.items ++ flat_map number_field (take l.number-index l.numbers)
