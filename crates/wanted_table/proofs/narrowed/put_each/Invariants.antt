use Rattle.table_text.specs.Turns.{AppendsSome, InTurn}
use Rattle.wanted_table.specs.Narrowings.{IsNarrowedAt}
use Rattle.wanted_table.proofs.narrowed.put_each.Given as goal

abbrev pub invariant-loop-number : goal.invariant-loop-number
invariant-loop-number l = AppendsSome (InTurn (IsNarrowedAt l.program.units) l.number) l.fn.text l.text
