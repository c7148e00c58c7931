use Rattle.program_wanted.specs.Tables.{demands_of}
use Rattle.table_text.specs.Turns.{AppendsSome, InTurn}
use Rattle.wanted_table.specs.Demanding.{IsDemandedAt}
use Rattle.wanted_table.proofs.demanded.put_units.Given as goal

abbrev pub invariant-loop-number : goal.invariant-loop-number
invariant-loop-number l = AppendsSome (InTurn (IsDemandedAt (demands_of l.tables) l.program.units) l.number) l.fn.text l.text
