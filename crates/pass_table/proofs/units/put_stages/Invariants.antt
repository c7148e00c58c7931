use Rattle.table_text.specs.Lines.{names_of_units}
use Rattle.table_text.specs.Turns.{AppendsSome, InTurn}
use Rattle.pass_table.specs.Units.{IsStageAt}
use Rattle.pass_table.proofs.units.put_stages.Given as goal

abbrev pub invariant-loop-number : goal.invariant-loop-number
invariant-loop-number l =
    AppendsSome (InTurn (IsStageAt (names_of_units l.units) l.unit l.stages) l.number) l.fn.text l.text
