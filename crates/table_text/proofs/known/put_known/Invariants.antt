use Rattle.table_text.specs.Known.{IsStateAmong}
use Rattle.table_text.specs.Turns.{AppendsSome, InTurn}
use Rattle.table_text.proofs.known.put_known.Given as goal

abbrev pub invariant-loop-node : goal.invariant-loop-node
invariant-loop-node g l = AppendsSome (InTurn (IsStateAmong g.T.KnownText.text_of l.known) l.node) l.fn.text l.text
