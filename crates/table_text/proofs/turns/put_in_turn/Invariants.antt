use Rattle.table_text.specs.Turns.{AppendsSome, InTurn}
use Rattle.table_text.proofs.turns.put_in_turn.Given as goal

abbrev pub invariant-loop-number : goal.invariant-loop-number
invariant-loop-number g l = AppendsSome (InTurn (g.P.Pieces.is_piece l.pieces) l.number) l.fn.text l.text
