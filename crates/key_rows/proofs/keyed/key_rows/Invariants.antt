use Rattle.key_rows.specs.KeyRowLaws.{AreKeyed}
use Rattle.key_rows.proofs.keyed.key_rows.Given as goal

abbrev pub invariant-loop-n : goal.invariant-loop-n
invariant-loop-n g l = AreKeyed (g.O.KeyOf.key_of l.of) l.table l.nodes l.n l.rows
