use Rattle.std.proofs.Common.{◌≡◌, ◌++◌}
use Rattle.expression_table.specs.Expressions.{expression_temporary, expressions_of}
use Rattle.expression_table.proofs.expressions.put_expressions.Given as goal

abbrev pub invariant-loop-number : goal.invariant-loop-number
invariant-loop-number g l =
    (l.text.items ≡ l.fn.text.items ++ expressions_of l.moves (g.R.ExpressionRows.lines l.rows) l.number)
    × (l.temporary ≡ expression_temporary l.moves l.number)
