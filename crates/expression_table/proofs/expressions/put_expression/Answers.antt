use Rattle.std.proofs.Common.{◌≡◌, ℕ, ◌+◌, Bool, if◌then◌else◌, Option, ◌++◌, ◌∙◌, ap, sym, add_assoc, add-one, length}
use Rattle.mir_base.specs.declared.instructions.Expr.{Expr}
use Rattle.motion_rewrite.specs.Temporaries.{has_insertion, temporaries_before}
use Rattle.table_text.specs.TurnLaws.{two_pieces}
use Rattle.expression_table.specs.declared.expressions.MovedExpressions.{MovedExpressions}
use Rattle.expression_table.specs.Expressions.{expression_lines, expression_temporary, head_line}
use Rattle.expression_table.proofs.expressions.put_expression.Goals as goal

-- the temporary of the next expression has the next number where this one is inserted
next_is : (moves : MovedExpressions) (i : ℕ) → expression_temporary moves (i + 1) ≡ expression_temporary moves i + (if has_insertion moves.insert.now i then 1 else 0)
next_is moves i =
    ap (expression_temporary moves) (add-one i) ∙ sym (add_assoc (length moves.split.now.vars) (temporaries_before moves.insert.now i) (if has_insertion moves.insert.now i then 1 else 0))

-- the rows stand behind the head, and the table has the expression
pub returns-clause-text : goal.returns-clause-text
returns-clause-text g c =
    let moves = c.args.moves.now in
    let n = c.args.number in
    let vars = moves.split.now.vars in
    let names = moves.moved.now.vars in
    let insert = moves.insert.now in
    let lines = g.R.ExpressionRows.lines c.args.rows.now in
    let start = c.args.text.now.items in
    let expr = c.get-expr.result.now in
    two_pieces c.args.text.now c.put_head.new.text c.put.new.text (head_line vars names c.args.inserted c.args.temporary n expr) (lines n) c.in_ok-put_head.ensures c.in_ok-put.ensures
    ∙ ap (λ (b : Bool). start ++ (head_line vars names b c.args.temporary n expr ++ lines n)) c.requires.inserted
    ∙ ap (λ (t : ℕ). start ++ (head_line vars names (has_insertion insert n) t n expr ++ lines n)) c.requires.temporary
    ∙ ap (λ (o : Option Expr). start ++ expression_lines vars names insert lines n o) (sym c.get-expr.ensures)

pub returns-clause-next : goal.returns-clause-next
returns-clause-next g c =
    c.in_ok-next.ensures ∙ ap (λ (b : Bool). c.args.temporary + (if b then 1 else 0)) c.requires.inserted
    ∙ ap (λ (t : ℕ). t + (if has_insertion c.args.moves.now.insert.now c.args.number then 1 else 0)) c.requires.temporary
    ∙ sym (next_is c.args.moves.now c.args.number)
