use Rattle.std.proofs.Common.{◌<◌, ◌∙◌, length, subst, sym}
use Rattle.path_laws.specs.Paths.{AreRows}
use Rattle.expression_table.proofs.expressions.put_expressions.Goals as goal

pub inserted_somewhere-requires : goal.inserted_somewhere-requires
inserted_somewhere-requires g c =
    let insert = c.args.moves.now.insert.now in
    subst (λ k. AreRows (length insert) k insert) (sym c.len-exprs.ensures.len) c.requires.insert

-- the row has a bit for each expression
pub get-has_temporary-requires : goal.get-has_temporary-requires
get-has_temporary-requires g c =
    subst (λ k. c.loop-number.number < k) (sym c.in_ok-inserted.ensures.long) c.loop-number-test.true

pub put_expression-requires-clause-number : goal.put_expression-requires-clause-number
put_expression-requires-clause-number g c =
    subst (λ k. c.loop-number.number < k) c.len-exprs.ensures.len c.loop-number-test.true

pub put_expression-requires-clause-rows : goal.put_expression-requires-clause-rows
put_expression-requires-clause-rows g c =
    c.requires.rows c.loop-number.number (subst (λ k. c.loop-number.number < k) c.len-exprs.ensures.len c.loop-number-test.true)

-- which says whether it is inserted
pub put_expression-requires-clause-inserted : goal.put_expression-requires-clause-inserted
put_expression-requires-clause-inserted g c = c.get-has_temporary.ensures ∙ c.in_ok-inserted.ensures.inserted c.loop-number.number
