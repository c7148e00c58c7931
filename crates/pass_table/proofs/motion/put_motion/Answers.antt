use Rattle.std.proofs.Common.{ℕ, List, ◌++◌, ◌∙◌, ap, length, refl, subst, sym}
use Rattle.motion_rewrite.specs.declared.placement.Placement.{Placement}
use Rattle.expression_table.specs.Expressions.{expressions_below}
use Rattle.pass_table.specs.Motion.{HaveMotionBit, lines_of_expressions, motion_lines}
use Rattle.pass_table.specs.MotionLines.{rows_of_lines}
use Rattle.pass_table.proofs.BitLaws.{own_count}
use Rattle.pass_table.proofs.MotionBits.{motion_bits}
use Rattle.pass_table.proofs.motion.put_motion.Goals as goal

-- the rows of the lines are those of the text, and the placement of the lines is that of the unit
pub returns : goal.returns
returns c =
    let unit = c.args.unit.now in
    let rows = rows_of_lines c.in_ok-lines.lines in
    let below = λ (p : Placement). expressions_below unit.split.vars unit.moved.vars unit.placement.insert unit.table (motion_lines p rows) (length unit.table) in
    let put = c.in_ok-put_expressions.ensures ∙ ap (λ (p : Placement). c.args.text.now.items ++ below p) c.in_ok-lines.ensures.placement_is in
    (lines_of_expressions unit rows, record { rows = rows; are = c.in_ok-lines.ensures.rows_are; text_is = refl }, put)

-- the placement has a row for each node and a bit for each expression
pub put_expressions-requires-clause-insert : goal.put_expressions-requires-clause-insert
put_expressions-requires-clause-insert c = own_count _ _ c.args.unit.now.placement.insert c.requires.placed.insert_rows

pub put_expressions-requires-clause-rows : goal.put_expressions-requires-clause-rows
put_expressions-requires-clause-rows c =
    let rows = rows_of_lines c.in_ok-lines.lines in
    let are = c.in_ok-lines.ensures in
    λ i low. subst (λ (p : Placement). HaveMotionBit p rows i) (sym are.placement_is) (motion_bits c.args.unit.now rows i c.requires are.rows_are low)
