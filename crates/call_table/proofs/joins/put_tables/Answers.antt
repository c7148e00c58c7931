use Rattle.std.proofs.Common.{◌++◌, ◌∙◌, List, ap, codes, length}
use Rattle.flow_graph.specs.declared.nodes.Node.{Node}
use Rattle.table_text.specs.Lines.{names_of_units}
use Rattle.table_text.specs.Steps.{back_text, front_text, pass_line}
use Rattle.table_text.specs.TurnLaws.{two_pieces}
use Rattle.call_table.specs.Joins.{calls_below, laid_line}
use Rattle.call_table.proofs.joins.put_tables.Goals as goal

-- the pieces stand one behind the other
pub returns : goal.returns
returns c =
    let names = names_of_units c.args.units.now in
    let leaves = c.args.leaves.now.units in
    let made = c.args.made.now in
    let steps = made.steps in
    let nodes = steps.cleaned.nodes in
    let start = c.args.text.now in
    let front = front_text names steps.lowered steps.cleaned in
    let line = pass_line (codes "join") in
    let calls = calls_below names leaves nodes (length nodes) in
    let back = back_text names (codes "join") steps.passed steps.swept in
    let told = c.in_ok-put_calls.ensures
    ∙ ap (λ (l : List Node). c.put_pass.new.text.items ++ calls_below names leaves l (length l)) c.nodes.ensures.value in
    let two = two_pieces start c.put_front.new.text c.put_pass.new.text front line c.in_ok-put_front.ensures c.in_ok-put_pass.ensures in
    let three = two_pieces start c.put_pass.new.text c.put_calls.new.text (front ++ line) calls two told in
    let four = two_pieces start c.put_calls.new.text c.put_back.new.text (front ++ line ++ calls) back three c.in_ok-put_back.ensures in
    two_pieces start c.put_back.new.text c.put_laid.new.text (front ++ line ++ calls ++ back) (laid_line made.insts) four c.in_ok-put_laid.ensures
