use Rattle.std.proofs.Common.{◌≡◌, List, Bool, [], length, set, sym, ◌∙◌}
use Rattle.std.proofs.lemmas.List.{get_or_default}
use Rattle.bit_rows.specs.Bits.{minus_bits, or_bits, row_of}
use Rattle.path_laws.specs.Paths.{has_bit}
use Rattle.path_laws.specs.Problem.{bars_in, is_barred}
use Rattle.path_laws.specs.SeedsLaws.{bar_rows}
use Rattle.path_laws.proofs.Growing.{brought_against, brought_along, joined_minus, joined_or}
use Rattle.path_laws.proofs.filling.take_in.Goals as goal
use Rattle.path_laws.proofs.filling.take_in.Goals.{After-row-value}

from_is : (c : After-row-value) → c.row-value.result ≡ row_of c.args.work.now c.args.edge.now.source
from_is c = let work : List (List Bool) = c.args.work.now in c.row-value.ensures ∙ c.value.ensures ∙ get_or_default c.args.work.now c.args.edge.now.source c.value.result.now [] (rw c.requires.shape.len c.requires.source)

as_long : (c : After-row-value) → length (row_of c.args.rows.now c.first_of-node.result) ≡ length (row_of c.args.work.now c.args.edge.now.source)
as_long c = c.requires.rows.each c.first_of-node.result c.first_of-node.ensures.node ∙ sym (c.requires.shape.each c.args.edge.now.source c.requires.source)

pub returns-then-problem : goal.returns-then-problem
returns-then-problem c =
    let known = (goal.at.returns-then-problem c).After-row-value in
    let p = c.args.problem.now in
    let n = c.first_of-node.result in
    let barring = bar_rows p.against p.graph.now.nodes p.bits p.born.now p.stop.now c.requires.problem.flow.born_rows c.requires.problem.flow.stop_rows p.every in
    let is : c.or_minus_from.new.self ≡ set c.args.rows.now c.first_of-node.result (or_bits (row_of c.args.rows.now c.first_of-node.result) (minus_bits (row_of c.args.work.now c.args.edge.now.source) (row_of (bars_in c.args.problem.now) c.first_of-node.result)))
    = rw (from_is known, c.barred_at.ensures) at c.or_minus_from.ensures in (
      n,
      c.first_of-node.ensures.first,
      c.first_of-node.ensures.node,
      brought_against p.against p.bits (is_barred p) c.args.rows.now c.or_minus_from.new.self n (λ b. has_bit c.args.work.now b c.args.edge.now.source) c.if-problem.true
          (joined_minus p.bits c.args.rows.now c.or_minus_from.new.self n (row_of c.args.work.now c.args.edge.now.source) (row_of (bars_in p) n) (rw c.requires.rows.len c.first_of-node.ensures.node)
          (as_long known) (c.requires.rows.each n c.first_of-node.ensures.node ∙ sym (barring.each n c.first_of-node.ensures.node)) is),
    )

pub returns-else-problem : goal.returns-else-problem
returns-else-problem c =
    let known = (goal.at.returns-else-problem c).After-row-value in
    let p = c.args.problem.now in
    let n = c.first_of-node.result in
    let is : c.or_from.new.self ≡ set c.args.rows.now c.first_of-node.result (or_bits (row_of c.args.rows.now c.first_of-node.result) (row_of c.args.work.now c.args.edge.now.source)) = rw (from_is known) at c.or_from.ensures in (
      n,
      c.first_of-node.ensures.first,
      c.first_of-node.ensures.node,
      brought_along p.against p.bits (is_barred p) c.args.rows.now c.or_from.new.self n (λ b. has_bit c.args.work.now b c.args.edge.now.source) c.if-problem.false
          (joined_or p.bits c.args.rows.now c.or_from.new.self n (row_of c.args.work.now c.args.edge.now.source) (rw c.requires.rows.len c.first_of-node.ensures.node) (as_long known) is),
    )
