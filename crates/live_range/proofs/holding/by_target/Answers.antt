use Rattle.std.proofs.Common.{◌≡◌, [], ◌∷◌, ◌++◌, ap, ◌∙◌}
use Rattle.bit_rows.specs.Bits.{row_of}
use Rattle.path_laws.specs.Pushing.{longer}
use Rattle.live_range.proofs.Targets.{one_target_more}
use Rattle.live_range.proofs.holding.by_target.Goals as goal

pub loop-number-preserved : goal.loop-number-preserved
loop-number-preserved c =
    let edges = c.args.edges.now.edges in
    let rows = c.args.rows.now in
    let made = c.loop-number.made in
    let edge = c.edge.result in
    let put : c.push.new.self ≡ c.loop-number.made ++ row_of c.args.rows.now c.edge.result.target ∷ [] = c.in_ok-push.ensures.ok ∙ ap (λ row. c.loop-number.made ++ row ∷ []) c.row.ensures in
    let below = c.requires.within.below c.loop-number.number edge c.edge.ensures in
    record {
      are = one_target_more edges c.loop-number.number edge rows made c.push.new.self c.edge.ensures c.loop-number.invariant.are put;
      long = longer c.args.bits made c.push.new.self (row_of rows edge.target) c.loop-number.invariant.long (c.requires.long.each edge.target below) put;
    }
