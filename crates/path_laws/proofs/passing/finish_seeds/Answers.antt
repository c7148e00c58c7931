use Rattle.std.proofs.Common.{sym, ap, ◌∙◌}
use Rattle.bit_rows.specs.Bits.{minus_bits}
use Rattle.path_laws.proofs.RowsPassed.{begun_inside, begun_some, seeds_inside, seeds_some}
use Rattle.path_laws.proofs.passing.finish_seeds.Goals as goal

pub returns-else-is_end : goal.returns-else-is_end
returns-else-is_end c =
    let inside = sym c.is_end.ensures ∙ c.if-is_end.false in
    c.minus_from.ensures.minus
    ∙ ap (λ row. minus_bits row c.row.result) (c.requires.begun ∙ begun_inside c.args.problem.now c.args.node c.if-problem.true inside)
    ∙ ap (minus_bits _) c.row.ensures
    ∙ seeds_inside c.args.problem.now c.requires.problem c.args.node c.requires.node c.if-problem.true inside

pub returns-else-problem : goal.returns-else-problem
returns-else-problem c = c.requires.begun ∙ begun_some c.args.problem.now c.args.node c.if-problem.false ∙ seeds_some c.args.problem.now c.requires.problem c.args.node c.requires.node c.if-problem.false
