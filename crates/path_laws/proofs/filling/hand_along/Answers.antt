use Rattle.std.proofs.Common.{◌&&◌, not, sym, ◌∙◌}
use Rattle.path_laws.specs.Paths.{has_bit}
use Rattle.path_laws.specs.Problem.{is_barred, is_seed}
use Rattle.path_laws.specs.RowLaws.{Joined}
use Rattle.path_laws.proofs.Growing.{joined_twice}
use Rattle.path_laws.proofs.RowsHanded.{passed, taken}
use Rattle.path_laws.proofs.filling.hand_along.Goals as goal
use Rattle.path_laws.proofs.filling.hand_along.Goals.{After-or_minus_within}

along : (c : After-or_minus_within) → Joined c.args.problem.now.bits c.args.rows.now c.or_minus_within.new.self c.args.node (λ b. has_bit c.args.rows.now b c.args.before && not (is_barred c.args.problem.now b c.args.before))
along c =
    taken c.args.problem.now c.requires.problem c.args.rows.now c.or_minus_within.new.self c.args.before c.args.node c.args.before c.requires.rows c.requires.before c.requires.node c.requires.before
    (rw c.barred_at.ensures at c.or_minus_within.ensures)

pub join_seeds-requires-clause-long : goal.join_seeds-requires-clause-long
join_seeds-requires-clause-long c = (along (goal.at.join_seeds-requires-clause-long c).After-or_minus_within).long ∙ c.requires.rows.each c.args.node c.requires.node

pub returns-then-not-is_end : goal.returns-then-not-is_end
returns-then-not-is_end c =
    passed c.args.problem.now c.requires.problem c.args.rows.now c.or_passed_within.new.self c.args.before c.args.node c.requires.rows c.requires.before c.requires.node
    c.if-problem.true (sym c.is_end.ensures ∙ c.if-not-is_end.true) (rw (c.row-stop.ensures, c.row.ensures) at c.or_passed_within.ensures)

pub returns-else-problem : goal.returns-else-problem
returns-else-problem c =
    let p = c.args.problem.now in
    joined_twice p.bits c.args.rows.now c.or_minus_within.new.self c.join_seeds.new.rows c.args.node (λ b. has_bit c.args.rows.now b c.args.before && not (is_barred p b c.args.before)) (λ b. is_seed p b c.args.before) (along (goal.at.returns-else-problem c).After-or_minus_within) c.join_seeds.ensures
