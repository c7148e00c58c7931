use Rattle.path_laws.specs.Problem.{is_barred, is_seed}
use Rattle.path_laws.proofs.Growing.{handed_against, handed_along}
use Rattle.path_laws.proofs.RowsHanded.{taken}
use Rattle.path_laws.proofs.filling.hand_on.Goals as goal

pub returns-then-problem : goal.returns-then-problem
returns-then-problem c =
    let p = c.args.problem.now in
    handed_against p.against p.bits (is_seed p) (is_barred p) c.args.rows.now c.or_minus_within.new.self c.args.before c.args.node c.if-problem.true
    (taken p c.requires.problem c.args.rows.now c.or_minus_within.new.self c.args.before c.args.node c.args.node c.requires.rows c.requires.before c.requires.node c.requires.node
    (rw c.barred_at.ensures at c.or_minus_within.ensures))

pub returns-else-problem : goal.returns-else-problem
returns-else-problem c =
    let p = c.args.problem.now in
    handed_along p.against p.bits (is_seed p) (is_barred p) c.args.rows.now c.hand_along.new.rows c.args.before c.args.node c.if-problem.false c.hand_along.ensures
