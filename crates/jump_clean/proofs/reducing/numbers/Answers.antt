use Rattle.std.proofs.Common.{sym, subst}
use Rattle.mir_base.specs.BelowLaws.{all_below_push}
use Rattle.mir_base.specs.Shapes.{AllBelow}
use Rattle.jump_clean.proofs.Joins.{in_one_longer}
use Rattle.jump_clean.proofs.reducing.numbers.Goals as goal
use Rattle.flow_graph.specs.Numbering.{IsIn}

pub loop-n-preserved : goal.loop-n-preserved
loop-n-preserved c =
    let inv = c.loop-n.invariant in
    let pushed = c.in_ok-push.ensures.items in
    record {
      all = λ k lt. subst (IsIn k) (sym pushed) (in_one_longer c.loop-n.numbers.items c.loop-n.n k lt (inv.all k));
      below = subst (AllBelow c.args.count) (sym pushed) (all_below_push c.args.count c.loop-n.n c.loop-n.numbers.items inv.below c.loop-n-test.true);
    }
