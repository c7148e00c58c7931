use Rattle.std.proofs.Common.{inl, inr, arith}
use Rattle.jump_clean.proofs.Follow.{least_step, nothing_left}
use Rattle.jump_clean.proofs.chains.least.Goals as goal

pub loop-n-preserved : goal.loop-n-preserved
loop-n-preserved c =
    let s = least_step c.args.first c.loop-n.least c.min-least.result c.args.others.now c.loop-n.n-index c.loop-n-test.true c.min-least.ensures c.loop-n.invariant.is_one c.loop-n.invariant.least in
    record { is_one = s.0; least = s.1 }

pub returns-clause-least : goal.returns-clause-least
returns-clause-least c = λ n h. elim (c.loop-n.invariant.least n h) [ inl le ↦ le | inr rest ↦ absurd (nothing_left c.args.others.now c.loop-n.n-index n (omega (arith, c.loop-n-test.false)) rest) ]
