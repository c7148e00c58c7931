use Rattle.std.proofs.Common.{get_or, refl, arith}
use Rattle.wanted_bits.proofs.Keeping.{keeps_none, keeps_then}
use Rattle.wanted_bits.proofs.Raising.{raised_joined, raised_more, raised_none, raised_tells}
use Rattle.wanted_bits.proofs.raises.raise_noting.Goals as goal

pub loop-x-init : goal.loop-x-init
loop-x-init c = record { raised = raised_none c.args.bits.now (λ k. get_or c.args.others.now k 0); keeps = keeps_none c.args.news.now c.args.bits.now }

pub loop-x-preserved : goal.loop-x-preserved
loop-x-preserved c =
    let lt = c.loop-x-test.true in
    let inv = c.loop-x.invariant in
    record {
      raised = raised_more c.args.bits.now (λ k. get_or c.args.others.now k 0) c.loop-x.bits c.raise_one-changed.new.bits c.loop-x.changed c.raise_one-changed.result c.loop-x.x _ inv.raised (omega (arith, lt, inv.raised.len)) refl
          c.raise_one-changed.ensures.raised c.raise_one-changed.ensures.unchanged;
      keeps = keeps_then c.args.news.now c.loop-x.news c.raise_one-changed.new.news c.args.bits.now c.loop-x.bits c.raise_one-changed.new.bits inv.keeps c.raise_one-changed.ensures.keeps;
    }

pub returns-clause-joined : goal.returns-clause-joined
returns-clause-joined c =
    let late = c.loop-x-test.false in
    raised_joined c.args.bits.now c.args.others.now c.loop-x.bits (λ k. get_or c.args.others.now k 0) c.loop-x.changed c.loop-x.x c.loop-x.invariant.raised (omega (arith, late)) c.requires (λ k k_in. refl)

pub returns-clause-unchanged : goal.returns-clause-unchanged
returns-clause-unchanged c = raised_tells c.args.bits.now c.loop-x.bits (λ k. get_or c.args.others.now k 0) c.loop-x.changed c.loop-x.x c.loop-x.invariant.raised
