use Rattle.std.proofs.Common.{get_or, refl, arith}
use Rattle.wanted_bits.proofs.Raising.{raised_joined, raised_more, raised_none, raised_tells}
use Rattle.wanted_bits.proofs.lists.raise_each.Goals as goal

pub loop-x-init : goal.loop-x-init
loop-x-init c = raised_none c.args.bits.now (λ k. get_or c.args.others.now k 0)

pub loop-x-preserved : goal.loop-x-preserved
loop-x-preserved c =
    let lt = c.loop-x-test.true in
    raised_more c.args.bits.now (λ k. get_or c.args.others.now k 0) c.loop-x.bits c.raise-changed.new.bits c.loop-x.changed c.raise-changed.result c.loop-x.x _ c.loop-x.invariant (omega (arith, lt, c.loop-x.invariant.len)) refl
    c.raise-changed.ensures.raised c.raise-changed.ensures.unchanged

pub returns-clause-joined : goal.returns-clause-joined
returns-clause-joined c =
    let late = c.loop-x-test.false in
    raised_joined c.args.bits.now c.args.others.now c.loop-x.bits (λ k. get_or c.args.others.now k 0) c.loop-x.changed c.loop-x.x c.loop-x.invariant (omega (arith, late)) c.requires (λ k k_in. refl)

pub returns-clause-unchanged : goal.returns-clause-unchanged
returns-clause-unchanged c = raised_tells c.args.bits.now c.loop-x.bits (λ k. get_or c.args.others.now k 0) c.loop-x.changed c.loop-x.x c.loop-x.invariant
