use Rattle.std.proofs.Common.{◌≡◌, ◌+◌, ◌-◌, ℕ, suc, sym, ap, ◌∙◌, arith}
use Rattle.std.specs.List.{range_with_len}
use Rattle.wanted_bits.specs.Asking.{width_at}
use Rattle.wanted_bits.specs.Walking.{all_raised, raised_at}
use Rattle.wanted_bits.proofs.walking.leave_globals.Goals as goal

pub loop-x-preserved : goal.loop-x-preserved
loop-x-preserved c =
    let x = c.loop-x.x in
    let more : c.args.shared - x ≡ suc (c.args.shared - (x + 1)) = omega (arith, c.loop-x-test.true) in
    ap (all_raised (width_at c.args.around.now.back.now) (range_with_len (x + 1) (c.args.shared - (x + 1)))) c.raise_to.ensures
    ∙ ap (λ (k : ℕ). all_raised (width_at c.args.around.now.back.now) (range_with_len (x + 1) (c.args.shared - (x + 1))) (raised_at c.loop-x.bits x k)) c.get.ensures.value
    ∙ sym (ap (λ (n : ℕ). all_raised (width_at c.args.around.now.back.now) (range_with_len x n) c.loop-x.bits) more)
    ∙ c.loop-x.invariant
