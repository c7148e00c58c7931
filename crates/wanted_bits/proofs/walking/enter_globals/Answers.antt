use Rattle.std.proofs.Common.{◌≡◌, ◌+◌, ◌-◌, ℕ, suc, slice_set, sym, ap, ◌∙◌, arith}
use Rattle.std.specs.List.{range_with_len}
use Rattle.wanted_bits.specs.Asking.{global_at}
use Rattle.wanted_bits.specs.Walking.{all_set}
use Rattle.wanted_bits.proofs.walking.enter_globals.Goals as goal

pub loop-x-preserved : goal.loop-x-preserved
loop-x-preserved c =
    let x = c.loop-x.x in
    let more : c.args.shared - x ≡ suc (c.args.shared - (x + 1)) = omega (arith, c.loop-x-test.true) in
    ap (all_set (global_at c.args.around.now c.args.unit) (range_with_len (x + 1) (c.args.shared - (x + 1)))) c.put.ensures
    ∙ ap (λ (k : ℕ). all_set (global_at c.args.around.now c.args.unit) (range_with_len (x + 1) (c.args.shared - (x + 1))) (slice_set c.loop-x.bits x k)) c.global.ensures.value
    ∙ sym (ap (λ (n : ℕ). all_set (global_at c.args.around.now c.args.unit) (range_with_len x n) c.loop-x.bits) more)
    ∙ c.loop-x.invariant
