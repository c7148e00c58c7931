use Rattle.std.proofs.Common.{◌≡◌, ◌-◌, ◌<◌, length, sym, ap, ◌∙◌, arith}
use Rattle.std.specs.List.{range_with_len}
use Rattle.cond_flow.specs.Passing.{all_set}
use Rattle.cond_flow.proofs.TransferLaws.{set_on}
use Rattle.cond_flow.proofs.transfer.clear.Goals as goal

pub loop-x-preserved : goal.loop-x-preserved
loop-x-preserved g c =
    let lt : c.loop-x.x < length c.args.known.now = omega (arith, c.loop-x-test.true, c.len-x-end.ensures) in
    set_on (λ i. g.K.Knowledge.rules.zero) c.loop-x.x c.loop-x.x (length c.args.known.now) c.loop-x.known c.set.new.self c.zero.result lt c.zero.ensures c.set.ensures
    ∙ c.loop-x.invariant

pub returns : goal.returns
returns g c =
    let none : length c.args.known.now - c.loop-x.x ≡ 0 = omega (arith, c.loop-x-test.false, c.len-x-end.ensures) in
    sym (ap (λ n. all_set (λ i. g.K.Knowledge.rules.zero) c.loop-x.x (range_with_len c.loop-x.x n) c.loop-x.known) none)
    ∙ c.loop-x.invariant
