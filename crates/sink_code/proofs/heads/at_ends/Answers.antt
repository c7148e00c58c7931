use Rattle.std.proofs.Common.{◌≡◌, ◌+◌, suc, subst, arith}
use Rattle.sink_code.specs.Over.{ArePutAtEndsOver}
use Rattle.sink_code.proofs.heads.at_ends.Goals as goal

pub loop-block-preserved : goal.loop-block-preserved
loop-block-preserved c =
    let one : suc c.loop-block.block ≡ c.loop-block.block + 1 = omega arith in
    subst (λ n. ArePutAtEndsOver c.args.over.now c.args.into.now c.args.leaves.now n c.args.puts.now.items c.at_end.new.puts.items) one
    (c.in_ok-at_end.ensures c.args.puts.now.items c.loop-block.invariant)
