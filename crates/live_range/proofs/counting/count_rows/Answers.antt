use Rattle.std.proofs.Common.{◌-◌, arith, length}
use Rattle.bit_rows.specs.Bits.{row_bit}
use Rattle.live_range.proofs.BelowCounts.{count_few}
use Rattle.live_range.proofs.Differences.{none_if}
use Rattle.path_laws.specs.Paths.{has_bit}
use Rattle.live_range.proofs.counting.count_rows.Goals as goal

pub count_differences-requires-clause-room : goal.count_differences-requires-clause-room
count_differences-requires-clause-room c = λ b b_in off.
    let was = c.loop-n.invariant.each b b_in in
    let none = none_if (row_bit c.loop-n.before b) (length c.args.rows.now - c.loop-n.n) off in
    let few = count_few (has_bit c.args.rows.now b) c.loop-n.n in
    omega (arith, was, none, few, c.loop-n-test.true, c.len-n-end.type_inv, c.len-n-end.ensures, c.len.ensures)
