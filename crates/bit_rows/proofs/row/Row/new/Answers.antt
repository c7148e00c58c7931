use Rattle.std.proofs.Common.{◌≡◌, ◌+◌, ◌/◌, ◌%◌, min, replicate, false, arith}
use Rattle.bit_rows.proofs.Views.{Holds, zeros_hold}
use Rattle.bit_rows.proofs.row.Row.new.Goals as goal
use Rattle.bit_rows.proofs.row.Row.new.Goals.{In_ok-from_elem}

held : (c : In_ok-from_elem) → Holds c.args.bits c.in_ok-from_elem.field-0.items (replicate c.args.bits false)
held c =
    let count : c.div_ceil-count.result ≡ c.args.bits / 64 + min 1 (c.args.bits % 64) = c.div_ceil-count.ensures in
    rw (c.in_ok-from_elem.ensures.items_if_clones_equal (λ y e. e)) (zeros_hold c.args.bits c.div_ceil-count.result (omega arith))

pub invariant_of-result : goal.invariant_of-result
invariant_of-result c = (held c).fits

pub returns : goal.returns
returns c = (held c).view
