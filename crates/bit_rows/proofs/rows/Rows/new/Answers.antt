use Rattle.std.proofs.Common.{◌≡◌, ◌+◌, ◌*◌, ◌/◌, ◌%◌, min, replicate, false, arith, ap, ◌∙◌}
use Rattle.bit_rows.proofs.Flat.{HoldRows, zero_rows}
use Rattle.bit_rows.proofs.rows.Rows.new.Goals as goal
use Rattle.bit_rows.proofs.rows.Rows.new.Goals.{In_ok-vec}

held : (c : In_ok-vec) → HoldRows c.args.rows c.args.bits c.div_ceil-stride.result c.in_ok-vec.field-0.items (replicate c.args.rows (replicate c.args.bits false))
held c =
    let stride : c.div_ceil-stride.result ≡ c.args.bits / 64 + min 1 (c.args.bits % 64) = c.div_ceil-stride.ensures in
    zero_rows c.args.rows c.args.bits c.div_ceil-stride.result (omega arith) c.in_ok-vec.field-0.items (c.in_ok-vec.ensures.items_if_clones_equal (λ y e. e) ∙ ap (λ n. replicate n 0) (let product : c.in-Some.count ≡ c.div_ceil-stride.result * c.args.rows = c.in-Some.ensures.1 in product))

pub invariant_of-result : goal.invariant_of-result
invariant_of-result c = (held c).fit

pub returns : goal.returns
returns c = (held c).seen
