use Rattle.std.proofs.Common.{◌≡◌, ◌+◌, ◌/◌, ◌%◌, ◌∷◌, ◌++◌, [], min, replicate, false, arith}
use Rattle.bit_rows.proofs.Flat.{HoldRows}
use Rattle.bit_rows.proofs.Grown.{grown_false}
use Rattle.bit_rows.proofs.rows.Rows.push_false.Goals as goal
use Rattle.bit_rows.proofs.rows.Rows.push_false.Goals.{In_ok-push_zeros}

held : (c : In_ok-push_zeros) → HoldRows c.in-Some.rows c.args.bits c.div_ceil-stride.result c.push_zeros.new.made.items (c.args.self.now ++ replicate c.args.bits false ∷ [])
held c =
    let one_more : c.in-Some.rows ≡ c.self.inside.rows + 1 = c.in-Some.ensures.1 in
    let stride : c.div_ceil-stride.result ≡ c.args.bits / 64 + min 1 (c.args.bits % 64) = c.div_ceil-stride.ensures in
    rw (c.in_ok-push_zeros.ensures.ok, one_more)
    (grown_false c.self.inside.rows c.self.inside.bits c.self.inside.stride c.self.inside.words.items c.args.self.now c.self.invariant c.self.view_is
    c.args.bits c.div_ceil-stride.result (omega arith) c.requires)

pub invariant_of-self-2 : goal.invariant_of-self-2
invariant_of-self-2 c = (held (goal.at.invariant_of-self-2 c).In_ok-push_zeros).fit

pub returns-clause-ok : goal.returns-clause-ok
returns-clause-ok c = (held (goal.at.returns-clause-ok c).In_ok-push_zeros).seen
