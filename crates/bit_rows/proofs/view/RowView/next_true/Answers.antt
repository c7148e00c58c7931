use Rattle.std.proofs.Common.{◌≡◌, ◌+◌, ◌/◌, length, arith}
use Rattle.bit_rows.proofs.NextBits.{next_first, next_found, next_none}
use Rattle.bit_rows.proofs.Ops.{row_len}
use Rattle.bit_rows.proofs.view.RowView.next_true.Goals as goal

pub next_set-requires : goal.next_set-requires
next_set-requires c =
    let len : length c.self.inside.words.now ≡ (c.self.inside.bits + 63) / 64 = c.self.invariant.len in
    let bits : length c.args.self.now ≡ c.self.inside.bits = row_len c.self.inside.bits c.self.inside.words.now c.args.self.now c.self.view_is in
    omega (arith, c.len.ensures, c.len.type_inv)

pub returns-then-from-len-clause-found : goal.returns-then-from-len-clause-found
returns-then-from-len-clause-found c =
    next_found c.self.inside.bits c.self.inside.words.now c.args.self.now c.self.invariant c.self.view_is c.args.from c.next_set.result c.next_set.ensures.found

pub returns-then-from-len-clause-first : goal.returns-then-from-len-clause-first
returns-then-from-len-clause-first c =
    next_first c.self.inside.bits c.self.inside.words.now c.args.self.now c.self.invariant c.self.view_is c.args.from c.next_set.result c.next_set.ensures.found c.next_set.ensures.first

pub returns-then-from-len-clause-none : goal.returns-then-from-len-clause-none
returns-then-from-len-clause-none c =
    next_none c.self.inside.bits c.self.inside.words.now c.args.self.now c.self.invariant c.self.view_is c.args.from c.next_set.result (c.next_set.ensures.none)
