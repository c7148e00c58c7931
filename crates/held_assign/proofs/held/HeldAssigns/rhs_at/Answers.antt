use Rattle.std.proofs.Common.{◌≤◌, ◌<◌, length, sym, subst, arith}
use Rattle.bit_rows.specs.Bits.{row_of}
use Rattle.held_assign.specs.Rows.{HaveNoneShared, IsFirstShared}
use Rattle.held_assign.proofs.Found.{held_found, held_nowhere, held_past}
use Rattle.held_assign.proofs.held.HeldAssigns.rhs_at.Goals as goal

pub returns-then-var-len : goal.returns-then-var-len
returns-then-var-len c =
    let held = c.args.self.now in
    let late : length c.args.self.now.targets ≤ c.args.var = omega (arith, c.if-var-len.true, c.len.ensures) in
    sym (held_past (length held.targets) held.table (row_of held.held c.args.node) c.args.var late c.requires.lookup.below)

pub returns-in-Some : goal.returns-in-Some
returns-in-Some c =
    let held = c.args.self.now in
    let within : c.args.var < length c.args.self.now.targets = omega (arith, c.if-var-len.false, c.len.ensures) in
    let first = subst (λ r. IsFirstShared r (row_of c.args.self.now.held c.args.node) c.in-Some.number) c.row.ensures (subst (λ r. IsFirstShared c.row.result r c.in-Some.number) c.row-2.ensures c.in-Some.ensures.found) in
    sym (held_found (length held.targets) held.table held.targets (row_of held.held c.args.node) c.args.var within c.requires.lookup.targets c.in-Some.number c.get.result.now c.get.ensures first)

pub returns-in-None : goal.returns-in-None
returns-in-None c =
    let held = c.args.self.now in
    let within : c.args.var < length c.args.self.now.targets = omega (arith, c.if-var-len.false, c.len.ensures) in
    let none = subst (λ r. HaveNoneShared r (row_of c.args.self.now.held c.args.node)) c.row.ensures (subst (λ r. HaveNoneShared c.row.result r) c.row-2.ensures c.in-None.ensures.none) in
    sym (held_nowhere (length held.targets) held.table held.targets (row_of held.held c.args.node) c.args.var within c.requires.lookup.targets none)
