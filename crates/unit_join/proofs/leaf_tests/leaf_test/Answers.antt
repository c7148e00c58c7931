use Rattle.std.proofs.Common.{◌∙◌, ◌↔◌, ◌≡◌, ◌≤◌, List, length, ap, not, refl, subst, true}
use Rattle.mir_base.specs.declared.instructions.Inst.{Inst}
use Rattle.unit_join.specs.LeafTests.{first_called}
use Rattle.unit_join.proofs.Tested.{leaf_told}
use Rattle.unit_join.proofs.leaf_tests.leaf_test.Goals as goal

pub returns : goal.returns
returns c =
    let unit = c.args.unit.now in
    let same = c.insts-insts.ensures.value in
    let short = c.is_short-short.result in
    let calls = c.first_called-calls.result in
    leaf_told unit (record { insts = length c.insts-insts.result.now; long = not short; calls = calls }) short
    (subst (λ l. (short ≡ true) ↔ (length l ≤ 32)) same c.is_short-short.ensures) (ap (λ (l : List Inst). length l) same) refl
    (c.first_called-calls.ensures ∙ ap first_called same)
