use Rattle.std.proofs.Common.{◌<◌, ◌≤◌, List, length, ap, arith}
use Rattle.mir_base.specs.declared.instructions.Inst.{Inst}
use Rattle.mir_base.specs.Limits.{most_insts}
use Rattle.unit_join.specs.JoinProgramLaws.{long_left, short_taken}
use Rattle.unit_join.proofs.programs.joined_or_left.Goals as goal

pub returns-then-insts-le-MOST_INSTS : goal.returns-then-insts-le-MOST_INSTS
returns-then-insts-le-MOST_INSTS c =
    let same = ap (λ (l : List Inst). length l) c.insts.ensures.value in
    let short : length c.in_ok-unit.unit.body ≤ most_insts = omega (arith, same, c.if-insts-le-MOST_INSTS.true) in
    short_taken c.args.leaves.now.units c.args.graph.now c.in_ok-joined.joined c.in_ok-unit.unit c.in_ok-joined.ensures.joined c.in_ok-unit.ensures c.in_ok-joined.ensures.keeps short

pub returns : goal.returns
returns c =
    let same = ap (λ (l : List Inst). length l) c.insts.ensures.value in
    let long : most_insts < length c.in_ok-unit.unit.body = omega (arith, same, c.if-insts-le-MOST_INSTS.false) in
    long_left c.args.leaves.now.units c.args.graph.now c.in_ok-joined.joined c.in_ok-unit.unit c.in_ok-joined.ensures.joined c.in_ok-unit.ensures c.in_ok-left.left long c.in_ok-left.ensures
