use Rattle.std.proofs.Common.{◌∙◌}
use Rattle.mir_parse.specs.declared.raw.RawInst.{RawInst}
use Rattle.mir_valid.specs.Rules.{receives_again}
use Rattle.mir_valid.proofs.BrokenLaws.{least_next}
use Rattle.mir_valid.proofs.SameNames.{received_next, received_again}
use Rattle.mir_valid.proofs.receives.SameReceiveRule.least_in.Goals as goal

pub loop-inst-preserved : goal.loop-inst-preserved
loop-inst-preserved c = record {
  seen =
      received_next c.items-inst-items.result.now c.loop-inst.inst-index c.inst-item.result c.loop-inst.seen c.sees_again.new.seen c.loop-inst-test.true c.inst-item.is
      c.loop-inst.invariant.seen c.in_ok-receives_again.ensures.seen;
  least =
      least_next (λ (inst : RawInst). inst.line) receives_again c.args.best c.items-inst-items.result.now c.loop-inst.inst-index c.inst-item.result c.loop-inst.best c.lesser_if-best.result
      c.in_ok-receives_again.receives_again c.loop-inst-test.true c.inst-item.is c.loop-inst.invariant.least
      (c.in_ok-receives_again.ensures.again ∙ received_again c.items-inst-items.result.now c.loop-inst.inst-index c.inst-item.result c.loop-inst.seen c.loop-inst.invariant.seen)
      c.lesser_if-best.ensures;
}
