use Rattle.std.proofs.Common.{◌&&◌, nat_eq, ap, ◌∙◌, arith}
use Rattle.std.proofs.lemmas.Grind.{common_steps}
use Rattle.mir_parse.specs.declared.raw.RawInst.{RawInst}
use Rattle.mir_valid.specs.Rules.{is_receive, is_seventeenth}
use Rattle.mir_valid.proofs.BrokenLaws.{least_next}
use Rattle.mir_valid.proofs.receives.TooManyReceivesRule.least_in.Goals as goal

pub loop-inst-preserved : goal.loop-inst-preserved
loop-inst-preserved c = record {
  counted = grind (arith, common_steps);
  least =
      least_next (λ (inst : RawInst). inst.line) is_seventeenth c.args.best c.items-inst-items.result.now c.loop-inst.inst-index c.inst-item.result c.loop-inst.best c.lesser_if-best.result
      c.is_beyond.result c.loop-inst-test.true c.inst-item.is c.loop-inst.invariant.least
      (c.is_beyond.ensures
      ∙ ap (λ b. b && nat_eq c.loop-inst.count 16) c.is_receive-receives.ensures
      ∙ ap (λ n. is_receive c.inst-item.result && nat_eq n 16) c.loop-inst.invariant.counted)
      c.lesser_if-best.ensures;
}
