use Rattle.mir_parse.specs.declared.raw.RawLabel.{RawLabel}
use Rattle.mir_valid.proofs.SameNames.{finds_next, same_next}
use Rattle.mir_valid.proofs.labels.SameLabelRule.least_in.Goals as goal

pub loop-label-preserved : goal.loop-label-preserved
loop-label-preserved c = record {
  seen =
      finds_next (λ (l : RawLabel). l.name) c.items-label-items.result.now c.loop-label.label-index c.label-item.result c.loop-label.seen c.add.new.self c.loop-label-test.true c.label-item.is
      c.loop-label.invariant.seen c.in_ok-is_new.ensures.added;
  least =
      same_next (λ (l : RawLabel). l.name) (λ l. l.line) c.items-label-items.result.now c.loop-label.label-index c.label-item.result c.loop-label.seen c.args.best c.loop-label.best
      c.lesser_if-best.result c.in_ok-is_new.is_new c.loop-label-test.true c.label-item.is c.loop-label.invariant.seen c.loop-label.invariant.least c.in_ok-is_new.ensures.new
      c.lesser_if-best.ensures;
}
