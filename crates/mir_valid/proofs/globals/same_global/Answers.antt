use Rattle.std.proofs.Common.{None}
use Rattle.mir_parse.specs.declared.raw.RawGlobal.{RawGlobal}
use Rattle.mir_valid.proofs.SameNames.{finds_next, same_next}
use Rattle.mir_valid.proofs.globals.same_global.Goals as goal

pub loop-global-preserved : goal.loop-global-preserved
loop-global-preserved c = record {
  seen =
      finds_next (λ (g : RawGlobal). g.name) c.args.globals.now c.loop-global.global-index c.global-item.result c.loop-global.seen c.add.new.self c.loop-global-test.true c.global-item.is
      c.loop-global.invariant.seen c.in_ok-is_new.ensures.added;
  least =
      same_next (λ (g : RawGlobal). g.name) (λ g. g.line) c.args.globals.now c.loop-global.global-index c.global-item.result c.loop-global.seen None c.loop-global.best c.lesser_if-best.result
      c.in_ok-is_new.is_new c.loop-global-test.true c.global-item.is c.loop-global.invariant.seen c.loop-global.invariant.least c.in_ok-is_new.ensures.new c.lesser_if-best.ensures;
}
