use Rattle.std.proofs.Common.{rules, sym, ◌∙◌, arith}
use Rattle.sink_code.proofs.Skipping.{ends_there}
use Rattle.sink_code.proofs.skips.stop_after.Goals as goal

pub returns-in-None-clause-leads : goal.returns-in-None-clause-leads
returns-in-None-clause-leads c =
    let l = c.loop in
    record {
      over = record { skips = l.counter; few = omega (arith, c.loop-test.true); leads = l.invariant.led };
      last = λ k m more few led. ends_there c.args.nodes.now l.counter k c.args.first l.at m l.invariant.led (sym c.skip_on.ensures.next ∙ c.in-None.is) more led;
    }

pub returns-clause-leads : goal.returns-clause-leads
returns-clause-leads c = record {
  over = record { skips = c.loop.counter; few = search rules; leads = c.loop.invariant.led };
  last = λ k m more few led. absurd (omega (arith, more, few, c.loop-test.false));
}
