use Rattle.std.proofs.Common.{sym, subst}
use Rattle.wanted_bits.specs.Asking.{asked_by}
use Rattle.wanted_bits.specs.Asks.{AreAsksBy}
use Rattle.wanted_bits.specs.Touching.{AreTouched}
use Rattle.wanted_bits.specs.Walking.{back_in}
use Rattle.wanted_bits.proofs.asks.ask_again.Goals as goal

pub least-requires-clause-touched : goal.least-requires-clause-touched
least-requires-clause-touched c =
    let graph = c.args.graph.now in
    let prepared = c.args.prepared.now in
    subst (λ l. AreTouched graph (back_in l) prepared.crossed.blocks.lists c.as_slice.result.now) (sym c.as_slice-backs.ensures.value)
    (subst (AreTouched graph (back_in prepared.backs.items) prepared.crossed.blocks.lists) (sym c.as_slice.ensures.value) c.requires.prepared.touched)

pub returns : goal.returns
returns c =
    let graph = c.args.graph.now in
    let backs = c.requires.prepared.backs in
    let by : AreAsksBy (asked_by graph.shared c.args.around.now) graph c.args.prepared.now.backs.items c.ask_all.new.asks.items =
    subst (λ l. AreAsksBy (asked_by graph.shared c.args.around.now) graph l c.ask_all.new.asks.items) c.as_slice-backs.ensures.value c.in_ok-ask_all.ensures in
    let numbers = by.are backs.shifts backs.have in
    record {
      long = by.long;
      shifts = backs.shifts;
      tell = backs.shifts_are;
      hold = backs.shifts_hold;
      wanted = numbers.0;
      least = numbers.1;
      ask = numbers.2;
    }
