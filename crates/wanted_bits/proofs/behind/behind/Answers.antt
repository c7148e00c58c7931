use Rattle.std.proofs.Common.{sym, subst}
use Rattle.wanted_bits.specs.Asking.{asked_by}
use Rattle.wanted_bits.specs.Found.{AreBehind}
use Rattle.wanted_bits.specs.Touching.{AreTouched}
use Rattle.wanted_bits.specs.Walking.{back_in}
use Rattle.wanted_bits.proofs.behind.behind.Goals as goal

pub least-requires-clause-touched : goal.least-requires-clause-touched
least-requires-clause-touched c =
    let graph = c.args.graph.now in
    let prepared = c.args.prepared.now in
    subst (λ l. AreTouched graph (back_in l) prepared.crossed.blocks.lists c.as_slice.result.now) (sym c.as_slice-backs.ensures.value)
    (subst (AreTouched graph (back_in prepared.backs.items) prepared.crossed.blocks.lists) (sym c.as_slice.ensures.value) c.requires.touched)

pub returns : goal.returns
returns c =
    let graph = c.args.graph.now in
    subst (λ l. AreBehind graph (asked_by graph.shared c.args.around.now) l c.in_ok-behind.behind.items) c.as_slice-backs.ensures.value c.in_ok-behind.ensures
