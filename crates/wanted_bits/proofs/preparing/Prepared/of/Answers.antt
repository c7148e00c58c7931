use Rattle.std.proofs.Common.{subst}
use Rattle.wanted_bits.specs.Touching.{AreTouched}
use Rattle.wanted_bits.specs.Walking.{back_in}
use Rattle.wanted_bits.proofs.preparing.Prepared.of.Goals as goal

pub returns : goal.returns
returns c =
    let graph = c.args.graph.now in
    record {
      backs = c.in_ok-backs.ensures;
      crossed = c.in_ok-crossed.ensures;
      touched = subst (λ l. AreTouched graph (back_in l) c.in_ok-crossed.crossed.blocks.lists c.in_ok-touched.touched.items) c.as_slice.ensures.value c.in_ok-touched.ensures;
    }
