use Rattle.std.proofs.Common.{length, ap, subst, sym, arith}
use Rattle.path_laws.specs.Paths.{AreRows}
use Rattle.graph_edit.specs.Accesses.{assigns_at, reads_at}
use Rattle.dead_code.proofs.Flagging.{accesses_passed}
use Rattle.dead_code.proofs.dead.live_after.Goals as goal

pub backward_some_ends-requires-clause-born : goal.backward_some_ends-requires-clause-born
backward_some_ends-requires-clause-born c = subst (λ k. AreRows (length c.args.blocks.now.lists) k c.in_ok-made.made.reads) (sym (ap length c.vars-bits.ensures)) c.in_ok-made.ensures.reads_shape

pub backward_some_ends-requires-clause-stop : goal.backward_some_ends-requires-clause-stop
backward_some_ends-requires-clause-stop c = subst (λ k. AreRows (length c.args.blocks.now.lists) k c.in_ok-made.made.assigns) (sym (ap length c.vars-bits.ensures)) c.in_ok-made.ensures.assigns_shape

pub returns : goal.returns
returns c =
    let graph = c.args.graph.now in
    let lists = c.args.blocks.now.lists in
    let reads = c.in_ok-made.made.reads in
    let assigns = c.in_ok-made.made.assigns in
    let many = ap length c.vars-bits.ensures in
    record {
      shape = subst (λ k. AreRows (length lists) k c.in_ok-after.after) many c.in_ok-after.ensures.shape;
      are = λ b x last list le x_in listed ends.
          c.in_ok-after.ensures.paths (λ y. reads_at graph y) (λ y. assigns_at graph y)
          (λ d y other z y_in at. accesses_passed graph lists reads assigns c.in_ok-made.ensures d y other z at)
          b x last list (omega (arith, x_in, many)) listed ends;
    }
