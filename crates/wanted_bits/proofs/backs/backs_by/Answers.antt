use Rattle.std.proofs.Common.{◌∙◌, ◌+◌, length, sym, ap, arith}
use Rattle.std.proofs.lemmas.List.{length-append}
use Rattle.std.proofs.lemmas.Option.{same_Some, slice_get_within}
use Rattle.flow_graph.specs.declared.nodes.Node.{Node}
use Rattle.wanted_bits.specs.ByRows.{shift_at}
use Rattle.wanted_bits.specs.Walking.{back_of}
use Rattle.wanted_bits.proofs.Listing.{backs_more}
use Rattle.wanted_bits.proofs.backs.backs_by.Goals as goal

pub loop-n-preserved : goal.loop-n-preserved
loop-n-preserved c =
    let shifts = shift_at c.args.held.now in
    record {
      long = ap length c.in_ok-push.ensures.items ∙ length-append c.loop-n.backs.items _ ∙ ap (λ k. k + 1) c.loop-n.invariant.long;
      are = backs_more c.args.graph.now.nodes (λ m node. back_of (shifts m) node) c.loop-n.n c.back_of.result c.loop-n.backs.items c.push.new.self.items c.loop-n.invariant.long c.loop-n.invariant.are
          (λ node here. c.back_of.ensures ∙ ap (λ (n : Node). back_of (shifts c.loop-n.n) n) (same_Some c.node.result.now node (sym c.node.ensures ∙ here))) c.in_ok-push.ensures.items;
    }

pub returns-clause-backs : goal.returns-clause-backs
returns-clause-backs c = λ n node here.
    let late = c.loop-n-test.false in
    let lt = slice_get_within c.args.graph.now.nodes n node here in
    c.loop-n.invariant.are n node (omega (arith, late, lt, c.len-n-end.ensures)) here
