use Rattle.std.proofs.Common.{◌≡◌, ◌∙◌, ◌<◌, length, slice_get, Some, refl, sym, ap, arith}
use Rattle.std.proofs.lemmas.Option.{slice_get-get_or}
use Rattle.wanted_bits.proofs.Noting.{node_at}
use Rattle.program_wanted.proofs.Marks.{raised_both}
use Rattle.program_wanted.proofs.Raises.{raises_more, raises_none}
use Rattle.program_wanted.proofs.raising.raise_backs.Goals as goal

pub loop-n-init : goal.loop-n-init
loop-n-init c = record { raises = raises_none c.args.graph.now c.args.asks.now c.args.backs.now.items c.requires; marked = record { long = refl; keeps = λ w off. (off, refl) } }

pub raise_call-raised-requires : goal.raise_call-raised-requires
raise_call-raised-requires c into v operands next l is asked =
    let n = c.loop-n.n in
    let asks = c.args.asks.now in
    let nodes = c.args.graph.now.nodes in
    let node = c.index-nodes-n.result in
    let in_nodes : n < length nodes = omega (arith, c.loop-n-test.true, ap length c.nodes-nodes.ensures.value) in
    let here : slice_get nodes n ≡ Some node = node_at nodes c.nodes-nodes.result.now n node c.nodes-nodes.ensures.value in_nodes c.index-nodes-n.is in
    let at : slice_get asks n ≡ Some c.index-asks-n.result = slice_get-get_or asks n c.index-asks-n.result (omega (arith, in_nodes, c.requires.long)) ∙ ap Some (sym c.index-asks-n.is) in
    let fit = c.requires.fit n node c.index-asks-n.result here at into v operands next l is asked in
    let stay = c.loop-n.invariant.raises.stay in
    (omega (arith, fit.0, stay.long), fit.1 ∙ sym (stay.each v), fit.2)

pub loop-n-preserved : goal.loop-n-preserved
loop-n-preserved c =
    let n = c.loop-n.n in
    let asks = c.args.asks.now in
    let nodes = c.args.graph.now.nodes in
    let node = c.index-nodes-n.result in
    let in_nodes : n < length nodes = omega (arith, c.loop-n-test.true, ap length c.nodes-nodes.ensures.value) in
    let here : slice_get nodes n ≡ Some node = node_at nodes c.nodes-nodes.result.now n node c.nodes-nodes.ensures.value in_nodes c.index-nodes-n.is in
    let at : slice_get asks n ≡ Some c.index-asks-n.result = slice_get-get_or asks n c.index-asks-n.result (omega (arith, in_nodes, c.requires.long)) ∙ ap Some (sym c.index-asks-n.is) in
    record {
      raises = raises_more c.args.graph.now asks c.args.backs.now.items c.requires n node c.index-asks-n.result c.loop-n.backs.items c.raise_call-raised.new.backs.items c.loop-n.raised c.raise_call-raised.result here at c.loop-n.invariant.raises c.raise_call-raised.ensures.raised c.raise_call-raised.ensures.unchanged;
      marked = raised_both c.args.backs.now.items c.loop-n.backs.items c.raise_call-raised.new.backs.items c.args.stale.now.items c.loop-n.stale.items c.raise_call-raised.new.stale.items c.loop-n.invariant.marked c.raise_call-raised.ensures.marked;
    }
