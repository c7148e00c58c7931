use Rattle.std.proofs.Common.{◌≡◌, ◌-◌, length, slice_get, slice_index_or, Some, refl, subst, sym, arith}
use Rattle.std.proofs.lemmas.Option.{slice_get-get_or}
use Rattle.wanted_bits.specs.Asking.{asked_by}
use Rattle.wanted_bits.specs.BitsOrder.{HasFew}
use Rattle.wanted_bits.specs.Walking.{back_in}
use Rattle.wanted_bits.specs.WalkLaws.{asks_few, through_few}
use Rattle.wanted_bits.proofs.Noting.{node_at, walked_more}
use Rattle.wanted_bits.proofs.walking.walk_back.Goals as goal

pub loop-count-preserved : goal.loop-count-preserved
loop-count-preserved c =
    let graph = c.args.graph.now in
    let asked = asked_by graph.shared c.args.around.now in
    let list = c.args.list.now in
    let n = slice_index_or list (length list - 1 - c.loop-count.count) 0 in
    let node = c.index-nodes-n.result in
    let at : slice_get list (length list - 1 - c.loop-count.count) ≡ Some n = slice_get-get_or list _ 0 (omega (arith, c.loop-count-test.true)) in
    let here : slice_get graph.nodes n ≡ Some node = node_at graph.nodes c.nodes-nodes.result.now n node c.nodes-nodes.ensures.value (c.requires.nodes _ n at) c.index-nodes-n.is in
    record {
      bits = walked_more graph asked (back_in c.args.backs.now) list c.args.bits.now c.loop-count.bits c.pass_back.new.bits c.loop-count.count n node _ c.loop-count-test.true at here refl c.loop-count.invariant.bits c.pass_back.ensures;
      few = subst HasFew (sym c.pass_back.ensures) (through_few graph asked _ node c.loop-count.bits (asks_few graph.shared c.args.around.now) c.loop-count.invariant.few);
    }
