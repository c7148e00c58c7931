use Rattle.std.proofs.Common.{◌≡◌, ◌<◌, ◌-◌, ◌∙◌, ℕ, Some, None, length, slice_get, slice_index_or, refl, subst, sym, ap, arith}
use Rattle.std.proofs.lemmas.List.{drop_all}
use Rattle.std.proofs.lemmas.Option.{slice_get-get_or}
use Rattle.wanted_bits.specs.Asking.{asked_by}
use Rattle.wanted_bits.specs.Asks.{ask_past}
use Rattle.wanted_bits.specs.BitsOrder.{HasFew}
use Rattle.wanted_bits.specs.Walking.{back_in, before_list}
use Rattle.wanted_bits.specs.WalkLaws.{asks_few, through_few}
use Rattle.wanted_bits.proofs.Noting.{node_at, noted_more, notes_none, walked_more}
use Rattle.wanted_bits.proofs.asks.ask_block.Goals as goal

pub loop-count-init : goal.loop-count-init
loop-count-init c =
    let graph = c.args.graph.now in
    let asked = asked_by graph.shared c.args.around.now in
    let back = back_in c.args.backs.now in
    record {
      bits = sym (ap (λ l. before_list graph asked back l c.args.bits.now) (drop_all (length c.args.list.now - 0) c.args.list.now (omega arith)));
      few = c.requires.few;
      noted = notes_none (λ n. ask_past graph.shared) None graph asked back c.args.list.now c.args.bits.now c.args.asks.now (length c.args.list.now - 0) (omega arith);
    }

pub loop-count-preserved : goal.loop-count-preserved
loop-count-preserved c =
    let graph = c.args.graph.now in
    let asked = asked_by graph.shared c.args.around.now in
    let back = back_in c.args.backs.now in
    let list = c.args.list.now in
    let n = slice_index_or list (length list - 1 - c.loop-count.count) 0 in
    let node = c.index-nodes-n.result in
    let at : slice_get list (length list - 1 - c.loop-count.count) ≡ Some n = slice_get-get_or list _ 0 (omega (arith, c.loop-count-test.true)) in
    let n_in : n < length graph.nodes = c.requires.nodes _ n at in
    let here : slice_get graph.nodes n ≡ Some node = node_at graph.nodes c.nodes-nodes.result.now n node c.nodes-nodes.ensures.value n_in c.index-nodes-n.is in
    record {
      bits = walked_more graph asked back list c.args.bits.now c.loop-count.bits c.pass_back.new.bits c.loop-count.count n node _ c.loop-count-test.true at here refl c.loop-count.invariant.bits c.pass_back.ensures;
      few = subst HasFew (sym c.pass_back.ensures) (through_few graph asked _ node c.loop-count.bits (asks_few graph.shared c.args.around.now) c.loop-count.invariant.few);
      noted = noted_more (λ n. ask_past graph.shared) None graph asked back list c.args.bits.now c.loop-count.bits c.args.asks.now c.loop-count.asks _ c.loop-count.count n _ node c.requires.block c.loop-count-test.true at here
          c.loop-count.invariant.bits c.loop-count.invariant.noted refl (omega (arith, n_in, c.loop-count.invariant.noted.long, c.requires.long)) (c.in_ok-asks.ensures ∙ ap (λ (s : ℕ). ask_past s (Some node) c.loop-count.bits) c.shared.ensures.value);
    }
