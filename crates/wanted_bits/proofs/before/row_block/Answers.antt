use Rattle.std.proofs.Common.{◌<◌, ◌-◌, ◌∙◌, [], length, refl, subst, sym, ap, arith}
use Rattle.std.proofs.lemmas.List.{drop_all}
use Rattle.std.proofs.lemmas.Option.{slice_get-get_or}
use Rattle.wanted_bits.specs.Asking.{asked_by}
use Rattle.wanted_bits.specs.Before.{row_past}
use Rattle.wanted_bits.specs.BitsOrder.{HasFew}
use Rattle.wanted_bits.specs.Walking.{back_in, before_list}
use Rattle.wanted_bits.specs.WalkLaws.{asks_few, through_few}
use Rattle.wanted_bits.proofs.Noting.{noted_more, notes_none, walked_more}
use Rattle.wanted_bits.proofs.before.row_block.Goals as goal

pub loop-count-init : goal.loop-count-init
loop-count-init c =
    let graph = c.args.graph.now in
    let asked = asked_by graph.shared c.args.around.now in
    let back = back_in c.args.backs.now in
    record {
      bits = sym (ap (λ l. before_list graph asked back l c.args.bits.now) (drop_all (length c.args.list.now - 0) c.args.list.now (omega arith)));
      few = c.requires.few;
      noted = notes_none (row_past graph asked back) [] graph asked back c.args.list.now c.args.bits.now c.args.rows.now (length c.args.list.now - 0) (omega arith);
    }

pub loop-count-preserved : goal.loop-count-preserved
loop-count-preserved c =
    let graph = c.args.graph.now in
    let asked = asked_by graph.shared c.args.around.now in
    let back = back_in c.args.backs.now in
    let list = c.args.list.now in
    let at = slice_get-get_or list _ 0 (omega (arith, c.loop-count-test.true)) in
    let n_in : _ < length graph.nodes = c.requires.nodes _ _ at in
    record {
      bits = walked_more graph asked back list c.args.bits.now c.loop-count.bits c.pass_back.new.bits c.loop-count.count _ c.node-node.result.now _ c.loop-count-test.true at c.node-node.ensures refl c.loop-count.invariant.bits c.pass_back.ensures;
      few = subst HasFew (sym c.pass_back.ensures) (through_few graph asked _ c.node-node.result.now c.loop-count.bits (asks_few graph.shared c.args.around.now) c.loop-count.invariant.few);
      noted = noted_more (row_past graph asked back) [] graph asked back list c.args.bits.now c.loop-count.bits c.args.rows.now c.loop-count.rows _ c.loop-count.count _ _ c.node-node.result.now c.requires.block c.loop-count-test.true at c.node-node.ensures
          c.loop-count.invariant.bits c.loop-count.invariant.noted refl (omega (arith, n_in, c.loop-count.invariant.noted.long, c.requires.long)) (c.in_ok-rows.ensures ∙ c.pass_back.ensures);
    }

pub of-requires : goal.of-requires
of-requires c =
    let graph = c.args.graph.now in
    subst HasFew (sym c.pass_back.ensures) (through_few graph (asked_by graph.shared c.args.around.now) _ c.node-node.result.now c.loop-count.bits (asks_few graph.shared c.args.around.now) c.loop-count.invariant.few)
