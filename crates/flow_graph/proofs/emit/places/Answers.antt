use Rattle.std.proofs.Common.{sym, subst, length, [], ◌∷◌, slice_index_or}
use Rattle.std.proofs.lemmas.Option.{slice_get-get_or}
use Rattle.flow_graph.specs.declared.plan.Item.TheVariants.{Placed}
use Rattle.flow_graph.specs.Placing.{ItemsWithin}
use Rattle.flow_graph.proofs.Scans.{item_within}
use Rattle.flow_graph.proofs.emit.places.Goals as goal

pub set_place-requires : goal.set_place-requires
set_place-requires c =
    let here = slice_get-get_or c.args.items.now c.loop-item.item-index (Placed 0) c.loop-item-test.true in
    subst (λ n. ItemsWithin n (slice_index_or c.args.items.now c.loop-item.item-index (Placed 0) ∷ [])) (sym c.loop-item.invariant.are.long) (item_within (length c.args.nodes.now) c.args.items.now c.loop-item.item-index _ c.requires.items here)

pub item_size-place-requires : goal.item_size-place-requires
item_size-place-requires c =
    let here = slice_get-get_or c.args.items.now c.loop-item.item-index (Placed 0) c.loop-item-test.true in
    item_within (length c.args.nodes.now) c.args.items.now c.loop-item.item-index _ c.requires.items here
