use Rattle.std.proofs.Common.{◌≡◌, ◌<◌, ◌∙◌, ◌++◌, ◌∷◌, [], ap, sym, subst, refl, arith, length, reverse, Some}
use Rattle.flow_graph.specs.Plans.{IsPlan, next_item}
use Rattle.flow_graph.specs.Placing.{AreClosed, ArePlaced, ItemsWithin, plan_weight}
use Rattle.flow_graph.proofs.Scans.{next_within, placed_more, plan_lighter, plan_begins, within_append, reverse_more, closed_stays}
use Rattle.flow_graph.proofs.plan.plan.Goals as goal

pub loop-item-init : goal.loop-item-init
loop-item-init c = record {
  is_plan = subst (λ l. IsPlan c.args.nodes.now c.args.first (reverse l)) (sym c.in_ok-items.ensures.items) tt;
  within = subst (ItemsWithin (length c.args.nodes.now)) (sym c.in_ok-items.ensures.items) tt;
  placed = plan_begins c.args.nodes.now c.in_ok-placed.placed.items c.in_ok-items.items.items c.in_ok-placed.ensures c.in_ok-items.ensures.items;
  closed = subst (λ l. AreClosed c.args.nodes.now l 0) (sym c.in_ok-items.ensures.items) (record { few = omega arith; none = refl });
}

pub add-requires : goal.add-requires
add-requires c =
    let inv = c.loop-item.invariant in
    let e : next_item c.args.nodes.now c.args.first (reverse c.loop-item.items.items) ≡ Some c.in-Some.item = ap (λ l. next_item c.args.nodes.now c.args.first (reverse l)) (sym c.as_slice.ensures.value) ∙ sym c.in-Some.ensures.item in
    subst (λ n. ItemsWithin n (c.in-Some.item ∷ [])) (sym inv.placed.long) (next_within c.args.nodes.now c.args.first (reverse c.loop-item.items.items) c.in-Some.item c.requires.within c.requires.first e)

pub loop-item-smaller : goal.loop-item-smaller
loop-item-smaller c =
    let inv = c.loop-item.invariant in
    let e : next_item c.args.nodes.now c.args.first (reverse c.loop-item.items.items) ≡ Some c.in-Some.item = ap (λ l. next_item c.args.nodes.now c.args.first (reverse l)) (sym c.as_slice.ensures.value) ∙ sym c.in-Some.ensures.item in
    let w = next_within c.args.nodes.now c.args.first (reverse c.loop-item.items.items) c.in-Some.item c.requires.within c.requires.first e in
    let more = ap reverse c.in_ok-add.ensures.items ∙ reverse_more c.loop-item.items.items c.in-Some.item in
    subst (λ l. plan_weight c.add.new.placed.items l < plan_weight c.loop-item.placed.items (reverse c.loop-item.items.items)) (sym more) (plan_lighter c.args.nodes.now c.args.first c.loop-item.placed.items c.add.new.placed.items (reverse c.loop-item.items.items) c.in-Some.item inv.placed w e c.in_ok-add.ensures.placed)

pub loop-item-preserved : goal.loop-item-preserved
loop-item-preserved c =
    let inv = c.loop-item.invariant in
    let nodes = c.args.nodes.now in
    let e : next_item nodes c.args.first (reverse c.loop-item.items.items) ≡ Some c.in-Some.item = ap (λ l. next_item nodes c.args.first (reverse l)) (sym c.as_slice.ensures.value) ∙ sym c.in-Some.ensures.item in
    let w = next_within nodes c.args.first (reverse c.loop-item.items.items) c.in-Some.item c.requires.within c.requires.first e in
    let more = ap reverse c.in_ok-add.ensures.items ∙ reverse_more c.loop-item.items.items c.in-Some.item in
    record {
      is_plan = subst (IsPlan nodes c.args.first) (sym more) (e, inv.is_plan);
      within = subst (ItemsWithin (length nodes)) (sym c.in_ok-add.ensures.items) (within_append (length nodes) c.loop-item.items.items (c.in-Some.item ∷ []) inv.within w);
      placed = subst (ArePlaced nodes c.add.new.placed.items) (sym more) (placed_more nodes c.loop-item.placed.items c.add.new.placed.items (reverse c.loop-item.items.items) c.in-Some.item inv.placed w c.in_ok-add.ensures.placed);
      closed = closed_stays nodes c.as_slice.result.now c.add.new.items.items c.in-Some.item c.next.new.closed c.next.ensures.closed (c.in_ok-add.ensures.items ∙ ap (λ l. l ++ c.in-Some.item ∷ []) (sym c.as_slice.ensures.value));
    }
