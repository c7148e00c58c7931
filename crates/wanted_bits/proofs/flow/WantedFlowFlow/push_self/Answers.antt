use Rattle.std.proofs.Common.{◌≡◌, ◌∙◌, ◌++◌, ℕ, List, drop, length, refl, sym, ap, subst, take}
use Rattle.fix_solve.specs.Order.{IsLeastUpper}
use Rattle.node_list.specs.Lists.{list_at}
use Rattle.flow_graph.specs.FlowEdges.{edge_at}
use Rattle.wanted_bits.specs.Asking.{asked_by}
use Rattle.wanted_bits.specs.WalkLaws.{asks_few}
use Rattle.wanted_bits.specs.BitsOrder.{BelowLists, HasFew, joined_bits}
use Rattle.wanted_bits.specs.Walking.{back_in, before_list}
use Rattle.wanted_bits.specs.WantedNet.{capped}
use Rattle.wanted_bits.proofs.Pushing.{passed_few, passed_long, push_joins}
use Rattle.wanted_bits.specs.JoinedBits.{joined_few, joined_long}
use Rattle.wanted_bits.proofs.Raising.{written_back}
use Rattle.wanted_bits.proofs.flow.WantedFlowFlow.push_self.Given.{Over}
use Rattle.wanted_bits.proofs.flow.WantedFlowFlow.push_self.Goals as goal
use Rattle.wanted_bits.proofs.flow.WantedFlowFlow.push_self.Goals.{After-pass, After-raise_each}

module _ (g : Over) (c : After-pass g) where
  -- the nodes of the block that the edge leaves
  abbrev list : List ℕ
  list = list_at c.args.self.now.blocks.now.lists (edge_at c.args.self.now.between.now.edges.items c.args.number).source

  -- there are equally many numbers
  long : length c.value.inside.bits.items ≡ length c.value.inside.bits.items
  long = refl

  -- what is left in the room
  passed_is : c.pass.new.room.items ≡ before_list c.args.self.now.graph.now (asked_by c.args.self.now.graph.now.shared c.args.self.now.around.now) (back_in c.args.self.now.backs.now) list c.value.inside.bits.items
  passed_is = c.pass.ensures.passed ∙ ap (before_list c.args.self.now.graph.now (asked_by c.args.self.now.graph.now.shared c.args.self.now.around.now) (back_in c.args.self.now.backs.now) list) c.as_slice.ensures.value

  room_long : length c.pass.new.room.items ≡ length c.value.inside.bits.items
  room_long = passed_long c.args.self.now.graph.now (asked_by c.args.self.now.graph.now.shared c.args.self.now.around.now) (asks_few c.args.self.now.graph.now.shared c.args.self.now.around.now) (back_in c.args.self.now.backs.now) list c.value.inside.bits.items c.value.inside.bits.items c.pass.new.room.items passed_is long c.value.invariant.0

pub raise_each-requires : goal.raise_each-requires
raise_each-requires g c =
    let known = (goal.at.raise_each-requires g c).After-pass in
    ap length c.as_slice-2.ensures.value ∙ room_long g known ∙ sym (ap length c.as_mut_slice.ensures.value)

module _ (g : Over) (c : After-raise_each g) where
  abbrev known : After-pass g
  known = (goal.at.After-raise_each g c).After-pass

  -- what is written is the join
  joined : c.raise_each.new.bits ≡ joined_bits c.value.inside.bits.items c.pass.new.room.items
  joined = c.raise_each.ensures.joined ∙ ap (λ l. joined_bits l c.as_slice-2.result.now) c.as_mut_slice.ensures.value ∙ ap (joined_bits c.value.inside.bits.items) c.as_slice-2.ensures.value

  joined_as_long : length c.raise_each.new.bits ≡ length c.value.inside.bits.items
  joined_as_long = ap length joined ∙ joined_long c.value.inside.bits.items c.pass.new.room.items (room_long g known)

  written : take c.value.inside.bits.len (c.raise_each.new.bits ++ drop (length c.raise_each.new.bits) c.value.inside.bits.items) ≡ joined_bits c.value.inside.bits.items c.pass.new.room.items
  written = written_back c.value.inside.bits.len c.raise_each.new.bits c.value.inside.bits.items joined_as_long (sym c.value.inside.bits.ok.0) ∙ joined

pub invariant_of-value : goal.invariant_of-value
invariant_of-value g c =
    let after = (goal.at.invariant_of-value g c).After-raise_each in
    let before = known g after in
    let few = passed_few c.args.self.now.graph.now (asked_by c.args.self.now.graph.now.shared c.args.self.now.around.now) (asks_few c.args.self.now.graph.now.shared c.args.self.now.around.now) (back_in c.args.self.now.backs.now) (list g before) c.value.inside.bits.items c.value.inside.bits.items c.pass.new.room.items (passed_is g before) (long g before) c.value.invariant.0 in (
      subst HasFew (sym (written g after)) (joined_few c.value.inside.bits.items c.pass.new.room.items (room_long g before) c.value.invariant.0 few),
      few,
      room_long g before ∙ sym (ap length (written g after) ∙ joined_long c.value.inside.bits.items c.pass.new.room.items (room_long g before)),
    )

pub returns-clause-joined : goal.returns-clause-joined
returns-clause-joined g c =
    let after = (goal.at.returns-clause-joined g c).After-raise_each in
    let before = known g after in
    let graph = c.args.self.now.graph.now in
    let asked = asked_by graph.shared c.args.self.now.around.now in
    let back = back_in c.args.self.now.backs.now in
    let new = joined_bits c.value.inside.bits.items c.pass.new.room.items in
    subst (λ z. IsLeastUpper BelowLists c.args.value.now (capped (before_list graph asked back (list g before) c.args.value.now)) z) (sym (written g after))
    (subst (λ y. IsLeastUpper BelowLists y (capped (before_list graph asked back (list g before) y)) new) c.value.view_is
    (push_joins graph asked (asks_few graph.shared c.args.self.now.around.now) back (list g before) c.value.inside.bits.items c.value.inside.bits.items c.pass.new.room.items (passed_is g before) (long g before) c.value.invariant.0 c.value.invariant.0))
