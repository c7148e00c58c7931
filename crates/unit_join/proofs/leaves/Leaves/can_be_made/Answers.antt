use Rattle.std.proofs.Common.{◌≡◌, ◌∙◌, ◌≤◌, Some, length, slice_get, ap, sym, subst}
use Rattle.std.proofs.lemmas.Option.{slice_get-get_or}
use Rattle.flow_graph.specs.Graphs.{CanMake, SharesVars}
use Rattle.unit_join.proofs.MadeOfLeaves.{EntryCan, all_can, first_more, none_can, some_can}
use Rattle.unit_join.proofs.leaves.Leaves.can_be_made.Goals as goal
use Rattle.unit_join.proofs.leaves.Leaves.can_be_made.Goals.{in-Some, in-None}

pub loop-entry-preserved : goal.loop-entry-preserved
loop-entry-preserved c =
    let leaves = c.args.self.now.units in
    let i = c.loop-entry.entry-index in
    let entry = c.entry-item.result in
    let items = c.items-entry-items.result.now in
    let here : slice_get leaves i ≡ Some entry = ap (λ l. slice_get l i) (sym c.items-entry-items.ensures) ∙ slice_get-get_or items i entry c.loop-entry-test.true ∙ ap Some (sym c.entry-item.is) in
    first_more leaves i entry here (elim c.match-entry.branch [
      | in-Some w ↦
          let leaf = w.in-Some.leaf in
          subst EntryCan (sym w.in-Some.is) (some_can leaf (subst (CanMake leaf.vars leaf.received) w.nodes-nodes.ensures.value w.nodes-nodes.ensures.graph.can, subst (λ n. SharesVars n leaf.vars leaf.received) w.shared-shared.ensures.value w.shared-shared.ensures.shares))
      | in-None w ↦ subst EntryCan (sym w.in-None.is) none_can
    ]) c.loop-entry.invariant

pub returns : goal.returns
returns c = all_can c.args.self.now.units c.loop-entry.entry-index (subst (λ l. length l ≤ c.loop-entry.entry-index) c.items-entry-items.ensures c.loop-entry-test.false) c.loop-entry.invariant
