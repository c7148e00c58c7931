use Rattle.std.proofs.Common.{◌≡◌, ℕ, List, length, take, sym, subst, arith}
use Rattle.flow_graph.specs.Graphs.{IsGraph}
use Rattle.mir_base.specs.Shapes.{AllDiffer}
use Rattle.std.proofs.lemmas.List.{take_all}
use Rattle.path_laws.specs.FalseRows.{false_rows}
use Rattle.latest_place.specs.Parts.{IsLazyAmong}
use Rattle.latest_place.specs.SplitFacts.{split_facts}
use Rattle.latest_place.proofs.Joined.{lazy_among_all, lazy_among_none, left_differ, right_differ, take_split}
use Rattle.latest_place.proofs.Staying.{stays_lazy}
use Rattle.latest_place.proofs.parts.joined_parts.Goals as goal

pub loop-done-init : goal.loop-done-init
loop-done-init g c = record {
  within = omega arith;
  placed = lazy_among_none (g.R.DownRule.is_down c.args.rule.now) c.args.graph.now c.args.table.now _
      (false_rows (length c.args.graph.now.nodes) (length c.args.table.now) c.in_ok-new.field-0 (rw (← c.len.ensures, ← c.len-2.ensures.len) c.in_ok-new.ensures))
      (false_rows (length c.args.graph.now.nodes) (length c.args.table.now) c.in_ok-new-2.field-0 (rw (← c.len-3.ensures, ← c.len-4.ensures.len) c.in_ok-new-2.ensures));
}

pub add_part-requires-clause-differ : goal.add_part-requires-clause-differ
add_part-requires-clause-differ g c =
    let numbers = c.args.numbers.now in
    let done = c.loop-done.done in
    right_differ (take done numbers) _ (subst AllDiffer (take_split numbers done c.min-end.result (omega (arith, c.loop-done-test.true, c.saturating_add.ensures, c.min-end.ensures))) (left_differ numbers c.min-end.result c.requires.numbers.differ))

pub loop-done-preserved : goal.loop-done-preserved
loop-done-preserved g c =
    let numbers = c.args.numbers.now in
    let done = c.loop-done.done in
    let end = c.min-end.result in
    let split = take_split numbers done end (omega (arith, c.loop-done-test.true, c.saturating_add.ensures, c.min-end.ensures)) in
    record {
      within = omega (arith, c.min-end.ensures);
      placed = subst (λ (list : List ℕ). IsLazyAmong (g.R.DownRule.is_down c.args.rule.now) c.args.graph.now c.args.table.now list c.add_part.new.placement) (sym split)
          (c.in_ok-add_part.ensures (take done numbers) (subst AllDiffer split (left_differ numbers end c.requires.numbers.differ)) c.loop-done.invariant.placed);
    }

pub returns : goal.returns
returns g c =
    let graph = c.args.graph.now in
    let is_graph : IsGraph graph.vars graph.received graph.nodes = rw (← c.nodes-nodes.ensures.value) c.nodes-nodes.ensures.graph in
    let numbers = c.args.numbers.now in
    let all : take c.loop-done.done numbers ≡ numbers = take_all c.loop-done.done numbers c.loop-done-test.false in
    lazy_among_all (g.R.DownRule.is_down c.args.rule.now) graph c.args.table.now numbers c.loop-done.placement
    (subst (λ (list : List ℕ). IsLazyAmong (g.R.DownRule.is_down c.args.rule.now) graph c.args.table.now list c.loop-done.placement) all c.loop-done.invariant.placed)
    (λ i e at none.
    let once = c.requires.numbers.others i e at none in
    stays_lazy graph (split_facts graph is_graph c.requires.split) e (g.R.DownRule.is_down c.args.rule.now graph e) (g.met.R.DownRule.laws c.args.rule.now graph is_graph c.requires.split e) once.0 once.1)
