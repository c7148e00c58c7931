-- Laws: one round is at least as good as any one step: on each full path each plain or movable assignment stands in the
-- round's graph at most as often as after any admissible sinking and any removal of dead assignments. And where the round
-- leaves the layout as it is, no step leaves fewer on any path.
use Rattle.std.proofs.Common.{◌≡◌, ◌<◌, ◌≤◌, ℕ, false, count_by, List, [], ◌∷◌, length, sym, ap, ◌∙◌, subst, arith, append-nil}
use Rattle.std.proofs.lemmas.Bool.{false≢true}
use Rattle.mir_base.specs.declared.instructions.Rhs.{Rhs}
use Rattle.mir_base.specs.Expressions.{divides}
use Rattle.flow_graph.specs.Edges.{IsSplit}
use Rattle.flow_graph.specs.Graphs.{GraphShape, IsGraph}
use Rattle.flow_graph.specs.Layouts.{IsLaid, IsLayout}
use Rattle.flow_graph.specs.Paths.{IsFullPath, IsPath}
use Rattle.flow_graph.specs.Sums.{count_sums, one_if, sum_on}
use Rattle.graph_edit.specs.Insertions.{CanRewrite, Rewriting, rewritten, rewritten_nodes}
use Rattle.graph_edit.specs.Over.{IsOver, over_path}
use Rattle.graph_edit.specs.Accesses.{occurs_at}
use Rattle.dead_code.specs.Pruned.{IsDeadAt, pruned_from}
use Rattle.sink_rounds.specs.RoundGraphs.{HaveOneLayout, IsRound}
use Rattle.sink_code.specs.SunkGraphs.{sinking}
use Rattle.sink_rounds.proofs.BestAlong.{whole}
use Rattle.sink_rounds.proofs.Chains.{ones}
use Rattle.sink_rounds.proofs.Settled.{as_often}
use Rattle.sink_rounds.specs.StepLaws.{round_is_step, step_fits}
use Rattle.sink_rounds.specs.Steps.{HasNoFewer, IsBestStep, IsNoHeavier, IsNoWorse, IsStep}
use Rattle.sink_rounds.specs.Totals.{weighs_less}
use Rattle.sink_rounds.specs.Unpruned.{pruned_over}

module _ (graph : GraphShape) (is_graph : IsGraph graph.vars graph.received graph.nodes) where
  -- what stands on the path over a full path, as a sum along the path through the chains
  counted : (step : GraphShape) (is_step : IsStep graph step) (x : ℕ) (t : Rhs) (sinkable : divides t ≡ false) (path over : List ℕ) → IsOver graph.nodes step.nodes path over
      → count_by (occurs_at x t step) over ≡ sum_on (ones graph is_step.r x t sinkable is_step.dead) (over_path is_step.r.inserts (length graph.nodes) path)
  counted step is_step x t sinkable path over is =
      count_sums (occurs_at x t step) over
      ∙ ap (λ l. sum_on (λ n. one_if (occurs_at x t (record step { nodes = l }) n)) over) nodes
      ∙ ap (sum_on (ones graph is_step.r x t sinkable is_step.dead)) (pruned_over is_step.r graph is_step.dead (step_fits graph is_graph is_step.r is_step.late is_step.sinks) is_graph path over (subst (λ l. IsOver graph.nodes l path over) nodes is))
    where
      nodes : step.nodes ≡ pruned_from is_step.dead 0 (rewritten_nodes is_step.r graph.nodes)
      nodes = ap (λ (g : GraphShape). g.nodes) is_step.is

  module _ (split : IsSplit graph.nodes) (round : GraphShape) (is_round : IsRound graph round) where
    abbrev way : Rewriting
    way = sinking graph is_round.is_sunk.inserts

    abbrev is_one : IsStep graph round
    is_one = round_is_step graph is_graph split round is_round

    -- the marks of a round say of each kept node that it is not dead
    alive : (k : ℕ) → k < length (rewritten_nodes way graph.nodes) → is_round.is_pruned.dead k ≡ false → IsDeadAt (rewritten way [] graph) k → ⊥
    alive k lt kept is =
        let sunk = is_round.is_sunk.is in
        let is' : IsDeadAt is_round.sunk k = subst (λ g. IsDeadAt g k) (sym sunk) is in
        let lt' : k < length is_round.sunk.nodes = subst (λ (g : GraphShape). k < length g.nodes) (sym sunk) lt in
        false≢true (sym kept ∙ (is_round.is_pruned.dead_are k lt').1 is')

    -- along a full path
    sums : (step : GraphShape) (is_step : IsStep graph step) (x : ℕ) (t : Rhs) (sinkable : divides t ≡ false) (path : List ℕ) → IsFullPath graph.nodes path
        → sum_on (ones graph way x t sinkable is_round.is_pruned.dead) (over_path is_round.is_sunk.inserts (length graph.nodes) path) ≤ sum_on (ones graph is_step.r x t sinkable is_step.dead) (over_path is_step.r.inserts (length graph.nodes) path)
    sums step is_step x t sinkable [] full = absurd full.begins
    sums step is_step x t sinkable (n ∷ path) full =
        let begins : n ≡ 0 = full.begins in
        let less = whole graph is_graph split is_round.is_sunk.delayed is_round.is_sunk.inserts is_round.is_sunk.insertions is_round.is_pruned.dead alive is_step.r is_step.late is_step.sinks is_step.dead is_step.dead_are x t sinkable path (subst (λ m. IsPath graph.nodes (m ∷ path)) begins full.is_path) in
        let now = ap (λ m. sum_on (ones graph way x t sinkable is_round.is_pruned.dead) (over_path is_round.is_sunk.inserts (length graph.nodes) (m ∷ path))) begins in
        let was = ap (λ m. sum_on (ones graph is_step.r x t sinkable is_step.dead) (over_path is_step.r.inserts (length graph.nodes) (m ∷ path))) begins in
        omega (arith, less, now, was)

    -- one round is at least as good as any one step
    pub round_no_worse : (step : GraphShape) → IsStep graph step → IsNoWorse graph round step
    round_no_worse step is_step path over over' full is_over is_over' x t sinkable =
        let now = counted round is_one x t sinkable path over is_over in
        let was = counted step is_step x t sinkable path over' is_over' in
        let less = sums step is_step x t sinkable path full in
        omega (arith, now, was, less)

    abbrev after : GraphShape
    after = record (rewritten way [] graph) { nodes = pruned_from is_round.is_pruned.dead 0 (rewritten_nodes way graph.nodes) }

    -- where it leaves the layout as it is, no step leaves fewer of any assignment on any path
    pub settled_no_worse : graph.shared ≤ length graph.vars → IsGraph round.vars round.received round.nodes → HaveOneLayout graph round → (step : GraphShape) → IsStep graph step → HasNoFewer graph step
    settled_no_worse least is_graph' one step is_step path over' full is_over' x t sinkable =
        let was = counted step is_step x t sinkable path over' is_over' in
        let less = sums step is_step x t sinkable path full in
        let same = as_often graph is_graph least x t sinkable way is_round.is_pruned.dead fits.at_start one.unit.vars one.unit.body laid result one.of_first.laid path full in
        omega (arith, was, less, same, count_sums (occurs_at x t graph) path)
      where
        fits : CanRewrite way [] graph
        fits = step_fits graph is_graph is_one.r is_one.late is_one.sinks

        is_after : round ≡ after
        is_after = is_one.is

        laid : IsLaid graph.shared graph.vars graph.received (pruned_from is_round.is_pruned.dead 0 (rewritten_nodes way graph.nodes)) one.unit.vars one.unit.body
        laid =
            let whole : IsLayout after one.unit = subst (λ g. IsLayout g one.unit) is_after one.of_second in
            subst (λ v. IsLaid graph.shared v graph.received (pruned_from is_round.is_pruned.dead 0 (rewritten_nodes way graph.nodes)) one.unit.vars one.unit.body) (append-nil graph.vars) whole.laid

        result : IsGraph graph.vars graph.received (pruned_from is_round.is_pruned.dead 0 (rewritten_nodes way graph.nodes))
        result =
            let whole : IsGraph after.vars after.received after.nodes = subst (λ (g : GraphShape). IsGraph g.vars g.received g.nodes) is_after is_graph' in
            subst (λ v. IsGraph v graph.received (pruned_from is_round.is_pruned.dead 0 (rewritten_nodes way graph.nodes))) (append-nil graph.vars) whole

    -- so the assignments on a path weigh no more
    round_no_heavier : (step : GraphShape) → IsStep graph step → IsNoHeavier graph round step
    round_no_heavier step is_step weight free path over over' full is_over is_over' =
        weighs_less weight free round step over over' (λ x t sinkable. round_no_worse step is_step path over over' full is_over is_over' x t sinkable)

    -- so it is the best of all steps
    pub is_best : graph.shared ≤ length graph.vars → IsGraph round.vars round.received round.nodes → IsBestStep graph round
    is_best least is_graph' = record { is_step = round_is_step graph is_graph split round is_round; no_worse = round_no_worse; no_heavier = round_no_heavier; settled = settled_no_worse least is_graph' }
