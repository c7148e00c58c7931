-- Law: where the rounds of a split graph come to rest, no list of steps from the graph, of any length, leaves fewer of a
-- plain or movable assignment on any full path than the last of them does. For proofs only.
use Rattle.std.proofs.Common.{◌≡◌, ◌+◌, ◌≤◌, ℕ, zero, suc, Bool, true, nat_lt, filter, count_by, List, [], ◌∷◌, length, flat_map, reverse, slice_get, Option, Some, None, refl, sym, ap, ◌∙◌, subst, arith, append-nil}
use Rattle.std.proofs.lemmas.Bool.{eq-eqb, false≢true}
use Rattle.std.proofs.lemmas.List.{reverse-append, reverse-reverse}
use Rattle.std.proofs.lemmas.Option.{slice_get_within}
use Rattle.mir_base.specs.declared.instructions.Rhs.{Rhs}
use Rattle.flow_graph.specs.declared.nodes.Node.{Node}
use Rattle.flow_graph.specs.declared.nodes.Node.TheVariants.{Start, Skip, Assign, Print, Guard, Call, Test, Return}
use Rattle.flow_graph.specs.Edges.{IsSplit}
use Rattle.flow_graph.specs.Graphs.{GraphShape, IsGraph}
use Rattle.flow_graph.specs.PathLaws.{path_trace}
use Rattle.flow_graph.specs.Paths.{IsFullPath, is_return}
use Rattle.flow_graph.specs.Sums.{count_sums, one_if, sum_on, sum_reverse}
use Rattle.graph_edit.specs.Accesses.{occurs_at}
use Rattle.graph_edit.specs.Insertions.{Insertion}
use Rattle.graph_edit.specs.OccurrenceLaws.{occurrence_is}
use Rattle.graph_edit.specs.Over.{IsOver}
use Rattle.sink_code.specs.RoundKept.{RoundKeeps}
use Rattle.sink_rounds.specs.RoundGraphs.{AreRounds, AreRoundsFrom, HaveOneLayout, IsRound, last_round}
use Rattle.sink_rounds.specs.RoundsKept.{RoundsKeep}
use Rattle.sink_rounds.specs.Steps.{IsNoWorse}
use Rattle.sink_rounds.specs.StepLaws.{round_is_step}
use Rattle.sink_rounds.specs.Totals.{weighs_less}
use Rattle.path_images.specs.Counts.{how_many, no_fewer}
use Rattle.path_images.specs.Images.{Sets}
use Rattle.sink_best.specs.Chains.{pattern}
use Rattle.sink_best.specs.GraphWalks.{IsWalk, firm_at, graph_does, is_firm, node_does}
use Rattle.sink_best.specs.Lists.{AreBestAtRest, AreSteps, ComeToRest, IsBestOfLists, no_step, one_more}
use Rattle.sink_best.specs.Made.{Above, Made, Rests, itself, itself_above, step_more}
use Rattle.sink_best.specs.NoPassing.{no_passing}
use Rattle.sink_best.specs.Orbits.{nothing_dead}
use Rattle.sink_best.specs.Over.{filter_both}
use Rattle.sink_best.specs.Rest.{rests}

-- ---- counts

-- how many nodes are so is the sum of 1 for each of them
many_sums : (so : ℕ → Bool) (l : List ℕ) → how_many so l ≡ sum_on (λ n. one_if (so n)) l
many_sums so [] = refl
many_sums so (n ∷ l) = ap (λ k. one_if (so n) + k) (many_sums so l)

-- a Return is firm
return_firm : (o : Option Node) → is_return o ≡ true → is_firm o ≡ true
return_firm None e = absurd (false≢true e)
return_firm (Some (Start next)) e = absurd (false≢true e)
return_firm (Some (Skip next)) e = absurd (false≢true e)
return_firm (Some (Assign x rhs next)) e = absurd (false≢true e)
return_firm (Some (Print a next)) e = absurd (false≢true e)
return_firm (Some (Guard test number next)) e = absurd (false≢true e)
return_firm (Some (Call into unit operands next)) e = absurd (false≢true e)
return_firm (Some (Test test taken other)) e = absurd (false≢true e)
return_firm (Some (Return a)) e = refl

module _ (source : GraphShape) (is_source : IsGraph source.vars source.received source.nodes) where
  -- all that lists of steps make stays above what is at rest
  record MadeAbove (still : GraphShape) (z : Made source is_source still) (made : GraphShape) : Type 0 where
    m : Made source is_source made
    above : Above source is_source made still m z

  above_all : (still : GraphShape) (z : Made source is_source still) → Rests source is_source still z
      → (made : GraphShape) → AreSteps source made → MadeAbove still z made
  above_all still z at_rest made no_step = record { m = itself source is_source; above = itself_above source is_source still z }
  above_all still z at_rest made (one_more between result steps step) =
      let r = above_all still z at_rest between steps in
      let o = step_more source is_source between made r.m step in
      record { m = o.is; above = o.keeps still z at_rest r.above }

  module _ (still : GraphShape) (z : Made source is_source still) (at_rest : Rests source is_source still z) (made : GraphShape) (steps : AreSteps source made) where
    occurs_sets : (g : GraphShape) (x : ℕ) (t : Rhs) (k : ℕ) → occurs_at x t g k ≡ true → graph_does g (Sets x) k ≡ true
    occurs_sets g x t k is = (let w = occurrence_is x t (slice_get g.nodes k) is in ap (node_does g (Sets x)) w.1 ∙ eq-eqb x x refl)

    -- so it has each assignment at least as often
    fewer_at_rest : (path mine theirs : List ℕ) → IsFullPath source.nodes path
        → IsOver source.nodes still.nodes path mine → IsOver source.nodes made.nodes path theirs → (x : ℕ) (t : Rhs)
        → count_by (occurs_at x t still) mine ≤ count_by (occurs_at x t made) theirs
    fewer_at_rest path mine theirs full is_mine is_theirs x t =
        let r = above_all still z at_rest made steps in
        let some = slice_get_within source.nodes 0 (Start is_source.can.start.0) is_source.can.start.1 in
        let tr = path_trace source.nodes some (λ m slot s edge. (is_source.can.succs m slot s edge).1) path full.last full.is_path full.begins full.ends in
        let back : reverse path ≡ full.last ∷ tr.0 = ap reverse tr.2 ∙ reverse-append (reverse tr.0) (full.last ∷ []) ∙ ap (λ l. full.last ∷ l) (reverse-reverse tr.0) in
        let fewer = no_fewer Insertion (IsWalk source.nodes) (graph_does source) (firm_at source.nodes) z.over (graph_does still) z.from z.image r.m.over (graph_does made) r.m.from r.m.image r.above
        (full.last ∷ tr.0) full.last tr.0 refl (return_firm (slice_get source.nodes full.last) full.returns) tr.1 (pattern x t) x (occurs_sets still x t) (occurs_sets made x t) in
        let one : count_by (occurs_at x t still) mine ≡ how_many (occurs_at x t still) (flat_map z.over (full.last ∷ tr.0)) =
        count_sums (occurs_at x t still) mine ∙ ap (sum_on (λ n. one_if (occurs_at x t still n))) (z.one_over path mine is_mine ∙ ap (λ l. reverse (flat_map z.over l)) back)
        ∙ sum_reverse (λ n. one_if (occurs_at x t still n)) (flat_map z.over (full.last ∷ tr.0)) ∙ sym (many_sums (occurs_at x t still) (flat_map z.over (full.last ∷ tr.0))) in
        let two : count_by (occurs_at x t made) theirs ≡ how_many (occurs_at x t made) (flat_map r.m.over (full.last ∷ tr.0)) =
        count_sums (occurs_at x t made) theirs ∙ ap (sum_on (λ n. one_if (occurs_at x t made n))) (r.m.one_over path theirs is_theirs ∙ ap (λ l. reverse (flat_map r.m.over l)) back)
        ∙ sum_reverse (λ n. one_if (occurs_at x t made n)) (flat_map r.m.over (full.last ∷ tr.0)) ∙ sym (many_sums (occurs_at x t made) (flat_map r.m.over (full.last ∷ tr.0))) in
        omega (arith, fewer, one, two)

  -- ---- the last round

  module _ (still : GraphShape) (z : Made source is_source still) (split : IsSplit still.nodes) (least : still.shared ≤ length still.vars) (round : GraphShape) (is_round : IsRound still round) (keeps : RoundKeeps still round) (one : HaveOneLayout still round) where
    at_rest : Rests source is_source still z
    at_rest = rests source is_source still z (nothing_dead still z.is_graph split round is_round least one) (no_passing still z.is_graph split round is_round least one)

    last_no_worse : (other : GraphShape) → AreSteps source other → IsNoWorse source round other
    last_no_worse other steps path over over' full is_over is_over' x t sinkable =
        let mid = filter (λ n. nat_lt n (length still.nodes)) over in
        let full_mid = keeps.no_more.lies_over over is_over.full in
        let no_more = keeps.no_more.each_over mid full_mid in
        let same = no_more.alone over (record { full = is_over.full; same = refl }) in
        let less = no_more.no_more x t sinkable in
        let is_mid : IsOver source.nodes still.nodes path mid = record { full = full_mid; same = filter_both (length source.nodes) (length still.nodes) z.more over ∙ is_over.same } in
        let fewer = fewer_at_rest still z at_rest other steps path mid over' full is_mid is_over' x t in
        let moved = ap (count_by (occurs_at x t round)) same in
        omega (arith, less, fewer, moved)

    last_is_best : IsBestOfLists source round
    last_is_best = record {
      no_worse = last_no_worse;
      no_heavier = λ other steps weight free path over over' full is_over is_over'. weighs_less weight free round other over over' (λ x t sinkable. last_no_worse other steps path over over' full is_over is_over' x t sinkable);
    }

  -- on from a graph that rounds have made
  from_here : (more : ℕ) (still next : GraphShape) (rest : List GraphShape) (z : Made source is_source still)
      → IsSplit still.nodes → still.shared ≤ length still.vars → AreRoundsFrom more still next rest
      → RoundsKeep still (next ∷ rest) → ComeToRest still (next ∷ rest)
      → IsBestOfLists source (last_round still (next ∷ rest))
  from_here more still next [] z split least are keep one = last_is_best still z split least next are.0 keep.0 one
  from_here zero still next (later ∷ rest) z split least are keep come = absurd are
  from_here (suc more) still next (later ∷ rest) z split least are keep come =
      let step = round_is_step still z.is_graph split next are.0 in
      let o = step_more source is_source still next z step in
      let least_next : next.shared ≤ length next.vars = subst (λ (g : GraphShape). g.shared ≤ length g.vars) (sym step.is) (subst (λ v. still.shared ≤ length v) (sym (append-nil still.vars)) least) in
      from_here more next later rest o.is keep.0.is_split least_next are.1.1 keep.1 come

-- where the rounds of a split graph come to rest, the last is the best of all that lists of steps make of the graph
pub best_at_rest : (graph : GraphShape) → IsGraph graph.vars graph.received graph.nodes
    → graph.shared ≤ length graph.vars → IsSplit graph.nodes → (rounds : List GraphShape) → AreRounds graph rounds
    → RoundsKeep graph rounds → AreBestAtRest graph rounds
best_at_rest graph is_graph least split [] are keep come = absurd come
best_at_rest graph is_graph least split (next ∷ rest) are keep come = from_here graph is_graph 15 graph next rest (itself graph is_graph) split least are keep come
