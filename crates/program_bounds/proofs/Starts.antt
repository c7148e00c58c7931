-- What is known at first is surer than all that serves.
use Rattle.std.proofs.Common.{◌≡◌, inl, inr, ℕ, zero, suc, ◌+◌, ◌<◌, List, [], ◌∷◌, length, map, pos, replicate, slice_get, Some, refl, sym, ap, ◌∙◌, subst, arith}
use Rattle.std.proofs.lemmas.Bool.{cases_lt}
use Rattle.std.proofs.lemmas.List.{get_or_past, length-append, length-map, length-replicate}
use Rattle.std.proofs.lemmas.Option.{same_Some}
use Rattle.fix_solve.specs.Pointwise.{Pointwise}
use Rattle.flow_graph.specs.Graphs.{GraphShape}
use Rattle.flow_graph.specs.ListLaws.{some_at}
use Rattle.bounds.specs.declared.facts.Fact.{Fact}
use Rattle.bounds.specs.declared.facts.Fact.TheVariants.{Never, Fixed}
use Rattle.bounds.specs.BoundRuleLaws.{bound_laws}
use Rattle.bounds.specs.Edges.{anything}
use Rattle.bounds.specs.Facts.{BelowFact}
use Rattle.cond_flow.specs.StateLaws.{unreached_below}
use Rattle.cond_flow.specs.States.{BelowState, NodeState, Unreached, Knows, is_reached, size_of}
use Rattle.program_bounds.specs.Facts.{AreRows, AreServed, BelowRows, ProgramFacts, first_facts, row_at}
use Rattle.program_bounds.specs.Sweeps.{AreFirstEntries, AreNeverBacks, IsProgress, StaySized, row_joined}
use Rattle.program_bounds.proofs.LessKnown.{never_below}
use Rattle.program_bounds.proofs.Raises.{row_has, row_least, row_sized}
use Rattle.program_bounds.proofs.Rows.{reached_known}

-- the row of a graph
row_map : (f : GraphShape → NodeState Fact) (graphs : List GraphShape) (u : ℕ) (graph : GraphShape) → slice_get graphs u ≡ Some graph → row_at (map f graphs) u ≡ f graph
row_map f [] u graph at = absurd (cc)
row_map f (g ∷ graphs) zero graph at = ap f (same_Some g graph at)
row_map f (g ∷ graphs) (suc u) graph at = row_map f graphs u graph at

-- rows made of graphs are below others where they are so for each graph
rows_below : (f : GraphShape → NodeState Fact) (graphs : List GraphShape) (tops : List (NodeState Fact)) → length tops ≡ length graphs → ((u : ℕ) (graph : GraphShape) → slice_get graphs u ≡ Some graph → BelowState BelowFact (f graph) (row_at tops u)) → BelowRows (map f graphs) tops
rows_below f graphs tops long each u = elim (cases_lt u (length graphs)) as (λ _. BelowState BelowFact (row_at (map f graphs) u) (row_at tops u)) [
  | inl lt ↦ let g = some_at graphs u lt in subst (λ s. BelowState BelowFact s (row_at tops u)) (sym (row_map f graphs u g.0 g.1)) (each u g.0 g.1)
  | inr ge ↦
      let past : row_at (map f graphs) u ≡ Unreached 0 = get_or_past (map f graphs) u (Unreached 0) (omega (arith, ge, length-map graphs f)) in
      let past' : row_at tops u ≡ Unreached 0 = get_or_past tops u (Unreached 0) (omega (arith, ge, long)) in
      subst (λ s. BelowState BelowFact s (row_at tops u)) (sym past) (subst (BelowState BelowFact (Unreached 0)) (sym past') refl)
]

-- a map of a map
map_map : (g : GraphShape → List Fact) (graphs : List GraphShape) → map Knows (map g graphs) ≡ map (λ x. Knows (g x)) graphs
map_map g [] = refl
map_map g (x ∷ graphs) = ap (λ l. Knows (g x) ∷ l) (map_map g graphs)

module _ (graphs : List GraphShape) (some : 0 < length graphs) (entries : List (NodeState Fact)) (backs : List (List Fact)) (first : AreFirstEntries graphs entries) (never : AreNeverBacks graphs backs) where
  -- no unit is entered, and none returns
  abbrev entry_of : GraphShape → NodeState Fact
  entry_of g = Unreached (g.shared + length g.received)

  abbrev back_of : GraphShape → NodeState Fact
  back_of g = Knows (replicate (suc g.shared) Never)

  abbrev head : GraphShape
  head = (some_at graphs 0 some).0

  abbrev begins : List Fact
  begins = first_facts (some_at graphs 0 some).0.shared (length (some_at graphs 0 some).0.received)

  entries_are : entries ≡ row_joined first.0 0 (first_facts (some_at graphs 0 some).0.shared (length (some_at graphs 0 some).0.received))
  entries_are = first.2 (some_at graphs 0 some).0 (some_at graphs 0 some).1

  others_are : first.0 ≡ map (λ (g : GraphShape). Unreached (g.shared + length g.received)) graphs
  others_are = first.1

  backs_are : map Knows backs ≡ map (λ (g : GraphShape). Knows (replicate (suc g.shared) Never)) graphs
  backs_are = ap (map Knows) never ∙ map_map (λ g. replicate (suc g.shared) Never) graphs

  others_fit : AreRows graphs (λ g. g.shared + length g.received) first.0
  others_fit = record {
    long = ap (λ (l : List (NodeState Fact)). length l) others_are ∙ length-map graphs (λ (g : GraphShape). Unreached (g.shared + length g.received));
    each = λ u graph at. ap (λ l. size_of (row_at l u)) others_are ∙ ap size_of (row_map (λ (g : GraphShape). Unreached (g.shared + length g.received)) graphs u graph at);
  }

  backs_fit : AreRows graphs (λ g. suc g.shared) (map Knows backs)
  backs_fit = record {
    long = ap (λ (l : List (NodeState Fact)). length l) backs_are ∙ length-map graphs (λ (g : GraphShape). Knows (replicate (suc g.shared) Never));
    each = λ u graph at. ap (λ l. size_of (row_at l u)) backs_are ∙ ap size_of (row_map (λ (g : GraphShape). Knows (replicate (suc g.shared) Never)) graphs u graph at) ∙ length-replicate (suc graph.shared) Never;
  }

  lt : 0 < length first.0
  lt = omega (arith, some, others_fit.long)

  long : length (first_facts (some_at graphs 0 some).0.shared (length (some_at graphs 0 some).0.received)) ≡ size_of (row_at first.0 0)
  long =
      let g = (some_at graphs 0 some).0 in
      length-append (replicate g.shared (Fixed (pos 0))) (replicate (length g.received) anything) ∙ ap (λ n. n + length (replicate (length g.received) anything)) (length-replicate g.shared (Fixed (pos 0))) ∙ ap (λ n. g.shared + n) (length-replicate (length g.received) anything)
      ∙ sym (others_fit.each 0 g (some_at graphs 0 some).1)

  stay : StaySized first.0 entries
  stay = subst (StaySized first.0) (sym entries_are) (row_sized first.0 0 begins lt long)

  module _ (tops : ProgramFacts) (served : AreServed graphs tops) where
    others_below : BelowRows first.0 tops.entries
    others_below = subst (λ l. BelowRows l tops.entries) (sym others_are) (rows_below (λ (g : GraphShape). Unreached (g.shared + length g.received)) graphs tops.entries served.fit.entries.long
        (λ u graph at. unreached_below bound_laws.order (graph.shared + length graph.received) (row_at tops.entries u) (sym (served.fit.entries.each u graph at))))

    entries_below : BelowRows entries tops.entries
    entries_below = subst (λ l. BelowRows l tops.entries) (sym entries_are) (row_least first.0 0 begins lt long tops.entries others_below (served.first (some_at graphs 0 some).0 (some_at graphs 0 some).1))

    backs_below : BelowRows (map Knows backs) tops.backs
    backs_below = subst (λ l. BelowRows l tops.backs) (sym backs_are) (rows_below (λ (g : GraphShape). Knows (replicate (suc g.shared) Never)) graphs tops.backs served.fit.backs.long
        (λ u graph at.
        let row = reached_known (row_at tops.backs u) (served.fit.returns u graph at) in
        let size : length row.0 ≡ suc graph.shared = sym (ap size_of row.1) ∙ served.fit.backs.each u graph at in
        subst (BelowState BelowFact (Knows (replicate (suc graph.shared) Never))) (sym row.1) (subst (λ n. Pointwise BelowFact (replicate n Never) row.0) size (never_below row.0))))

  pub start_progress : IsProgress graphs (record { entries = entries; backs = map Knows backs })
  start_progress = record {
    fit = record {
      entries = record { long = stay.0 ∙ others_fit.long; each = λ u graph at. stay.1 u ∙ others_fit.each u graph at };
      backs = backs_fit;
      returns = λ u graph at. ap (λ l. is_reached (row_at l u)) backs_are ∙ ap is_reached (row_map (λ (g : GraphShape). Knows (replicate (suc g.shared) Never)) graphs u graph at);
    };
    first = λ graph at.
        let same : (some_at graphs 0 some).0 ≡ graph = same_Some _ graph (sym (some_at graphs 0 some).1 ∙ at) in
        subst (λ (g : GraphShape). BelowState BelowFact (Knows (first_facts g.shared (length g.received))) (row_at entries 0)) same
        (subst (λ l. BelowState BelowFact (Knows begins) (row_at l 0)) (sym entries_are) (row_has first.0 0 begins lt long));
    below = λ tops served. record { entries = entries_below tops served; backs = backs_below tops served };
  }
