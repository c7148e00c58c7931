-- The rounds of a linked trail: the graph before each is split, each is one of the graph before it, and the nodes that
-- it makes Skips are the dead assignments.
use Rattle.std.proofs.Common.{◌≡◌, ◌↔◌, inl, inr, ℕ, zero, suc, ◌+◌, ◌<◌, Bool, true, false, ◌&&◌, not, List, [], ◌∷◌, length, slice_get, Option, Some, None, option_map, refl, sym, ap, ◌∙◌, subst, arith}
use Rattle.std.proofs.lemmas.Bool.{cases_Bool, false≢true}
use Rattle.mir_base.specs.declared.instructions.Expr.{Expr}
use Rattle.flow_graph.specs.declared.nodes.Node.{Node}
use Rattle.flow_graph.specs.declared.nodes.Node.TheVariants.{Start, Skip, Assign, Print, Guard, Call, Test, Return}
use Rattle.flow_graph.specs.Edges.{IsSplit}
use Rattle.flow_graph.specs.Graphs.{GraphShape, IsGraph}
use Rattle.graph_edit.specs.Insertions.{Unchanged, changed}
use Rattle.graph_edit.specs.InsertionSplit.{rewritten_split}
use Rattle.motion_rewrite.specs.declared.placement.Placement.{Placement}
use Rattle.motion_rewrite.specs.Flatten.{IsFlattened, by_placement}
use Rattle.motion_rewrite.specs.Temporaries.{temporary}
use Rattle.graph_edit.specs.declared.flow.GraphFlow.{GraphFlow}
use Rattle.graph_edit.specs.GraphFlows.{IsFlowOf, same_flow}
use Rattle.dead_code.specs.Pruned.{IsDeadAt, IsPruned, pruned_from, removed_if}
use Rattle.dead_code.specs.PrunedLaws.{pruned_get, pruned_splits, pruned_succs}
use Rattle.sink_rounds.specs.RoundGraphs.{AreRounds, AreRoundsFrom, IsRound}
use Rattle.sink_code.specs.SunkGraphs.{IsSunk}
use Rattle.sink_code.specs.SunkLaws.{sunk_is_one}
use Rattle.mir_opt.specs.Stages.{after_rounds}
use Rattle.pass_table.specs.Rounds.{became_skip}
use Rattle.graph_edit.specs.NodeKinds.{is_skip}

-- ---- split graphs

-- the graph with moved code is split where the graph before it is
pub moved_split : (split : GraphShape) (table : List Expr) (p : Placement) (moved : GraphShape)
    → IsGraph split.vars split.received split.nodes → IsFlattened split table p moved → IsSplit split.nodes
    → IsSplit moved.nodes
moved_split split table p moved is_graph flat is_split =
    subst IsSplit (sym flat.nodes_are)
    (rewritten_split (by_placement (temporary (length split.vars) p.insert) table p) split.nodes
    (λ m slot s edge. (is_graph.can.succs m slot s edge).1) is_split)

-- ---- one round

module _ (before after sunk : GraphShape) (round : IsRound before after) (is_sunk : IsSunk before sunk) where
  -- a graph whose assignments have sunk, however it was found, is that of the round
  pub sunk_pruned : IsPruned sunk after
  sunk_pruned = subst (λ g. IsPruned g after) (sunk_is_one before round.sunk sunk round.is_sunk is_sunk) round.is_pruned

  -- so a round of a split graph is split
  pub round_split : IsGraph sunk.vars sunk.received sunk.nodes → IsSplit sunk.nodes → IsSplit after.nodes
  round_split is_graph split = pruned_splits sunk after is_graph sunk_pruned split

-- ---- all rounds

-- before the first round the graph is the one that goes in
pub before_first : (graph : GraphShape) (rounds : List GraphShape) → after_rounds graph rounds 0 ≡ graph
before_first graph [] = refl
before_first graph (round ∷ rounds) = refl

-- with so many more rounds to come at most
round_from : (more : ℕ) (graph next : GraphShape) (rest : List GraphShape) (n : ℕ) → AreRoundsFrom more graph next rest
    → n < suc (length rest) → IsRound (after_rounds graph (next ∷ rest) n) (after_rounds graph (next ∷ rest) (suc n))
round_from more graph next [] zero are lt = are.0
round_from more graph next [] (suc n) are lt = absurd (omega (arith, lt))
round_from zero graph next (later ∷ rest) n are lt = absurd are
round_from (suc more) graph next (later ∷ rest) zero are lt = are.0
round_from (suc more) graph next (later ∷ rest) (suc n) are lt = round_from more next later rest n are.1.1 (omega (arith, lt))

-- each is a round of the one before it
pub round_at : (graph : GraphShape) (rounds : List GraphShape) (n : ℕ) → AreRounds graph rounds → n < length rounds
    → IsRound (after_rounds graph rounds n) (after_rounds graph rounds (suc n))
round_at graph [] n are lt = absurd are
round_at graph (next ∷ rest) n are lt = round_from 15 graph next rest n are lt

-- ---- dead assignments

-- nothing more is a number itself
zero_more : (n : ℕ) → 0 + n ≡ n
zero_more n = omega arith

-- no node is lost or new
long_from : (dead : ℕ → Bool) (k : ℕ) (nodes : List Node) → length (pruned_from dead k nodes) ≡ length nodes
long_from dead k [] = refl
long_from dead k (node ∷ nodes) = ap suc (long_from dead (suc k) nodes)

-- so it is of a graph and the one without its dead assignments
pub pruned_long : (graph pruned : GraphShape) → IsPruned graph pruned → length pruned.nodes ≡ length graph.nodes
pruned_long graph pruned p = ap (λ (g : GraphShape). length g.nodes) p.is ∙ long_from p.dead 0 graph.nodes

-- and it has the same edges and blocks
pub pruned_flow : (graph pruned : GraphShape) → IsGraph graph.vars graph.received graph.nodes → IsPruned graph pruned → (flow : GraphFlow)
    → IsFlowOf graph.nodes flow → IsFlowOf pruned.nodes flow
pruned_flow graph pruned is_graph exact flow is = same_flow graph.nodes pruned.nodes (record {
  long = sym (pruned_long graph pruned exact);
  succs = λ n. sym (pruned_succs graph pruned is_graph exact n);
}) flow is

-- a node that stays did not become a Skip
stays : (o : Option Node) → (not (is_skip o) && is_skip (option_map (changed Unchanged) o)) ≡ false
stays None = refl
stays (Some (Start next)) = refl
stays (Some (Skip next)) = refl
stays (Some (Assign x rhs next)) = refl
stays (Some (Print a next)) = refl
stays (Some (Guard test number next)) = refl
stays (Some (Call into unit operands next)) = refl
stays (Some (Test test taken other)) = refl
stays (Some (Return a)) = refl

module _ (graph pruned : GraphShape) (p : IsPruned graph pruned) (n : ℕ) (lt : n < length graph.nodes) where
  -- whether a node became a Skip, by what was found of it
  abbrev became : Bool → Option Node → Bool
  became dead o = not (is_skip o) && is_skip (option_map (changed (removed_if dead)) o)

  became_is : became_skip graph.nodes pruned.nodes n ≡ became (p.dead n) (slice_get graph.nodes n)
  became_is =
      ap (λ o. not (is_skip (slice_get graph.nodes n)) && is_skip o)
      (ap (λ (g : GraphShape). slice_get g.nodes n) p.is ∙ pruned_get p.dead graph.nodes 0 n
      ∙ ap (λ k. option_map (changed (removed_if (p.dead k))) (slice_get graph.nodes n)) (zero_more n))

  -- a dead assignment did
  dead_became : IsDeadAt graph n → became_skip graph.nodes pruned.nodes n ≡ true
  dead_became d = became_is ∙ ap (λ b. became b (slice_get graph.nodes n)) ((p.dead_are n lt).1 d) ∙ ap (became true) d.is

  -- and no other node
  became_dead : became_skip graph.nodes pruned.nodes n ≡ true → IsDeadAt graph n
  became_dead h = elim (cases_Bool (p.dead n)) as (λ _. IsDeadAt graph n) [
    | inl dead ↦ (p.dead_are n lt).0 dead
    | inr alive ↦ absurd (false≢true (sym (became_is ∙ ap (λ b. became b (slice_get graph.nodes n)) alive ∙ stays (slice_get graph.nodes n)) ∙ h))
  ]

  -- exactly the dead assignments became Skips
  pub skips_dead : (became_skip graph.nodes pruned.nodes n ≡ true) ↔ IsDeadAt graph n
  skips_dead = (became_dead, dead_became)
