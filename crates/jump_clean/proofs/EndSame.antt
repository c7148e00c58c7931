-- Nodes whose successors have become their ends of chain do the same. While the one side passes Skips, the other side
-- stands at the end of the chain, or goes round there where the Skips run in a circle.
use Rattle.std.proofs.Common.{◌≡◌, ℕ, zero, suc, ◌<◌, ◌≤◌, List, map, length, slice_get, slice_index_or, Option, Some, option_map, inl, inr, refl, sym, ap, ◌∙◌, subst, arith}
use Rattle.std.proofs.lemmas.Option.{slice_get-map}
use Rattle.mir_base.specs.Frames.{Frame, first_frame, Continues, Code}
use Rattle.mir_base.specs.Units.{at}
use Rattle.mir_base.specs.UnitRuns.{UnitSame, UnitCheaper}
use Rattle.mir_base.specs.Simulations.{Responds, Simulates}
use Rattle.mir_base.specs.SimulationLaws.{simulated_same, simulated_cheaper}
use Rattle.mir_base.specs.ResponseLaws.{alike_responds}
use Rattle.mir_base.specs.Locksteps.{Alike}
use Rattle.flow_graph.specs.declared.nodes.Node.{Node}
use Rattle.flow_graph.specs.declared.nodes.Node.TheVariants.{Skip}
use Rattle.flow_graph.specs.Graphs.{AllWithin}
use Rattle.flow_graph.specs.MachineLaws.{graph_hands}
use Rattle.flow_graph.specs.Machines.{node_transition, graph_code, graph_machine}
use Rattle.flow_graph.specs.Retained.{redirected}
use Rattle.flow_graph.specs.RedirectLaws.{Shifted, redirects_alike}
use Rattle.jump_clean.specs.Chains.{Skips, AreEnds}
use Rattle.jump_clean.specs.ChainLaws.{to_itself, to_next, end_is_one, end_later, ends_at_other, skip_or_other}
use Rattle.jump_clean.specs.ReductionLaws.{skips_within}

module _ (shared : ℕ) (received : List ℕ) (nodes : List Node) (within : AllWithin nodes) (some : 0 < length nodes) (ends : List ℕ) (are : AreEnds nodes ends) (first : slice_index_or ends 0 0 ≡ 0) where
  abbrev to : ℕ → ℕ
  to n = slice_index_or ends n 0

  abbrev after : List Node
  after = map (redirected to) nodes

  abbrev code : Code
  code = graph_code shared received nodes

  abbrev code' : Code
  code' = graph_code shared received after

  after_at : (n : ℕ) → slice_get after n ≡ option_map (redirected to) (slice_get nodes n)
  after_at n = slice_get-map (redirected to) nodes n

  -- the second frame stands at the end of the first one's chain; the measure is how many Skips lead there
  record Ahead (z x y : ℕ) (f g : Frame) : Type 0 where
    is : g ≡ at (to f.place) f
    counted : y ≤ x
    here : f.place < length nodes
    leads : Skips nodes z f.place (to f.place)

  abbrev Inside : ℕ → Type 0
  Inside s = s < length nodes

  ahead : (x y : ℕ) (f g : Frame) → y ≤ x → Shifted to Inside f g → (z : ℕ) × Ahead z x y f g
  ahead x y f g le s =
      let e = are.are f.place s.good in
      (e.leads.count, record { is = s.is; counted = le; here = s.good; leads = e.leads.skips })

  -- the end of chain of a Skip is that of its successor
  end_of_next : (n next : ℕ) → n < length nodes → slice_get nodes n ≡ Some (Skip next) → to next ≡ to n
  end_of_next n next lt is =
      end_is_one nodes next (to next) (to n) (are.are next (skips_within nodes within n next is)) (end_later nodes n next (to n) (to_next nodes n next is) (are.are n lt))

  -- at the end of a chain that is a circle, both take a step
  at_circle : (x y : ℕ) (f g : Frame) (next : ℕ) → Ahead 0 x y f g → slice_get nodes f.place ≡ Some (Skip next) → Responds (Unit {0}) Ahead code' 0 x y g (Continues 0 (at next f))
  at_circle x y f g next a is =
      let lt = skips_within nodes within f.place next is in
      let e = are.are next lt in
      let there : slice_get after (to f.place) ≡ Some (Skip (to next)) = ap (slice_get after) (sym a.leads) ∙ after_at f.place ∙ ap (option_map (redirected to)) is in
      let step : code' g ≡ Continues 0 (at (to next) f) = ap code' a.is ∙ ap (λ o. node_transition shared received o (at (to f.place) f)) there in
      record {
        steps = 1;
        cost = 0;
        there = at (to next) f;
        silent = (at (to next) f, 0, 0, step, (refl, refl), refl);
        measure = e.leads.count;
        related = record { is = refl; counted = omega (arith, a.counted); here = lt; leads = e.leads.skips };
        moves = inl (omega arith);
      }

  -- inside the chain, the second side waits
  in_the_chain : (z x y : ℕ) (f g : Frame) (next : ℕ) → Ahead (suc z) x y f g → slice_get nodes f.place ≡ Some (Skip next) → Responds (Unit {0}) Ahead code' (suc z) x y g (Continues 0 (at next f))
  in_the_chain z x y f g next a is =
      let both : Some (Skip a.leads.0) ≡ Some (Skip next) = sym a.leads.1 ∙ is in
      let same : a.leads.0 ≡ next = cc in
      let e : to next ≡ to f.place = end_of_next f.place next a.here is in
      record {
        steps = 0;
        cost = 0;
        there = g;
        silent = (refl, refl);
        measure = z;
        related = record {
          is = a.is ∙ ap (λ n. at n f) (sym e);
          counted = omega (arith, a.counted);
          here = skips_within nodes within f.place next is;
          leads = subst (Skips nodes z next) (sym e) (subst (λ n. Skips nodes z n (to f.place)) same a.leads.2);
        };
        moves = inr (omega arith);
      }

  at_skip : (z x y : ℕ) (f g : Frame) (next : ℕ) → Ahead z x y f g → slice_get nodes f.place ≡ Some (Skip next) → Responds (Unit {0}) Ahead code' z x y g (Continues 0 (at next f))
  at_skip zero x y f g next a is = at_circle x y f g next a is
  at_skip (suc z) x y f g next a is = in_the_chain z x y f g next a is

  -- any other node is its own end of chain
  at_other : (z x y : ℕ) (f g : Frame) → Ahead z x y f g → ((next : ℕ) → slice_get nodes f.place ≡ Some (Skip next) → ⊥) → Responds (Unit {0}) Ahead code' z x y g (code f)
  at_other z x y f g a other =
      let node : Option Node = slice_get nodes f.place in
      let own : to f.place ≡ f.place = end_is_one nodes f.place (to f.place) f.place (are.are f.place a.here) (record { leads = to_itself nodes f.place; ends = ends_at_other nodes f.place other }) in
      let alike = redirects_alike shared received to Inside node (λ slot s e. within f.place slot s e) f (to f.place) in
      let there : slice_get after (to f.place) ≡ option_map (redirected to) node = ap (slice_get after) own ∙ after_at f.place in
      let alike' = subst (λ o. Alike (Shifted to Inside) (node_transition shared received node f) (node_transition shared received o (at (to f.place) f))) (sym there) alike in
      alike_responds (Unit {0}) Ahead (Shifted to Inside) code' ahead z x y g (code f) (code' (at (to f.place) f)) a.counted (ap code' a.is) alike'

  respond : (z x y : ℕ) (f g : Frame) → Ahead z x y f g → Responds (Unit {0}) Ahead code' z x y g (code f)
  respond z x y f g a = elim (skip_or_other (slice_get nodes f.place)) [
    | inl skip ↦ subst (λ o. Responds (Unit {0}) Ahead code' z x y g (node_transition shared received o f)) (sym skip.1) (at_skip z x y f g skip.0 a skip.1)
    | inr other ↦ at_other z x y f g a other
  ]

  simulates : Simulates (graph_machine shared received nodes) (graph_machine shared received after) (Unit {0}) Ahead
  simulates = record {
    receives = refl;
    shared = refl;
    hands = graph_hands shared received nodes;
    starts = λ entry is.
        let e = are.are 0 some in
        (e.leads.count, record { is = ap (λ n. at n (first_frame entry)) (sym first); counted = omega arith; here = some; leads = e.leads.skips });
    responds = respond;
  }

  pub ends_same : UnitSame (graph_machine shared received nodes) (graph_machine shared received after)
  ends_same = simulated_same _ _ (Unit {0}) Ahead simulates

  pub ends_cheaper : UnitCheaper (graph_machine shared received nodes) (graph_machine shared received after)
  ends_cheaper = simulated_cheaper _ _ (Unit {0}) Ahead simulates tt
