-- Nodes of which a test that makes no difference has become a Skip do the same. Where the one side goes to `other` and
-- the other side to `taken`, both go on by Skips alone until they come together at the end of the two chains.
use Rattle.std.proofs.Common.{◌≡◌, ◌≢◌, ℕ, zero, suc, ◌+◌, ◌≤◌, Bool, true, false, cond, List, [], ◌∷◌, slice_get, Option, Some, inl, inr, refl, sym, ap, ◌∙◌, subst, arith}
use Rattle.flow_graph.specs.NodeLaws.{option_map_itself, redirected_itself}
use Rattle.std.proofs.lemmas.Bool.{cases_eq}
use Rattle.mir_base.specs.Frames.{Frame, Continues, Code}
use Rattle.mir_base.specs.Units.{at, test_holds}
use Rattle.mir_base.specs.UnitRuns.{Machine, UnitSame, UnitCheaper}
use Rattle.mir_base.specs.Simulations.{Silently, Responds, Simulates}
use Rattle.mir_base.specs.SimulationLaws.{simulated_same, simulated_cheaper}
use Rattle.mir_base.specs.ResponseLaws.{alike_responds, responds_past}
use Rattle.mir_base.specs.Locksteps.{Alike}
use Rattle.mir_base.specs.UnitLaws.{same_refl, same_trans, cheaper_trans}
use Rattle.mir_base.specs.LockstepLaws.{cheaper_refl}
use Rattle.flow_graph.specs.declared.nodes.Node.{Node}
use Rattle.flow_graph.specs.declared.nodes.Node.TheVariants.{Skip, Test}
use Rattle.flow_graph.specs.MachineLaws.{graph_hands}
use Rattle.flow_graph.specs.Machines.{node_transition, graph_code, graph_machine}
use Rattle.flow_graph.specs.Retained.{redirected}
use Rattle.flow_graph.specs.RedirectLaws.{Shifted, redirects_alike}
use Rattle.jump_clean.specs.Chains.{Skips, SkipsTo}
use Rattle.jump_clean.specs.Reductions.{IsReduction, AreReductions}
use Rattle.jump_clean.specs.ChainLaws.{to_itself}
use Rattle.jump_clean.specs.ReductionLaws.{reduced_here, reduced_elsewhere, one_becomes, skip_stays}

-- Skips that stand on the second side show nothing and count nothing
pub skips_silently : (shared : ℕ) (received : List ℕ) (nodes after : List Node) → ((n next : ℕ) → slice_get nodes n ≡ Some (Skip next) → slice_get after n ≡ Some (Skip next)) → (k n m : ℕ) (f : Frame) → Skips nodes k n m → Silently (graph_code shared received after) k (at n f) (at m f) 0
skips_silently shared received nodes after stays zero n m f s = (ap (λ i. at i f) s, refl)
skips_silently shared received nodes after stays (suc k) n m f s =
    (at s.0 f, 0, 0, ap (λ o. node_transition shared received o (at n f)) (stays n s.0 s.1), skips_silently shared received nodes after stays k s.0 m f s.2, refl)

module _ (shared : ℕ) (received : List ℕ) (nodes : List Node) (n : ℕ) (reduced : List Node) (reduction : IsReduction nodes n reduced) where
  abbrev code : Code
  code = graph_code shared received nodes

  abbrev code' : Code
  code' = graph_code shared received reduced

  -- the two frames are alike but for their places, from which Skips lead to one node; the measure is how many on the
  -- first side
  record Meeting (z x y : ℕ) (f g : Frame) : Type 0 where
    second : ℕ
    is : g ≡ at second f
    counted : y ≤ x
    meet : ℕ
    first_leads : Skips nodes z f.place meet
    second_leads : SkipsTo nodes second meet

  abbrev Anywhere : ℕ → Type 0
  Anywhere s = Unit {0}

  met : (x y : ℕ) (f g : Frame) → y ≤ x → Shifted (λ s. s) Anywhere f g → (z : ℕ) × Meeting z x y f g
  met x y f g le s = (0, record { second = f.place; is = s.is; counted = le; meet = f.place; first_leads = refl; second_leads = to_itself nodes f.place })

  -- the Test on the one side and the Skip on the other
  at_test : (x y : ℕ) (f : Frame) → y ≤ x → f.place ≡ n → Responds (Unit {0}) Meeting code' 0 x y f (code f)
  at_test x y f le here =
      let was : slice_get nodes f.place ≡ Some (Test reduction.same.test reduction.taken reduction.same.other) = ap (slice_get nodes) here ∙ reduction.same.is in
      let is : slice_get reduced f.place ≡ Some (Skip reduction.taken) = ap (slice_get reduced) here ∙ reduced_here nodes n reduced reduction in
      let m = meets (test_holds f.values reduction.same.test) in
      let response : Responds (Unit {0}) Meeting code' 0 x y f (Continues 0 (at (cond (test_holds f.values reduction.same.test) reduction.taken reduction.same.other) f)) =
      record {
        steps = 1;
        cost = 0;
        there = at reduction.taken f;
        silent = (at reduction.taken f, 0, 0, ap (λ o. node_transition shared received o f) is, (refl, refl), refl);
        measure = m.0;
        related = m.1;
        moves = inl (omega arith);
      } in
      subst (λ o. Responds (Unit {0}) Meeting code' 0 x y f (node_transition shared received o f)) (sym was) response
    where
      meets : (b : Bool) → (z : ℕ) × Meeting z (x + 0) (y + 0) (at (cond b reduction.taken reduction.same.other) f) (at reduction.taken f)
      meets true = (reduction.same.taken_end.leads.count, record { second = reduction.taken; is = refl; counted = omega (arith, le); meet = reduction.same.end; first_leads = reduction.same.taken_end.leads.skips; second_leads = reduction.same.taken_end.leads })
      meets false = (reduction.same.other_end.leads.count, record { second = reduction.taken; is = refl; counted = omega (arith, le); meet = reduction.same.end; first_leads = reduction.same.other_end.leads.skips; second_leads = reduction.same.taken_end.leads })

  -- any other node is the same on both sides
  at_other : (x y : ℕ) (f : Frame) → y ≤ x → f.place ≢ n → Responds (Unit {0}) Meeting code' 0 x y f (code f)
  at_other x y f le other =
      let node : Option Node = slice_get nodes f.place in
      let alike = redirects_alike shared received (λ s. s) Anywhere node (λ slot s e. tt) f f.place in
      let alike' = subst (λ o. Alike (Shifted (λ s. s) Anywhere) (node_transition shared received node f) (node_transition shared received o f)) (option_map_itself (redirected (λ n. n)) redirected_itself node ∙ sym (reduced_elsewhere nodes n reduced reduction f.place other)) alike in
      alike_responds (Unit {0}) Meeting (Shifted (λ s. s) Anywhere) code' met 0 x y f (code f) (code' f) le refl alike'

  respond : (z x y : ℕ) (f g : Frame) → Meeting z x y f g → Responds (Unit {0}) Meeting code' z x y g (code f)
  respond zero x y f g m =
      let lead = skips_silently shared received nodes reduced (skip_stays nodes reduced (one_becomes nodes n reduced reduction)) m.second_leads.count m.second m.meet f m.second_leads.skips in
      let come : Silently code' m.second_leads.count g f 0 = subst (λ h. Silently code' m.second_leads.count h f 0) (sym m.is) (subst (λ p. Silently code' m.second_leads.count (at m.second f) (at p f) 0) (sym m.first_leads) lead) in
      let le : y + 0 ≤ x = omega (arith, m.counted) in
      responds_past (Unit {0}) Meeting code' m.second_leads.count 0 0 0 x y g f (code f) come (inr (omega arith)) (elim (cases_eq f.place n) [ inl here ↦ at_test x (y + 0) f le here | inr other ↦ at_other x (y + 0) f le other ])
  respond (suc z) x y f g m =
      let s = m.first_leads in
      let response : Responds (Unit {0}) Meeting code' (suc z) x y g (Continues 0 (at s.0 f)) =
      let related : Meeting z (x + 0) (y + 0) (at s.0 f) g = record { second = m.second; is = m.is; counted = omega (arith, m.counted); meet = m.meet; first_leads = s.2; second_leads = m.second_leads } in
      record { steps = 0; cost = 0; there = g; silent = (refl, refl); measure = z; related = related; moves = inr (omega arith) } in
      subst (λ o. Responds (Unit {0}) Meeting code' (suc z) x y g (node_transition shared received o f)) (sym s.1) response

  simulates : Simulates (graph_machine shared received nodes) (graph_machine shared received reduced) (Unit {0}) Meeting
  simulates = record {
    receives = refl;
    shared = refl;
    hands = graph_hands shared received nodes;
    starts = λ entry is. (0, record { second = 0; is = refl; counted = omega arith; meet = 0; first_leads = refl; second_leads = to_itself nodes 0 });
    responds = respond;
  }

  reduction_same : UnitSame (graph_machine shared received nodes) (graph_machine shared received reduced)
  reduction_same = simulated_same _ _ (Unit {0}) Meeting simulates

  reduction_cheaper : UnitCheaper (graph_machine shared received nodes) (graph_machine shared received reduced)
  reduction_cheaper = simulated_cheaper _ _ (Unit {0}) Meeting simulates tt

-- ---- all of them

module _ (shared : ℕ) (received : List ℕ) where
  abbrev machine : List Node → Machine
  machine nodes = graph_machine shared received nodes

  pub reductions_same : (nodes : List Node) (order : List ℕ) (reduced : List Node) → AreReductions nodes order reduced → UnitSame (machine nodes) (machine reduced)
  reductions_same nodes [] reduced reductions = subst (λ l. UnitSame (machine nodes) (machine l)) (sym reductions) (same_refl (machine nodes))
  reductions_same nodes (n ∷ order) reduced reductions = same_trans (machine nodes) (machine reductions.0) (machine reduced) (reductions_same nodes order reductions.0 reductions.1) (reduction_same shared received reductions.0 n reduced reductions.2)

  pub reductions_cheaper : (nodes : List Node) (order : List ℕ) (reduced : List Node) → AreReductions nodes order reduced → UnitCheaper (machine nodes) (machine reduced)
  reductions_cheaper nodes [] reduced reductions = subst (λ l. UnitCheaper (machine nodes) (machine l)) (sym reductions) (cheaper_refl (machine nodes) (graph_hands shared received nodes))
  reductions_cheaper nodes (n ∷ order) reduced reductions =
      cheaper_trans (machine nodes) (machine reductions.0) (machine reduced) (reductions_same nodes order reductions.0 reductions.1) (reductions_cheaper nodes order reductions.0 reductions.1) (reduction_cheaper shared received reductions.0 n reduced reductions.2)
