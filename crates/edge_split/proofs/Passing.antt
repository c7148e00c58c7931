-- Nodes whose edges go through new Skips do the same: a step to a new Skip is followed by the Skip's own.
use Rattle.std.proofs.Common.{◌≡◌, ℕ, ◌<◌, ◌≤◌, Bool, true, false, cond, List, [], ◌∷◌, length, slice_get, Some, ◌⊎◌, inl, inr, refl, sym, ap, ◌∙◌, subst, arith, le_refl}
use Rattle.flow_graph.specs.ListLaws.{some_at}
use Rattle.mir_base.specs.Frames.{Frame, resumed, Code}
use Rattle.mir_base.specs.Units.{at, test_holds}
use Rattle.mir_base.specs.UnitRuns.{UnitSame, UnitCheaper}
use Rattle.mir_base.specs.Simulations.{Responds, Simulates}
use Rattle.mir_base.specs.SimulationLaws.{simulated_same, simulated_cheaper}
use Rattle.mir_base.specs.ResponseLaws.{alike_responds, responds_after}
use Rattle.mir_base.specs.Locksteps.{Alike}
use Rattle.flow_graph.specs.declared.nodes.Node.{Node}
use Rattle.flow_graph.specs.declared.nodes.Node.TheVariants.{Start, Skip, Assign, Print, Guard, Call, Test, Return}
use Rattle.flow_graph.specs.Graphs.{node_succs, succs_of, AllWithin}
use Rattle.flow_graph.specs.MachineLaws.{graph_hands}
use Rattle.flow_graph.specs.Machines.{node_transition, graph_code, graph_machine}
use Rattle.flow_graph.specs.RedirectLaws.{assigns_alike, guards_alike, guards_alike, resumed_at, resumed_place}
use Rattle.edge_split.specs.Split.{with_succs}

-- u is t, or a Skip that leads there
abbrev pub Way : List Node → ℕ → ℕ → Type 0
Way result u t = (u ≡ t) ⊎ (slice_get result u ≡ Some (Skip t))

-- each of these successors is passed to by a way to the other in its place
abbrev pub Ways : List Node → List ℕ → List ℕ → Type 0
Ways result [] [] = Unit {0}
Ways result [] (t ∷ ts) = ⊥
Ways result (u ∷ us) [] = ⊥
Ways result (u ∷ us) (t ∷ ts) = Way result u t × Ways result us ts

-- the result has each node, with ways to its successors
pub record Passes (nodes result : List Node) : Type 0 where
  pub some : 0 < length nodes
  pub within : AllWithin nodes
  pub olds : (m : ℕ) (node : Node) → slice_get nodes m ≡ Some node → (us : List ℕ) × (slice_get result m ≡ Some (with_succs node us)) × Ways result us (node_succs node)

module _ (shared : ℕ) (received : List ℕ) (nodes result : List Node) (passes : Passes nodes result) where
  abbrev code' : Code
  code' = graph_code shared received result

  -- the second frame stands where the first does, or at a Skip that leads there
  record Near (f g : Frame) : Type 0 where
    place : ℕ
    is : g ≡ at place f
    way : Way result place f.place
    within : f.place < length nodes

  near_at : (u t : ℕ) (f g : Frame) → f.place ≡ t → g ≡ at u f → Way result u t → t < length nodes → Near f g
  near_at u t f g e is way lt = record { place = u; is = is; way = subst (Way result u) (sym e) way; within = omega (arith, e, lt) }

  alike_here : (f : Frame) (node : Node) (us : List ℕ) → Ways result us (node_succs node) → ((slot s : ℕ) → slice_get (node_succs node) slot ≡ Some s → s < length nodes) → Alike Near (node_transition shared received (Some node) f) (node_transition shared received (Some (with_succs node us)) f)
  alike_here f (Start t) [] ways low = absurd ways
  alike_here f (Start t) (u ∷ us) ways low = (le_refl 0, near_at u t _ _ refl refl ways.0 (low 0 t refl))
  alike_here f (Skip t) [] ways low = absurd ways
  alike_here f (Skip t) (u ∷ us) ways low = (le_refl 0, near_at u t _ _ refl refl ways.0 (low 0 t refl))
  alike_here f (Assign x rhs t) [] ways low = absurd ways
  alike_here f (Assign x rhs t) (u ∷ us) ways low = assigns_alike Near x rhs t u f.place f (λ v. near_at u t _ _ refl refl ways.0 (low 0 t refl))
  alike_here f (Print a t) [] ways low = absurd ways
  alike_here f (Print a t) (u ∷ us) ways low = (refl, near_at u t _ _ refl refl ways.0 (low 0 t refl))
  alike_here f (Guard test number t) [] ways low = absurd ways
  alike_here f (Guard test number t) (u ∷ us) ways low = guards_alike Near test number t u f.place f (near_at u t _ _ refl refl ways.0 (low 0 t refl))
  alike_here f (Call into unit operands t) [] ways low = absurd ways
  alike_here f (Call into unit operands t) (u ∷ us) ways low = (refl, refl, λ answer fits. near_at u t (resumed into answer (at t f)) (resumed into answer (at u f)) (resumed_place into answer (at t f)) (resumed_at into answer t u f) ways.0 (low 0 t refl))
  alike_here f (Test test t o) [] ways low = absurd ways
  alike_here f (Test test t o) (u ∷ []) ways low = absurd ways.1
  alike_here f (Test test t o) (u ∷ v ∷ us) ways low = (le_refl 0, chosen (test_holds f.values test))
    where
      chosen : (b : Bool) → Near (at (cond b t o) f) (at (cond b u v) f)
      chosen true = near_at u t _ _ refl refl ways.0 (low 0 t refl)
      chosen false = near_at v o _ _ refl refl ways.1.0 (low 1 o refl)
  alike_here f (Return a) us ways low = refl

  record Close (z x y : ℕ) (f g : Frame) : Type 0 where
    near : Near f g
    counted : y ≤ x

  close : (x y : ℕ) (f g : Frame) → y ≤ x → Near f g → (z : ℕ) × Close z x y f g
  close x y f g le near = (0, record { near = near; counted = le })

  respond_here : (z x y : ℕ) (f : Frame) → f.place < length nodes → y ≤ x → Responds (Unit {0}) Close code' z x y f (graph_code shared received nodes f)
  respond_here z x y f lt le =
      let node = some_at nodes f.place lt in
      let old = passes.olds f.place node.0 node.1 in
      let alike = alike_here f node.0 old.0 old.2 (λ slot s e. passes.within f.place slot s (ap (λ o. slice_get (succs_of o) slot) node.1 ∙ e)) in
      subst (λ o. Responds (Unit {0}) Close code' z x y f (node_transition shared received o f)) (sym node.1)
      (alike_responds (Unit {0}) Close Near code' close z x y f (node_transition shared received (Some node.0) f) (node_transition shared received (Some (with_succs node.0 old.0)) f) le (ap (λ o. node_transition shared received o f) old.1) alike)

  respond : (z x y : ℕ) (f g : Frame) → Close z x y f g → Responds (Unit {0}) Close code' z x y g (graph_code shared received nodes f)
  respond z x y f g c =
      let near = c.near in
      let t = graph_code shared received nodes f in
      elim near.way [
        | inl same ↦ subst (λ h. Responds (Unit {0}) Close code' z x y h t) (sym (near.is ∙ ap (λ p. at p f) same)) (respond_here z x y f near.within c.counted)
        | inr skip ↦ responds_after (Unit {0}) Close code' z z x y g f t (ap code' near.is ∙ ap (λ o. node_transition shared received o (at near.place f)) skip) (respond_here z x y f near.within c.counted)
      ]

  simulates : Simulates (graph_machine shared received nodes) (graph_machine shared received result) (Unit {0}) Close
  simulates = record {
    receives = refl;
    shared = refl;
    hands = graph_hands shared received nodes;
    starts = λ entry is. (0, record { near = record { place = 0; is = refl; way = inl refl; within = passes.some }; counted = le_refl 0 });
    responds = respond;
  }

  pub passes_same : UnitSame (graph_machine shared received nodes) (graph_machine shared received result)
  passes_same = simulated_same _ _ (Unit {0}) Close simulates

  pub passes_cheaper : UnitCheaper (graph_machine shared received nodes) (graph_machine shared received result)
  passes_cheaper = simulated_cheaper _ _ (Unit {0}) Close simulates tt
