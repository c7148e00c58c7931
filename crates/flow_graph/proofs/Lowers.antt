-- A unit does the same as the graph that has a node for each of its places.
use Rattle.std.proofs.Common.{◌≡◌, ℕ, zero, suc, ◌+◌, ◌<◌, ◌≤◌, Bool, true, false, cond, List, [], ◌∷◌, length, drop, slice_get, slice_index_or, ℤ, pos, Option, Some, None, ◌⊎◌, inl, inr, refl, sym, ap, ◌∙◌, subst, arith, le_refl, zero-add, w64}
use Rattle.std.proofs.lemmas.Int.{int_wrap_fits}
use Rattle.mir_base.specs.NumberLaws.{zero_fits}
use Rattle.mir_base.specs.declared.instructions.Inst.{Inst}
use Rattle.mir_base.specs.declared.instructions.Inst.TheVariants as insts
use Rattle.mir_base.specs.Frames.{Frame, first_frame, resumed, all_zero, shared_values, with_first, Continues, Returns, Code}
use Rattle.mir_base.specs.Units.{test_holds, at, answered, assigned, inst_transition, body_code}
use Rattle.mir_base.specs.UnitRuns.{UnitSame, UnitCheaper, body_machine}
use Rattle.mir_base.specs.Shapes.{receives_in}
use Rattle.mir_base.specs.Simulations.{Responds, Simulates}
use Rattle.mir_base.specs.SimulationLaws.{simulated_same, simulated_cheaper}
use Rattle.mir_base.specs.Locksteps.{Alike}
use Rattle.mir_base.specs.ResponseLaws.{alike_responds, responds_past}
use Rattle.mir_base.specs.SharedLaws.{body_hands}
use Rattle.flow_graph.specs.MachineLaws.{first_shared}
use Rattle.flow_graph.specs.Machines.{received_from, node_transition, graph_code, graph_machine}
use Rattle.flow_graph.specs.Lowered.{place_node, nodes_from, all_nodes, received_in, target_of, CanLower}
use Rattle.flow_graph.specs.RedirectLaws.{Shifted, shifted_to, resumed_at, resumed_place, assigns_alike, guards_alike}

-- there is a received variable for each receive
pub received_long : (body : List Inst) → length (received_in body) ≡ receives_in body
received_long [] = refl
received_long (insts.Receive x ∷ body) = ap suc (received_long body)
received_long (insts.Assign x rhs ∷ body) = refl
received_long (insts.Goto place ∷ body) = refl
received_long (insts.If test place ∷ body) = refl
received_long (insts.Call into unit operands ∷ body) = refl
received_long (insts.Print a ∷ body) = refl
received_long (insts.TrapIf test number ∷ body) = refl
received_long (insts.Return a ∷ body) = refl

-- the receive at a place below their number
record ReceiveAt (body : List Inst) (place : ℕ) : Type 0 where
  x : ℕ
  here : slice_get body place ≡ Some (insts.Receive x)
  rest : drop place (received_in body) ≡ x ∷ drop (suc place) (received_in body)

-- at each place among the Receives a Receive stands, and its variable in the list of those received
receive_at : (body : List Inst) (place : ℕ) → place < receives_in body → ReceiveAt body place
receive_at [] place lt = absurd (omega (arith, lt))
receive_at (insts.Receive x ∷ body) zero lt = record { x = x; here = refl; rest = refl }
receive_at (insts.Receive x ∷ body) (suc place) lt = let r = receive_at body place (omega (arith, lt)) in record { x = r.x; here = r.here; rest = r.rest }
receive_at (insts.Assign x rhs ∷ body) place lt = absurd (omega (arith, lt))
receive_at (insts.Goto p ∷ body) place lt = absurd (omega (arith, lt))
receive_at (insts.If test p ∷ body) place lt = absurd (omega (arith, lt))
receive_at (insts.Call into unit operands ∷ body) place lt = absurd (omega (arith, lt))
receive_at (insts.Print a ∷ body) place lt = absurd (omega (arith, lt))
receive_at (insts.TrapIf test number ∷ body) place lt = absurd (omega (arith, lt))
receive_at (insts.Return a ∷ body) place lt = absurd (omega (arith, lt))

-- the node of a place
node_here : (k : ℕ) (body : List Inst) (p : ℕ) (inst : Inst) → slice_get body p ≡ Some inst → slice_get (nodes_from k body) p ≡ Some (place_node (k + p) inst)
node_here k [] p inst e = cc
node_here k (i ∷ body) zero inst e = let same : i ≡ inst = cc in rw same (ap (λ n. Some (place_node n inst)) (omega arith))
node_here k (i ∷ body) (suc p) inst e = node_here (suc k) body p inst e ∙ ap (λ n. Some (place_node n inst)) (omega arith)

-- the node past the last instruction returns 0
node_past : (shared : ℕ) (received : List ℕ) (g : Frame) (k : ℕ) (body : List Inst) (p : ℕ) → slice_get body p ≡ None → node_transition shared received (slice_get (nodes_from k body) p) g ≡ Returns (record { value = pos 0; globals = shared_values shared g.values })
node_past shared received g k [] zero e = ap (λ v. Returns (record { value = v; globals = shared_values shared g.values })) (int_wrap_fits w64 (pos 0) zero_fits)
node_past shared received g k [] (suc p) e = refl
node_past shared received g k (i ∷ body) zero e = cc
node_past shared received g k (i ∷ body) (suc p) e = node_past shared received g (suc k) body p e

-- the unit receives, and the graph has not begun
record Receiving (shared : ℕ) (body : List Inst) (z : ℕ) (f g : Frame) : Type 0 where
  globals : List ℤ
  long : length globals ≡ shared
  count : f.place + z ≡ receives_in body
  rest : received_from f.place (drop f.place (received_in body)) f.arguments f.values ≡ received_from 0 (received_in body) f.arguments (with_first globals all_zero)
  is : g ≡ first_frame (record { arguments = f.arguments; globals = globals })

-- a place after the receives
abbrev Past : List Inst → ℕ → Type 0
Past body p = receives_in body ≤ p

-- the frame of a body and that of its graph, so many instructions apart
record Stands (shared : ℕ) (body : List Inst) (z x y : ℕ) (f g : Frame) : Type 0 where
  counted : y ≤ x
  where_ : Receiving shared body z f g ⊎ Shifted suc (Past body) f g

module _ (shared : ℕ) (body : List Inst) (can : CanLower shared body) where
  abbrev received : List ℕ
  received = received_in body

  abbrev d : Code
  d = graph_code shared received (all_nodes body)

  abbrev S : Frame → Frame → Type 0
  S = Shifted suc (Past body)

  next_place : (f : Frame) (x : ℕ) → Past body f.place → (w : ℤ) → S (assigned x w (f.place + 1) f) (assigned x w (suc (suc f.place)) f)
  next_place f x past w =
      shifted_to suc (Past body) (f.place + 1) _ _ refl (omega (arith, past)) (let e : suc (suc f.place) ≡ suc (f.place + 1) = omega arith in ap (λ p. assigned x w p f) e)

  goes_on : (f : Frame) → Past body f.place → S (at (f.place + 1) f) (at (suc (suc f.place)) f)
  goes_on f past = shifted_to suc (Past body) (f.place + 1) _ _ refl (omega (arith, past)) (let e : suc (suc f.place) ≡ suc (f.place + 1) = omega arith in ap (λ p. at p f) e)

  inst_alike : (f : Frame) (inst : Inst) → Past body f.place → slice_get body f.place ≡ Some inst → Alike S (inst_transition shared (Some inst) f) (node_transition shared received (Some (place_node f.place inst)) (at (suc f.place) f))
  inst_alike f (insts.Receive x) past e = absurd (let lt = can.first f.place x e in omega (arith, lt, past))
  inst_alike f (insts.Assign x rhs) past e = assigns_alike S x rhs (f.place + 1) (suc (suc f.place)) (suc f.place) f (next_place f x past)
  inst_alike f (insts.Goto place) past e =
      (le_refl 0, record { good = (can.targets f.place place (ap target_of e)).0; is = refl })
  inst_alike f (insts.If test place) past e = (le_refl 0, chosen (test_holds f.values test))
    where
      chosen : (b : Bool) → S (at (cond b place (f.place + 1)) f) (at (cond b (suc place) (suc (suc f.place))) (at (suc f.place) f))
      chosen true = record { good = (can.targets f.place place (ap target_of e)).0; is = refl }
      chosen false = goes_on f past
  inst_alike f (insts.Call into unit operands) past e =
      let two : suc (suc f.place) ≡ suc (f.place + 1) = omega arith in
      (refl, refl, λ a fits. shifted_to suc (Past body) (f.place + 1) (resumed into a (at (f.place + 1) f)) (resumed into a (at (suc (suc f.place)) f)) (resumed_place into a (at (f.place + 1) f)) (omega (arith, past)) (ap (λ p. resumed into a (at p f)) two ∙ resumed_at into a (f.place + 1) (suc (f.place + 1)) f))
  inst_alike f (insts.Print a) past e = (refl, goes_on f past)
  inst_alike f (insts.TrapIf test number) past e = guards_alike S test number (f.place + 1) (suc (suc f.place)) (suc f.place) f (goes_on f past)
  inst_alike f (insts.Return a) past e = refl

  here_alike : (f : Frame) (o : Option Inst) → Past body f.place → slice_get body f.place ≡ o → Alike S (inst_transition shared o f) (d (at (suc f.place) f))
  here_alike f None past e = subst (Alike S (answered shared (pos 0) f)) (sym (node_past shared received (at (suc f.place) f) 0 body f.place e)) refl
  here_alike f (Some inst) past e =
      subst (λ n. Alike S (inst_transition shared (Some inst) f) (node_transition shared received n (at (suc f.place) f))) (sym (node_here 0 body f.place inst e ∙ ap (λ p. Some (place_node p inst)) (zero-add f.place))) (inst_alike f inst past e)

  into : (x y : ℕ) (f g : Frame) → y ≤ x → S f g → (z : ℕ) × Stands shared body z x y f g
  into x y f g le s = (0, record { counted = le; where_ = inr s })

  past_responds : (z x y : ℕ) (f g : Frame) → y ≤ x → S f g → Responds (Unit {0}) (Stands shared body) d z x y g (body_code shared body f)
  past_responds z x y f g le s =
      alike_responds (Unit {0}) (Stands shared body) S d into z x y g (body_code shared body f) (d g) le refl (subst (λ h. Alike S (body_code shared body f) (d h)) (sym s.is) (here_alike f (slice_get body f.place) s.good refl))

  receives_one : (z x y : ℕ) (f g : Frame) → y ≤ x → Receiving shared body (suc z) f g → Responds (Unit {0}) (Stands shared body) d (suc z) x y g (body_code shared body f)
  receives_one z x y f g le r =
      let at_ = receive_at body f.place (omega (arith, r.count)) in
      let next : Frame = assigned at_.x (slice_index_or f.arguments f.place (pos 0)) (f.place + 1) f in
      let one : f.place + 1 ≡ suc f.place = omega arith in
      let rest : received_from (f.place + 1) (drop (f.place + 1) received) f.arguments next.values ≡ received_from 0 received f.arguments (with_first r.globals all_zero) =
      ap (λ p. received_from p (drop p received) f.arguments next.values) one ∙ sym (ap (λ l. received_from f.place l f.arguments f.values) at_.rest) ∙ r.rest in
      let related : Receiving shared body z next g = record { globals = r.globals; long = r.long; count = omega (arith, r.count); rest = rest; is = r.is } in
      subst (Responds (Unit {0}) (Stands shared body) d (suc z) x y g) (sym (ap (λ o. inst_transition shared o f) at_.here))
      (record { steps = 0; cost = 0; there = g; silent = (refl, refl); measure = z; related = record { counted = omega (arith, le); where_ = inl related }; moves = inr (omega arith) })

  begins : (x y : ℕ) (f g : Frame) → y ≤ x → Receiving shared body 0 f g → Responds (Unit {0}) (Stands shared body) d 0 x y g (body_code shared body f)
  begins x y f g le r =
      let here : f.place ≡ receives_in body = omega (arith, r.count) in
      let none : drop f.place received ≡ [] = ap (λ p. drop p received) (here ∙ sym (received_long body)) ∙ all_dropped received in
      let values : f.values ≡ received_from 0 received f.arguments (with_first r.globals all_zero) = sym (ap (λ l. received_from f.place l f.arguments f.values) none) ∙ r.rest in
      let starts : d g ≡ Continues 0 (at (suc f.place) f) = ap d r.is ∙ ap (λ l. Continues 0 (record { place = suc (receives_in body); arguments = f.arguments; values = received_from 0 received f.arguments (with_first l all_zero) })) (first_shared shared r.globals all_zero r.long) ∙ ap (λ v. Continues 0 (record { place = suc (receives_in body); arguments = f.arguments; values = v })) (sym values) ∙ ap (λ p. Continues 0 (at (suc p) f)) (sym here) in
      responds_past (Unit {0}) (Stands shared body) d 1 0 0 0 x y g (at (suc f.place) f) (body_code shared body f) (at (suc f.place) f, 0, 0, starts, (refl, refl), omega arith) (inl (omega arith)) (past_responds 0 x (y + 0) f (at (suc f.place) f) (omega (arith, le)) (record { good = omega (arith, here); is = refl }))
    where
      all_dropped : (xs : List ℕ) → drop (length xs) xs ≡ []
      all_dropped [] = refl
      all_dropped (x' ∷ xs) = all_dropped xs

  receiving_responds : (z x y : ℕ) (f g : Frame) → y ≤ x → Receiving shared body z f g → Responds (Unit {0}) (Stands shared body) d z x y g (body_code shared body f)
  receiving_responds zero x y f g le r = begins x y f g le r
  receiving_responds (suc z) x y f g le r = receives_one z x y f g le r

  responds : (z x y : ℕ) (f g : Frame) → Stands shared body z x y f g → Responds (Unit {0}) (Stands shared body) d z x y g (body_code shared body f)
  responds z x y f g s = elim s.where_ [ inl r ↦ receiving_responds z x y f g s.counted r | inr r ↦ past_responds z x y f g s.counted r ]

  simulates : Simulates (body_machine shared body) (graph_machine shared received (all_nodes body)) (Unit {0}) (Stands shared body)
  simulates = record {
    receives = sym (received_long body);
    shared = refl;
    hands = body_hands shared body;
    starts = λ entry is. (receives_in body, record { counted = le_refl 0; where_ = inl (record { globals = entry.globals; long = is.globals.long; count = zero-add (receives_in body); rest = refl; is = refl }) });
    responds = responds;
  }

  pub places_same : UnitSame (body_machine shared body) (graph_machine shared received (all_nodes body))
  places_same = simulated_same _ _ (Unit {0}) (Stands shared body) simulates

  pub places_cheaper : UnitCheaper (body_machine shared body) (graph_machine shared received (all_nodes body))
  places_cheaper = simulated_cheaper _ _ (Unit {0}) (Stands shared body) simulates tt
