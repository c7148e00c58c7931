-- A graph does the same as the body that its plan emits.
use Rattle.std.proofs.Common.{◌≡◌, ℕ, zero, suc, ◌+◌, ◌<◌, ◌≤◌, Bool, true, false, cond, List, [], ◌∷◌, ◌++◌, length, map, drop, slice_get, slice_index_or, ℤ, pos, Option, Some, None, ◌⊎◌, inl, inr, refl, sym, ap, ◌∙◌, subst, arith, le_refl, zero-add}
use Rattle.mir_base.specs.declared.instructions.Inst.{Inst}
use Rattle.mir_base.specs.declared.instructions.Inst.TheVariants as insts
use Rattle.mir_base.specs.Frames.{CallEntry, Frame, first_frame, resumed, all_zero, with_first, with_value, Continues, Code}
use Rattle.mir_base.specs.Units.{test_holds, at, assigned, inst_transition, body_code}
use Rattle.mir_base.specs.UnitRuns.{UnitSame, UnitCheaper, body_machine}
use Rattle.mir_base.specs.Simulations.{Silently, Responds, Simulates}
use Rattle.mir_base.specs.SimulationLaws.{simulated_same, simulated_cheaper}
use Rattle.mir_base.specs.Locksteps.{Alike}
use Rattle.mir_base.specs.ResponseLaws.{alike_responds, responds_past}
use Rattle.flow_graph.specs.declared.plan.Item.{Item}
use Rattle.flow_graph.specs.declared.plan.Item.TheVariants.{Placed, Jump}
use Rattle.flow_graph.specs.declared.nodes.Node.{Node}
use Rattle.flow_graph.specs.declared.nodes.Node.TheVariants.{Start, Skip, Assign, Print, Guard, Call, Test, Return}
use Rattle.flow_graph.specs.Graphs.{following}
use Rattle.flow_graph.specs.MachineLaws.{first_shared, graph_hands}
use Rattle.flow_graph.specs.Machines.{graph_code, graph_machine, node_transition, received_from}
use Rattle.flow_graph.specs.Plans.{IsPlan, after_node, is_placed, next_item}
use Rattle.flow_graph.specs.Layouts.{emitted, emitted_by, item_size, place_in, plain_body, size}
use Rattle.flow_graph.specs.RedirectLaws.{resumed_at, resumed_place, assigns_alike, guards_alike}
use Rattle.flow_graph.specs.PlanLaws.{next_of, Next, last, then_, placed_at, at_placed, place_at, taken_placed, bottom, item_inst_at, is_placed_drop, one_older, no_receive, all_received}

-- ---- an index at which something is left of a list

-- where something is left, less was dropped than there is
drop_within : {A : Type 0} (k : ℕ) (xs : List A) (y : A) (ys : List A) → drop k xs ≡ y ∷ ys → k < length xs
drop_within zero [] y ys e = cc
drop_within zero (x ∷ xs) y ys e = omega arith
drop_within (suc k) [] y ys e = cc
drop_within (suc k) (x ∷ xs) y ys e = omega (arith, drop_within k xs y ys e)

-- the item after those dropped stands, mapped, at its place
mapped_at : {A B : Type 0} (f : A → B) (i : ℕ) (xs : List A) (ys : List B) (x : A) (xs' : List A) → drop i xs ≡ x ∷ xs' → slice_get (map f xs ++ ys) i ≡ Some (f x)
mapped_at f zero [] ys x xs' e = cc
mapped_at f zero (z ∷ xs) ys x xs' e = let same : z ≡ x = cc in ap (λ w. Some (f w)) same
mapped_at f (suc i) [] ys x xs' e = cc
mapped_at f (suc i) (z ∷ xs) ys x xs' e = mapped_at f i xs ys x xs' e

-- a node that can be placed
abbrev pub IsPlaceable : Option Node → Type 0
IsPlaceable None = ⊥
IsPlaceable (Some (Start next)) = ⊥
IsPlaceable (Some (Skip next)) = Unit {0}
IsPlaceable (Some (Assign x rhs next)) = Unit {0}
IsPlaceable (Some (Print a next)) = Unit {0}
IsPlaceable (Some (Guard test number next)) = Unit {0}
IsPlaceable (Some (Call into unit operands next)) = Unit {0}
IsPlaceable (Some (Test test taken other)) = Unit {0}
IsPlaceable (Some (Return a)) = Unit {0}

module _ (shared : ℕ) (received : List ℕ) (nodes : List Node) (first : ℕ) (plan : List Item) (is_plan : IsPlan nodes first plan) (done : next_item nodes first plan ≡ None) (start : slice_get nodes 0 ≡ Some (Start first)) (good : (n : ℕ) → is_placed n plan ≡ true → IsPlaceable (slice_get nodes n)) where
  abbrev r : ℕ
  r = length received

  abbrev place : ℕ → ℕ
  place = place_in nodes r plan

  abbrev body : List Inst
  body = plain_body received nodes plan

  abbrev d : Code
  d = body_code shared body

  -- the body stands at the place of the graph's node, or at a jump to it
  record Near (z : ℕ) (p q : ℕ) : Type 0 where
    older : List Item
    here : drop z plan ≡ Placed p ∷ older
    near : (q ≡ size nodes r older) ⊎ (slice_get body q ≡ Some (insts.Goto (size nodes r older)))

  record At (z : ℕ) (f g : Frame) : Type 0 where
    q : ℕ
    is : g ≡ at q f
    near : Near z f.place q

  abbrev S : Frame → Frame → Type 0
  S f g = (z : ℕ) × At z f g

  record Beginning (z : ℕ) (f g : Frame) : Type 0 where
    measure : z ≡ suc (length plan)
    entry : CallEntry
    long : length entry.globals ≡ shared
    is : f ≡ first_frame entry
    is' : g ≡ first_frame entry

  record Stands (z x y : ℕ) (f g : Frame) : Type 0 where
    counted : y ≤ x
    stands : Beginning z f g ⊎ At z f g

  into : (x y : ℕ) (f g : Frame) → y ≤ x → S f g → (z : ℕ) × Stands z x y f g
  into x y f g le s = (s.0, record { counted = le; stands = inr s.1 })

  -- the successor that follows: it is next in the plan, or a jump to it is
  data Arrived (z s q : ℕ) : Type 0 where
    falls : (z' : ℕ) (older : List Item) → drop z' plan ≡ Placed s ∷ older → q ≡ size nodes r older → z' < z → Arrived z s q
    jumps : (z' : ℕ) (older : List Item) → drop z' plan ≡ Placed s ∷ older → slice_get body q ≡ Some (insts.Goto (size nodes r older)) → Arrived z s q

  arrives_by : (z n s : ℕ) (older : List Item) (q : ℕ) (b : Bool) → is_placed s (Placed n ∷ older) ≡ b → drop z plan ≡ Placed n ∷ older → next_item nodes first (Placed n ∷ older) ≡ Some (cond b (Jump s) (Placed s)) → q ≡ size nodes r (Placed n ∷ older) → Next nodes first plan (Placed n ∷ older) z → Arrived z s q
  arrives_by z n s older q b is here next at_ (last none) = cc
  arrives_by z n s older q true is here next at_ (then_ j item e next') =
      let same : item ≡ Jump s = cc in
      let before : is_placed s plan ≡ true = is_placed_drop nodes first z s plan (subst (λ l. is_placed s l ≡ true) (sym here) is) in
      let there = placed_at nodes first s plan before in
      let inst = item_inst_at nodes first received place plan j (Jump s) (Placed n ∷ older) (insts.Goto (place s)) (e ∙ ap (λ i. i ∷ Placed n ∷ older) same) refl in
      let to = place_at nodes first r there.0 s plan there.1 is_plan there.2 in
      jumps there.0 there.1 there.2 (ap (slice_get body) at_ ∙ inst ∙ ap (λ p. Some (insts.Goto p)) to)
  arrives_by z n s older q false is here next at_ (then_ j item e next') =
      let same : item ≡ Placed s = cc in
      falls j (Placed n ∷ older) (e ∙ ap (λ i. i ∷ Placed n ∷ older) same) at_ (omega arith)

  arrives : (z n s : ℕ) (older : List Item) (q : ℕ) → drop z plan ≡ Placed n ∷ older → following (slice_get nodes n) ≡ Some s → q ≡ size nodes r (Placed n ∷ older) → Arrived z s q
  arrives z n s older q here follows at_ =
      arrives_by z n s older q (is_placed s (Placed n ∷ older)) refl here (ap (after_node nodes (Placed n ∷ older)) follows) at_ (next_of nodes first z plan (Placed n) older is_plan done here)

  to_at : (z s q : ℕ) → Arrived z s q → (f g : Frame) → f.place ≡ s → g ≡ at q f → S f g
  to_at z s q (falls z' older here at_ lt) f g e is = (z', record { q = q; is = is; near = record { older = older; here = here ∙ ap (λ p. Placed p ∷ older) (sym e); near = inl at_ } })
  to_at z s q (jumps z' older here goto) f g e is = (z', record { q = q; is = is; near = record { older = older; here = here ∙ ap (λ p. Placed p ∷ older) (sym e); near = inr goto } })

  taken_at : (z n : ℕ) (older : List Item) (test : _) (taken other : ℕ) → drop z plan ≡ Placed n ∷ older → slice_get nodes n ≡ Some (Test test taken other) → (f g : Frame) → f.place ≡ taken → g ≡ at (place taken) f → S f g
  taken_at z n older test taken other here e f g e' is =
      let there = placed_at nodes first taken plan (taken_placed nodes first plan z n older test taken other done here e) in
      let to = place_at nodes first r there.0 taken plan there.1 is_plan there.2 in
      (there.0, record { q = place taken; is = is; near = record { older = there.1; here = there.2 ∙ ap (λ p. Placed p ∷ there.1) (sym e'); near = inl to } })

  -- the instruction of a placed node, and the place after it
  inst_here : (z n : ℕ) (older : List Item) (o : Option Node) (inst : Inst) → drop z plan ≡ Placed n ∷ older → slice_get nodes n ≡ o → emitted_by place o ≡ inst ∷ [] → slice_get body (size nodes r older) ≡ Some inst
  inst_here z n older o inst here e is = item_inst_at nodes first received place plan z (Placed n) older inst here (ap (emitted_by place) e ∙ is)

  after_here : (z n s : ℕ) (older : List Item) (o : Option Node) → drop z plan ≡ Placed n ∷ older → slice_get nodes n ≡ o → length (emitted_by (λ m. m) o) ≡ 1 → following o ≡ Some s → Arrived z s (size nodes r older + 1)
  after_here z n s older o here e one follows =
      arrives z n s older (size nodes r older + 1) here (ap following e ∙ follows) (ap (λ k. size nodes r older + k) (sym (ap (λ o'. length (emitted_by (λ m. m) o')) e ∙ one)))

  node_alike : (z : ℕ) (f : Frame) (older : List Item) (node : Node) → drop z plan ≡ Placed f.place ∷ older → slice_get nodes f.place ≡ Some node → length (emitted_by (λ m. m) (Some node)) ≡ 1 → Alike S (node_transition shared received (Some node) f) (d (at (size nodes r older) f))
  node_alike z f older (Start next) here e one = cc
  node_alike z f older (Skip next) here e one = cc
  node_alike z f older (Assign x rhs next) here e one =
      let q = size nodes r older in
      let inst = inst_here z f.place older _ (insts.Assign x rhs) here e refl in
      let next' = after_here z f.place next older _ here e refl refl in
      subst (λ o. Alike S (node_transition shared received (Some (Assign x rhs next)) f) (inst_transition shared o (at q f))) (sym inst)
      (assigns_alike S x rhs next (q + 1) q f (λ v. to_at z next (q + 1) next' (assigned x v next f) (assigned x v (q + 1) f) refl refl))
  node_alike z f older (Print a next) here e one =
      let q = size nodes r older in
      let inst = inst_here z f.place older _ (insts.Print a) here e refl in
      let next' = after_here z f.place next older _ here e refl refl in
      subst (λ o. Alike S (node_transition shared received (Some (Print a next)) f) (inst_transition shared o (at q f))) (sym inst) (refl, to_at z next (q + 1) next' (at next f) (at (q + 1) f) refl refl)
  node_alike z f older (Guard test number next) here e one =
      let q = size nodes r older in
      let inst = inst_here z f.place older _ (insts.TrapIf test number) here e refl in
      let next' = after_here z f.place next older _ here e refl refl in
      subst (λ o. Alike S (node_transition shared received (Some (Guard test number next)) f) (inst_transition shared o (at q f))) (sym inst)
      (guards_alike S test number next (q + 1) q f (to_at z next (q + 1) next' (at next f) (at (q + 1) f) refl refl))
  node_alike z f older (Call into unit operands next) here e one =
      let q = size nodes r older in
      let inst = inst_here z f.place older _ (insts.Call into unit operands) here e refl in
      let next' = after_here z f.place next older _ here e refl refl in
      subst (λ o. Alike S (node_transition shared received (Some (Call into unit operands next)) f) (inst_transition shared o (at q f))) (sym inst)
      (refl, refl, λ a fits. to_at z next (q + 1) next' (resumed into a (at next f)) (resumed into a (at (q + 1) f)) (resumed_place into a (at next f)) (resumed_at into a next (q + 1) f))
  node_alike z f older (Test test taken other) here e one =
      let q = size nodes r older in
      let inst = inst_here z f.place older _ (insts.If test (place taken)) here e refl in
      let next' = after_here z f.place other older _ here e refl refl in
      subst (λ o. Alike S (node_transition shared received (Some (Test test taken other)) f) (inst_transition shared o (at q f))) (sym inst) (le_refl 0, chosen q next' (test_holds f.values test))
    where
      chosen : (q : ℕ) → Arrived z other (q + 1) → (b : Bool) → S (at (cond b taken other) f) (at (cond b (place taken) (q + 1)) (at q f))
      chosen q next' true = taken_at z f.place older test taken other here e (at taken f) (at (place taken) f) refl refl
      chosen q next' false = to_at z other (q + 1) next' (at other f) (at (q + 1) f) refl refl
  node_alike z f older (Return a) here e one =
      let q = size nodes r older in
      let inst = inst_here z f.place older _ (insts.Return a) here e refl in
      subst (λ o. Alike S (node_transition shared received (Some (Return a)) f) (inst_transition shared o (at q f))) (sym inst) refl

  emits : (z x y : ℕ) (f : Frame) (older : List Item) (node : Node) → drop z plan ≡ Placed f.place ∷ older → slice_get nodes f.place ≡ Some node → length (emitted_by (λ m. m) (Some node)) ≡ 1 → y ≤ x → Responds (Unit {0}) Stands d z x y (at (size nodes r older) f) (node_transition shared received (Some node) f)
  emits z x y f older node here e one le =
      alike_responds (Unit {0}) Stands S d into z x y (at (size nodes r older) f) (node_transition shared received (Some node) f) (d (at (size nodes r older) f)) le refl (node_alike z f older node here e one)

  skips : (z x y : ℕ) (f : Frame) (older : List Item) (next : ℕ) → y ≤ x → Arrived z next (size nodes r older) → Responds (Unit {0}) Stands d z x y (at (size nodes r older) f) (Continues 0 (at next f))
  skips z x y f older next le (falls z' older' here at_ lt) =
      let q = size nodes r older in
      record { steps = 0; cost = 0; there = at q f; silent = (refl, refl); measure = z'; related = record { counted = omega (arith, le); stands = inr (record { q = q; is = refl; near = record { older = older'; here = here; near = inl at_ } }) }; moves = inr lt }
  skips z x y f older next le (jumps z' older' here goto) =
      let q = size nodes r older in
      let q' = size nodes r older' in
      record {
        steps = 1;
        cost = 0;
        there = at q' f;
        silent = (at q' f, 0, 0, ap (λ o. inst_transition shared o (at q f)) goto, (refl, refl), refl);
        measure = z';
        related = record { counted = omega (arith, le); stands = inr (record { q = q'; is = refl; near = record { older = older'; here = here; near = inl refl } }) };
        moves = inl (omega arith);
      }

  exact_at : (z x y : ℕ) (f : Frame) (older : List Item) (o : Option Node) → drop z plan ≡ Placed f.place ∷ older → slice_get nodes f.place ≡ o → IsPlaceable o → y ≤ x → Responds (Unit {0}) Stands d z x y (at (size nodes r older) f) (node_transition shared received o f)
  exact_at z x y f older None here e p le = absurd p
  exact_at z x y f older (Some (Start next)) here e p le = absurd p
  exact_at z x y f older (Some (Skip next)) here e p le =
      skips z x y f older next le (arrives z f.place next older (size nodes r older) here (ap following e) (let none : item_size nodes (Placed f.place) ≡ 0 = ap (λ o'. length (emitted_by (λ m. m) o')) e in omega (arith, none)))
  exact_at z x y f older (Some (Assign v rhs next)) here e p le = emits z x y f older (Assign v rhs next) here e refl le
  exact_at z x y f older (Some (Print a next)) here e p le = emits z x y f older (Print a next) here e refl le
  exact_at z x y f older (Some (Guard test number next)) here e p le = emits z x y f older (Guard test number next) here e refl le
  exact_at z x y f older (Some (Call into' unit operands next)) here e p le = emits z x y f older (Call into' unit operands next) here e refl le
  exact_at z x y f older (Some (Test test taken other)) here e p le = emits z x y f older (Test test taken other) here e refl le
  exact_at z x y f older (Some (Return a)) here e p le = emits z x y f older (Return a) here e refl le

  exact : (z x y : ℕ) (f : Frame) (older : List Item) → drop z plan ≡ Placed f.place ∷ older → y ≤ x → Responds (Unit {0}) Stands d z x y (at (size nodes r older) f) (graph_code shared received nodes f)
  exact z x y f older here le = exact_at z x y f older (slice_get nodes f.place) here refl (good f.place (at_placed nodes first z f.place plan older here)) le

  at_responds : (z x y : ℕ) (f g : Frame) → At z f g → y ≤ x → Responds (Unit {0}) Stands d z x y g (graph_code shared received nodes f)
  at_responds z x y f g a le =
      subst (λ h. Responds (Unit {0}) Stands d z x y h (graph_code shared received nodes f)) (sym a.is) (elim a.near.near [
        | inl e ↦ subst (λ q. Responds (Unit {0}) Stands d z x y (at q f) (graph_code shared received nodes f)) (sym e) (exact z x y f a.near.older a.near.here le)
        | inr goto ↦ responds_past (Unit {0}) Stands d 1 0 z z x y (at a.q f) (at (size nodes r a.near.older) f) (graph_code shared received nodes f) (at (size nodes r a.near.older) f, 0, 0, ap (λ o. inst_transition shared o (at a.q f)) goto, (refl, refl), omega arith) (inl (omega arith)) (exact z x (y + 0) f a.near.older a.near.here (omega (arith, le)))
      ])

  -- the receives of the body
  receiving : (xs : List ℕ) (i j : ℕ) (arguments : List ℤ) (values : ℕ → ℤ) → drop i received ≡ xs → j ≡ i + length xs → Silently d (length xs) (record { place = i; arguments = arguments; values = values }) (record { place = j; arguments = arguments; values = received_from i xs arguments values }) 0
  receiving [] i j arguments values e long = (let same : i ≡ j = omega (arith, long) in ap (λ p. record { place = p; arguments = arguments; values = values }) same, refl)
  receiving (x ∷ xs) i j arguments values e long =
      let values' : (ℕ → ℤ) = with_value x (slice_index_or arguments i (pos 0)) values in
      let next : Frame = record { place = suc i; arguments = arguments; values = values' } in
      let here : d (record { place = i; arguments = arguments; values = values }) ≡ Continues 0 (record { place = i + 1; arguments = arguments; values = values' }) = ap (λ o. inst_transition shared o (record { place = i; arguments = arguments; values = values })) (mapped_at insts.Receive i received (emitted nodes place plan) x xs e) in
      let one : i + 1 ≡ suc i = omega arith in
      (next, 0, 0, here ∙ ap (λ p. Continues 0 (record { place = p; arguments = arguments; values = values' })) one, receiving xs (suc i) j arguments values' (one_older i received x xs e) (omega (arith, long)), refl)

  begins : (z x y : ℕ) (entry : CallEntry) → length entry.globals ≡ shared → z ≡ suc (length plan) → y ≤ x → Responds (Unit {0}) Stands d z x y (first_frame entry) (graph_code shared received nodes (first_frame entry))
  begins z x y entry long m le =
      let b = bottom nodes first plan is_plan done in
      let f : Frame = record { place = first; arguments = entry.arguments; values = received_from 0 received entry.arguments (first_frame entry).values } in
      subst (Responds (Unit {0}) Stands d z x y (first_frame entry)) (sym (ap (λ o. node_transition shared received o (first_frame entry)) start ∙ ap (λ l. Continues 0 (record { place = first; arguments = entry.arguments; values = received_from 0 received entry.arguments (with_first l all_zero) })) (first_shared shared entry.globals all_zero long)))
      (record {
        steps = r;
        cost = 0;
        there = at r f;
        silent = receiving received 0 r entry.arguments (first_frame entry).values refl (sym (zero-add r));
        measure = b.0;
        related = record { counted = omega (arith, le); stands = inr (record { q = r; is = refl; near = record { older = []; here = b.1; near = inl refl } }) };
        moves = inr (omega (arith, m, drop_within b.0 plan _ _ b.1));
      })

  responds : (z x y : ℕ) (f g : Frame) → Stands z x y f g → Responds (Unit {0}) Stands d z x y g (graph_code shared received nodes f)
  responds z x y f g s =
      elim s.stands [
        | inl b ↦ subst (λ h. Responds (Unit {0}) Stands d z x y h (graph_code shared received nodes f)) (sym b.is') (subst (λ h. Responds (Unit {0}) Stands d z x y (first_frame b.entry) (graph_code shared received nodes h)) (sym b.is) (begins z x y b.entry b.long b.measure s.counted))
        | inr a ↦ at_responds z x y f g a s.counted
      ]

  simulates : Simulates (graph_machine shared received nodes) (body_machine shared body) (Unit {0}) Stands
  simulates = record {
    receives = sym (all_received received (emitted nodes place plan) (no_receive nodes place plan));
    shared = refl;
    hands = graph_hands shared received nodes;
    starts = λ entry is. (suc (length plan), record { counted = le_refl 0; stands = inl (record { measure = refl; entry = entry; long = is.globals.long; is = refl; is' = refl }) });
    responds = responds;
  }

  pub placed_same : UnitSame (graph_machine shared received nodes) (body_machine shared body)
  placed_same = simulated_same _ _ (Unit {0}) Stands simulates

  pub placed_cheaper : UnitCheaper (graph_machine shared received nodes) (body_machine shared body)
  placed_cheaper = simulated_cheaper _ _ (Unit {0}) Stands simulates tt
