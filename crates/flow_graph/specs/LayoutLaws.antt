-- The layout of a graph is tidy and does the same.
use Rattle.std.proofs.Common.{◌≡◌, ℕ, ◌<◌, ◌≤◌, Bool, true, false, cond, eqb, ◌||◌, List, [], ◌∷◌, ◌++◌, map, flat_map, length, take, slice_get, slice_index_or, Option, Some, None, option_map, refl, sym, ap, ◌∙◌, subst, arith, eqb-true}
use Rattle.std.proofs.lemmas.Option.{slice_get-get_or}
use Rattle.std.proofs.lemmas.Grind.{flat_map-append}
use Rattle.mir_base.specs.declared.instructions.Inst.{Inst}
use Rattle.mir_base.specs.declared.instructions.Inst.TheVariants as insts
use Rattle.mir_base.specs.UnitRuns.{UnitSame, UnitCheaper, body_machine, unit_machine}
use Rattle.mir_base.specs.Frames.{shared_vars}
use Rattle.mir_base.specs.SharedLaws.{shared_below}
use Rattle.mir_base.specs.BelowLaws.{all_below_append}
use Rattle.mir_base.specs.Shapes.{UnitShape, inst_vars, AllBelow, IsTidy}
use Rattle.mir_base.specs.UnitLaws.{same_trans, cheaper_trans}
use Rattle.flow_graph.specs.declared.plan.Item.{Item}
use Rattle.flow_graph.specs.declared.plan.Item.TheVariants.{Placed, Jump}
use Rattle.flow_graph.specs.declared.nodes.Node.{Node}
use Rattle.flow_graph.specs.declared.nodes.Node.TheVariants.{Start, Skip, Assign, Print, Guard, Call, Test, Return}
use Rattle.flow_graph.specs.Graphs.{GraphShape, IsGraph, following, node_vars, succs_of}
use Rattle.flow_graph.specs.Machines.{graph_machine, machine_of}
use Rattle.std.specs.Option.{option_or}
use Rattle.flow_graph.specs.Plans.{IsPlan, after_node, first_open, is_placed, next_item, open_at, start_succ}
use Rattle.flow_graph.specs.Numbering.{first_index, renamed, renumbered, seen_in}
use Rattle.flow_graph.specs.Layouts.{IsLaid, IsLayout, emitted, emitted_by, item_insts, place_in, plain_body}
use Rattle.flow_graph.specs.PlanPlaces.{IsPlaceable, placed_same, placed_cheaper}
use Rattle.flow_graph.specs.RenamingLaws.{renumbered_names, renumbered_same, renumbered_cheaper, renumbered_tidy, seen_below}
use Rattle.flow_graph.specs.Keeps.{AsGraph, AsUnit, Keeps}
use Rattle.flow_graph.specs.MadeCalls.{laid_calls}

-- a number of a node that is not Start
abbrev pub IsInner : List Node → ℕ → Type 0
IsInner nodes n = (1 ≤ n) × (n < length nodes)

module _ (shared : ℕ) (vars : List (List ℕ)) (received : List ℕ) (nodes : List Node) (graph : IsGraph vars received nodes) where
  follows_inner : (m : ℕ) (o : Option Node) (s : ℕ) → slice_get nodes m ≡ o → following o ≡ Some s → IsInner nodes s
  follows_inner m None s e f = cc
  follows_inner m (Some (Start next)) s e f = let same : next ≡ s = cc in graph.can.succs m 0 s (ap (λ o. slice_get (succs_of o) 0) e ∙ ap Some same)
  follows_inner m (Some (Skip next)) s e f = let same : next ≡ s = cc in graph.can.succs m 0 s (ap (λ o. slice_get (succs_of o) 0) e ∙ ap Some same)
  follows_inner m (Some (Assign x rhs next)) s e f = let same : next ≡ s = cc in graph.can.succs m 0 s (ap (λ o. slice_get (succs_of o) 0) e ∙ ap Some same)
  follows_inner m (Some (Print a next)) s e f = let same : next ≡ s = cc in graph.can.succs m 0 s (ap (λ o. slice_get (succs_of o) 0) e ∙ ap Some same)
  follows_inner m (Some (Guard test number next)) s e f = let same : next ≡ s = cc in graph.can.succs m 0 s (ap (λ o. slice_get (succs_of o) 0) e ∙ ap Some same)
  follows_inner m (Some (Call into unit operands next)) s e f = let same : next ≡ s = cc in graph.can.succs m 0 s (ap (λ o. slice_get (succs_of o) 0) e ∙ ap Some same)
  follows_inner m (Some (Test test taken other)) s e f = let same : other ≡ s = cc in graph.can.succs m 1 s (ap (λ o. slice_get (succs_of o) 1) e ∙ ap Some same)
  follows_inner m (Some (Return a)) s e f = cc

  open_inner : (plan : List Item) (m : ℕ) (o : Option Node) (s : ℕ) → slice_get nodes m ≡ o → open_at plan o ≡ Some s → IsInner nodes s
  open_inner plan m None s e f = cc
  open_inner plan m (Some (Start next)) s e f = cc
  open_inner plan m (Some (Skip next)) s e f = cc
  open_inner plan m (Some (Assign x rhs next)) s e f = cc
  open_inner plan m (Some (Print a next)) s e f = cc
  open_inner plan m (Some (Guard test number next)) s e f = cc
  open_inner plan m (Some (Call into unit operands next)) s e f = cc
  open_inner plan m (Some (Return a)) s e f = cc
  open_inner plan m (Some (Test test taken other)) s e f = chosen (is_placed taken plan) f
    where
      chosen : (b : Bool) → cond b None (Some taken) ≡ Some s → IsInner nodes s
      chosen true f' = cc
      chosen false f' = let same : taken ≡ s = cc in graph.can.succs m 0 s (ap (λ o. slice_get (succs_of o) 0) e ∙ ap Some same)

  first_inner : (plan items : List Item) (s : ℕ) → first_open nodes plan items ≡ Some s → IsInner nodes s
  first_inner plan [] s e = cc
  first_inner plan (Placed n ∷ older) s e = chosen (first_open nodes plan older) (first_inner plan older s) e
    where
      chosen : (o : Option ℕ) → (o ≡ Some s → IsInner nodes s) → option_or o (open_at plan (slice_get nodes n)) ≡ Some s → IsInner nodes s
      chosen None ih e' = open_inner plan n (slice_get nodes n) s refl e'
      chosen (Some t) ih e' = ih e'
  first_inner plan (Jump n ∷ older) s e = first_inner plan older s e

  new_inner : (plan : List Item) (o : Option ℕ) (s : ℕ) → first_open nodes plan plan ≡ o → option_map Placed o ≡ Some (Placed s) → IsInner nodes s
  new_inner plan None s e f = cc
  new_inner plan (Some t) s e f = let same : t ≡ s = cc in first_inner plan plan s (e ∙ ap Some same)

  after_inner : (plan : List Item) (n : ℕ) (o : Option ℕ) (s : ℕ) → following (slice_get nodes n) ≡ o → after_node nodes plan o ≡ Some (Placed s) → IsInner nodes s
  after_inner plan n None s e f = new_inner plan (first_open nodes plan plan) s refl f
  after_inner plan n (Some t) s e f = chosen (is_placed t plan) f
    where
      chosen : (b : Bool) → Some (cond b (Jump t) (Placed t)) ≡ Some (Placed s) → IsInner nodes s
      chosen true f' = cc
      chosen false f' = let same : t ≡ s = cc in follows_inner n (slice_get nodes n) s refl (e ∙ ap Some same)

  start_inner : (o : Option Node) (s : ℕ) → slice_get nodes 0 ≡ o → o ≡ Some (Start s) → IsInner nodes (start_succ o)
  start_inner o s e f = subst (λ o'. IsInner nodes (start_succ o')) (sym f) (graph.can.succs 0 0 s (ap (λ o'. slice_get (succs_of o') 0) (e ∙ f)))

  abbrev first : ℕ
  first = start_succ (slice_get nodes 0)

  next_inner : (older : List Item) (s : ℕ) → next_item nodes first older ≡ Some (Placed s) → IsInner nodes s
  next_inner [] s e = let same : first ≡ s = cc in subst (IsInner nodes) same (start_inner (slice_get nodes 0) graph.can.start.0 refl graph.can.start.1)
  next_inner (Placed n ∷ older) s e = after_inner (Placed n ∷ older) n (following (slice_get nodes n)) s refl e
  next_inner (Jump n ∷ older) s e = new_inner (Jump n ∷ older) (first_open nodes (Jump n ∷ older) (Jump n ∷ older)) s refl e

  pub placed_inner : (plan : List Item) → IsPlan nodes first plan → (n : ℕ) → is_placed n plan ≡ true → IsInner nodes n
  placed_inner [] p n e = cc
  placed_inner (Jump m ∷ older) p n e = placed_inner older p.1 n e
  placed_inner (Placed m ∷ older) p n e = chosen (eqb m n) refl (placed_inner older p.1 n) e
    where
      chosen : (b : Bool) → eqb m n ≡ b → (is_placed n older ≡ true → IsInner nodes n) → b || is_placed n older ≡ true → IsInner nodes n
      chosen true is ih e' = subst (IsInner nodes) (eqb-true m n is) (next_inner older m p.0)
      chosen false is ih e' = ih e'

  placeable_at : (n : ℕ) (o : Option Node) → slice_get nodes n ≡ o → 1 ≤ n → n < length nodes → IsPlaceable o
  placeable_at n None e le lt = let there = slice_get-get_or nodes n (Skip 0) lt in cc
  placeable_at n (Some (Start next)) e le lt = let zero_ : n ≡ 0 = graph.can.only n next e in absurd (omega arith)
  placeable_at n (Some (Skip next)) e le lt = tt
  placeable_at n (Some (Assign x rhs next)) e le lt = tt
  placeable_at n (Some (Print a next)) e le lt = tt
  placeable_at n (Some (Guard test number next)) e le lt = tt
  placeable_at n (Some (Call into unit operands next)) e le lt = tt
  placeable_at n (Some (Test test taken other)) e le lt = tt
  placeable_at n (Some (Return a)) e le lt = tt

  placeable : (plan : List Item) → IsPlan nodes first plan → (n : ℕ) → is_placed n plan ≡ true → IsPlaceable (slice_get nodes n)
  placeable plan p n e = let i = placed_inner plan p n e in placeable_at n (slice_get nodes n) refl i.0 i.1

  -- ---- variables

  emitted_below : (m : ℕ) (place : ℕ → ℕ) (node : Node) → AllBelow m (node_vars node) → AllBelow m (flat_map inst_vars (emitted_by place (Some node)))
  emitted_below m place (Start next) h = tt
  emitted_below m place (Skip next) h = tt
  emitted_below m place (Assign x rhs next) h = (h.0, all_below_append m _ [] h.1 tt)
  emitted_below m place (Print a next) h = all_below_append m _ [] h tt
  emitted_below m place (Guard test number next) h = all_below_append m _ [] h tt
  emitted_below m place (Call into unit operands next) h = all_below_append m _ [] h tt
  emitted_below m place (Test test taken other) h = all_below_append m _ [] h tt
  emitted_below m place (Return a) h = all_below_append m _ [] h tt

  at_below : (place : ℕ → ℕ) (n : ℕ) (o : Option Node) → slice_get nodes n ≡ o → AllBelow (length vars) (flat_map inst_vars (emitted_by place o))
  at_below place n None e = tt
  at_below place n (Some node) e = emitted_below (length vars) place node (graph.can.below n node e)

  item_below : (place : ℕ → ℕ) (item : Item) → AllBelow (length vars) (flat_map inst_vars (item_insts nodes place item))
  item_below place (Placed n) = at_below place n (slice_get nodes n) refl
  item_below place (Jump n) = tt

  all_below : (place : ℕ → ℕ) (plan : List Item) → AllBelow (length vars) (flat_map inst_vars (emitted nodes place plan))
  all_below place [] = tt
  all_below place (item ∷ older) =
      subst (AllBelow (length vars)) (sym (flat_map-append inst_vars (emitted nodes place older) (item_insts nodes place item))) (all_below_append (length vars) _ _ (all_below place older) (item_below place item))

  received_vars : (xs : List ℕ) → flat_map inst_vars (map insts.Receive xs) ≡ xs
  received_vars [] = refl
  received_vars (x ∷ xs) = ap (λ l. x ∷ l) (received_vars xs)

  plain_below : (plan : List Item) → AllBelow (length vars) (flat_map inst_vars (plain_body received nodes plan))
  plain_below plan =
      let place = place_in nodes (length received) plan in
      subst (AllBelow (length vars)) (sym (flat_map-append inst_vars (map insts.Receive received) (emitted nodes place plan) ∙ ap (λ l. l ++ flat_map inst_vars (emitted nodes place plan)) (received_vars received))) (all_below_append (length vars) received _ graph.can.received_below (all_below place plan))

  -- ---- the layout

  pub layout_tidy : shared ≤ length vars → (plan : List Item) → IsTidy shared (map (λ x. slice_index_or vars x []) (seen_in shared (plain_body received nodes plan))) (renumbered shared (plain_body received nodes plan))
  layout_tidy least plan = renumbered_tidy shared vars (plain_body received nodes plan) least graph.can.names (plain_below plan)

  started : slice_get nodes 0 ≡ Some (Start first)
  started = graph.can.start.1 ∙ ap (λ o. Some (Start (start_succ o))) (sym graph.can.start.1)

  pub plan_same : (plan : List Item) → IsPlan nodes first plan → next_item nodes first plan ≡ None → UnitSame (graph_machine shared received nodes) (body_machine shared (renumbered shared (plain_body received nodes plan)))
  plan_same plan p done =
      same_trans (graph_machine shared received nodes) (body_machine shared (plain_body received nodes plan)) _ (placed_same shared received nodes first plan p done started (placeable plan p)) (renumbered_same shared (plain_body received nodes plan))

  pub plan_cheaper : (plan : List Item) → IsPlan nodes first plan → next_item nodes first plan ≡ None → UnitCheaper (graph_machine shared received nodes) (body_machine shared (renumbered shared (plain_body received nodes plan)))
  plan_cheaper plan p done =
      cheaper_trans (graph_machine shared received nodes) (body_machine shared (plain_body received nodes plan)) _ (placed_same shared received nodes first plan p done started (placeable plan p)) (placed_cheaper shared received nodes first plan p done started (placeable plan p)) (renumbered_cheaper shared (plain_body received nodes plan))

-- the body of a layout is tidy
pub laid_tidy : (shared : ℕ) (vars : List (List ℕ)) (received : List ℕ) (nodes : List Node) (names : List (List ℕ)) (body : List Inst) → IsGraph vars received nodes → shared ≤ length vars → IsLaid shared vars received nodes names body → IsTidy shared names body
laid_tidy shared vars received nodes names body g least l =
    subst (λ n. IsTidy shared n body) (sym l.names_are) (subst (IsTidy shared (map (λ x. slice_index_or vars x []) (seen_in shared (plain_body received nodes l.plan)))) (sym l.body_is) (layout_tidy shared vars received nodes g least l.plan))

-- the variables of the plain body are in range
pub body_low : (vars : List (List ℕ)) (received : List ℕ) (nodes : List Node) → IsGraph vars received nodes → (plan : List Item) (plain : List Inst) → plain ≡ plain_body received nodes plan → AllBelow (length vars) (flat_map inst_vars plain)
body_low vars received nodes g plan plain e = subst (λ b. AllBelow (length vars) (flat_map inst_vars b)) (sym e) (plain_below 0 vars received nodes g plan)

-- the successor of Start is a node
pub first_low : (vars : List (List ℕ)) (received : List ℕ) (nodes : List Node) → IsGraph vars received nodes → start_succ (slice_get nodes 0) < length nodes
first_low vars received nodes g = (start_inner 0 vars received nodes g (slice_get nodes 0) g.can.start.0 refl g.can.start.1).1

-- the variables seen are in range
pub seen_low : (shared : ℕ) (vars : List (List ℕ)) (received : List ℕ) (nodes : List Node) → IsGraph vars received nodes → shared ≤ length vars → (plan : List Item) (plain : List Inst) (seen : List ℕ) → plain ≡ plain_body received nodes plan → seen ≡ seen_in shared plain → AllBelow (length vars) seen
seen_low shared vars received nodes g least plan plain seen e e' =
    subst (AllBelow (length vars)) (sym (e' ∙ ap (seen_in shared) e)) (seen_below (length vars) (shared_vars shared) (flat_map inst_vars (plain_body received nodes plan)) (shared_below (length vars) shared least) (plain_below 0 vars received nodes g plan))

-- what `lay` makes is a layout
pub laid_by : (shared : ℕ) (vars : List (List ℕ)) (received : List ℕ) (nodes : List Node) (plan : List Item) (first : ℕ) (plain body : List Inst) (seen : List ℕ) (names : List (List ℕ)) → first ≡ start_succ (slice_get nodes 0) → IsPlan nodes first plan → next_item nodes first plan ≡ None → plain ≡ plain_body received nodes plan → seen ≡ seen_in shared plain → body ≡ map (renamed (first_index seen)) plain → names ≡ map (λ x. slice_index_or vars x []) seen → IsLaid shared vars received nodes names body
laid_by shared vars received nodes plan first plain body seen names f p done e e' e'' n = record {
  plan = plan;
  is_plan = record { is_plan = subst (λ k. IsPlan nodes k plan) f p; complete = subst (λ k. next_item nodes k plan ≡ None) f done };
  names_are = n ∙ ap (map (λ x. slice_index_or vars x [])) (e' ∙ ap (seen_in shared) e);
  body_is = e'' ∙ ap (λ s. map (renamed (first_index s)) plain) e' ∙ ap (λ b. map (renamed (first_index (seen_in shared b))) b) e;
}

-- the unit of a graph does the same
pub layout_same : (graph : GraphShape) (unit : UnitShape) → IsGraph graph.vars graph.received graph.nodes → IsLayout graph unit → UnitSame (machine_of graph) (unit_machine unit)
layout_same graph unit g l = subst (λ k. UnitSame (machine_of graph) (body_machine k unit.body)) (sym l.shared) (subst (λ b. UnitSame (machine_of graph) (body_machine graph.shared b)) (sym l.laid.body_is) (plan_same graph.shared graph.vars graph.received graph.nodes g l.laid.plan l.laid.is_plan.is_plan l.laid.is_plan.complete))

-- and evaluates no more operators
pub layout_cheaper : (graph : GraphShape) (unit : UnitShape) → IsGraph graph.vars graph.received graph.nodes → IsLayout graph unit → UnitCheaper (machine_of graph) (unit_machine unit)
layout_cheaper graph unit g l = subst (λ k. UnitCheaper (machine_of graph) (body_machine k unit.body)) (sym l.shared) (subst (λ b. UnitCheaper (machine_of graph) (body_machine graph.shared b)) (sym l.laid.body_is) (plan_cheaper graph.shared graph.vars graph.received graph.nodes g l.laid.plan l.laid.is_plan.is_plan l.laid.is_plan.complete))

-- so the unit keeps all that passes keep
pub layout_keeps : (graph : GraphShape) (unit : UnitShape) → IsGraph graph.vars graph.received graph.nodes → graph.shared ≤ length graph.vars → IsLayout graph unit → Keeps (AsGraph graph) (AsUnit unit)
layout_keeps graph unit g least l = record {
  name = l.name;
  globals = ap (λ k. take k unit.vars) l.shared ∙ ap (take graph.shared) l.laid.names_are ∙ renumbered_names graph.shared graph.vars (plain_body graph.received graph.nodes l.laid.plan) least;
  same = layout_same graph unit g l;
  cheaper = layout_cheaper graph unit g l;
  calls = laid_calls graph.shared graph.vars graph.received graph.nodes unit.vars unit.body l.laid;
}
