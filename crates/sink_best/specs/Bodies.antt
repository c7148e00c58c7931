-- The body that a plan emits, walked as a path of the graph goes, up to a node at which a walk stops: the walk is
-- determined by the ways that are taken at such nodes, and passes the assignments of the path. For proofs only.
use Rattle.std.proofs.Common.{◌≡◌, ◌+◌, ◌<◌, ◌≤◌, ℕ, zero, suc, Bool, true, false, not, if◌then◌else◌, List, [], ◌∷◌, map, length, drop, slice_get, Option, Some, None, inl, inr, refl, sym, ap, ◌∙◌, subst, arith}
use Rattle.std.proofs.lemmas.Bool.{false≢true}
use Rattle.std.proofs.lemmas.Option.{none-some, same_Some}
use Rattle.mir_base.specs.Expressions.{divides}
use Rattle.mir_base.specs.ItemLaws.{one_item}
use Rattle.mir_base.specs.declared.instructions.Rhs.{Rhs}
use Rattle.mir_base.specs.declared.instructions.Inst.{Inst}
use Rattle.mir_base.specs.declared.instructions.Inst.TheVariants as insts
use Rattle.flow_graph.specs.declared.plan.Item.{Item}
use Rattle.flow_graph.specs.declared.plan.Item.TheVariants.{Placed, Jump}
use Rattle.flow_graph.specs.declared.nodes.Node.{Node}
use Rattle.flow_graph.specs.declared.nodes.Node.TheVariants.{Start, Skip, Assign, Print, Guard, Call, Test, Return}
use Rattle.flow_graph.specs.Graphs.{IsEdge, IsGraph, succs_of}
use Rattle.flow_graph.specs.Layouts.{IsLaid, emitted, emitted_by, item_insts, item_size, place_in, plain_body, size}
use Rattle.flow_graph.specs.ListLaws.{get_append}
use Rattle.flow_graph.specs.Paths.{HasEdge, Trace, from_start, goes_on}
use Rattle.flow_graph.specs.Numbering.{seen_in}
use Rattle.flow_graph.specs.Plans.{IsPlan, next_item, start_succ}
use Rattle.flow_graph.specs.Sums.{one_if, sum_on}
use Rattle.flow_graph.specs.PlanLaws.{item_inst_at, place_at, placed_at, size_is, taken_placed}
use Rattle.flow_graph.specs.LayoutLaws.{seen_low}
use Rattle.sink_rounds.specs.BodyWalks.{Near, Onward, Walk, begins, ends, from_near, goes, past_none, past_one}
use Rattle.sink_rounds.specs.Names.{same_bodies}
use Rattle.mir_base.specs.declared.instructions.Operand.TheVariants.{Var}
use Rattle.mir_base.specs.declared.instructions.Rhs.TheVariants.{Plain}
use Rattle.graph_edit.specs.Accesses.{is_occurrence}
use Rattle.sink_best.specs.GraphWalks.{is_firm}
use Rattle.sink_best.specs.Ways.{with_way, ways_on}

-- ---- walks

-- the place after an instruction at which a walk stops where no way is left
abbrev pub past_stop : ℕ → List ℕ → Option (ℕ × List ℕ)
past_stop q [] = None
past_stop q (slot ∷ ways) = Some (q + 1, ways)

-- the place after an assignment, at which a walk stops where it divides and no way is left
abbrev pub past_assign : Bool → ℕ → List ℕ → Option (ℕ × List ℕ)
past_assign true q ways = past_stop q ways
past_assign false q ways = Some (q + 1, ways)

-- the place after an instruction, and the ways that are left
abbrev pub moves : Inst → ℕ → List ℕ → Option (ℕ × List ℕ)
moves (insts.Receive x) q ways = Some (q + 1, ways)
moves (insts.Assign x rhs) q ways = past_assign (divides rhs) q ways
moves (insts.Goto p) q ways = Some (p, ways)
moves (insts.If test p) q [] = None
moves (insts.If test p) q (zero ∷ ways) = Some (p, ways)
moves (insts.If test p) q (suc slot ∷ ways) = Some (q + 1, ways)
moves (insts.Call into unit operands) q ways = past_stop q ways
moves (insts.Print a) q ways = past_stop q ways
moves (insts.TrapIf test number) q ways = past_stop q ways
moves (insts.Return a) q ways = None

-- a jump leads to its place
pub jumps : (p q : ℕ) (ways : List ℕ) → moves (insts.Goto p) q ways ≡ Some (p, ways)
jumps p q ways = refl

-- from place q the body is walked these ways, up to where a walk stops and no way is left, past so many x <- t
abbrev pub Walked : ℕ → Rhs → List Inst → ℕ → List ℕ → ℕ → Type 0
Walked = Walk moves

-- a walk goes past an assignment where a way is given for it exactly if it divides
assign_moves : (b : Bool) (k slot : ℕ) (ways : List ℕ) → past_assign b k (if b then slot ∷ ways else ways) ≡ Some (k + 1, ways)
assign_moves true k slot ways = refl
assign_moves false k slot ways = refl

-- it is firm and not Start: it emits an instruction at which a walk stops
abbrev pub is_stop : Option Node → Bool
is_stop None = false
is_stop (Some (Start next)) = false
is_stop (Some (Skip next)) = false
is_stop (Some (Assign x rhs next)) = divides rhs
is_stop (Some (Print a next)) = true
is_stop (Some (Guard test number next)) = true
is_stop (Some (Call into unit operands next)) = true
is_stop (Some (Test test taken other)) = true
is_stop (Some (Return a)) = true

-- ---- a path of the nodes, walked

module _ (x : ℕ) (t : Rhs) (received : List ℕ) (nodes : List Node) (first : ℕ) (plan : List Item) (is_plan : IsPlan nodes first plan) (done : next_item nodes first plan ≡ None) where
  abbrev r : ℕ
  r = length received

  abbrev place : ℕ → ℕ
  place = place_in nodes r plan

  abbrev body : List Inst
  body = plain_body received nodes plan

  -- past each kind of node
  pub onward : (n s slot q : ℕ) → Near received nodes first plan is_plan done n q → IsEdge nodes n slot s → Onward moves jumps with_way x t received nodes first plan is_plan done n s slot q
  onward n s slot q near edge = by (slice_get nodes n) refl (edge)
    where
      by : (o : Option Node) → slice_get nodes n ≡ o → slice_get (succs_of o) slot ≡ Some s → Onward moves jumps with_way x t received nodes first plan is_plan done n s slot q
      by None is e = absurd (none-some s e)
      by (Some (Start next)) is e = past_none moves jumps with_way x t received nodes first plan is_plan done n s slot q near (Some (Start next)) is refl (ap (λ (k : ℕ). Some k) (one_item next s slot e)) refl (λ ways. refl)
      by (Some (Skip next)) is e = past_none moves jumps with_way x t received nodes first plan is_plan done n s slot q near (Some (Skip next)) is refl (ap (λ (k : ℕ). Some k) (one_item next s slot e)) refl (λ ways. refl)
      by (Some (Assign y rhs next)) is e = past_one moves jumps with_way x t received nodes first plan is_plan done n s slot q near (Some (Assign y rhs next)) (insts.Assign y rhs) is refl refl (ap (λ (k : ℕ). Some k) (one_item next s slot e)) (λ k ways. assign_moves (divides rhs) k slot ways) refl
      by (Some (Print a next)) is e = past_one moves jumps with_way x t received nodes first plan is_plan done n s slot q near (Some (Print a next)) (insts.Print a) is refl refl (ap (λ (k : ℕ). Some k) (one_item next s slot e)) (λ k ways. refl) refl
      by (Some (Guard test number next)) is e = past_one moves jumps with_way x t received nodes first plan is_plan done n s slot q near (Some (Guard test number next)) (insts.TrapIf test number) is refl refl (ap (λ (k : ℕ). Some k) (one_item next s slot e)) (λ k ways. refl) refl
      by (Some (Call into unit operands next)) is e = past_one moves jumps with_way x t received nodes first plan is_plan done n s slot q near (Some (Call into unit operands next)) (insts.Call into unit operands) is refl refl (ap (λ (k : ℕ). Some k) (one_item next s slot e)) (λ k ways. refl) refl
      by (Some (Test test taken other)) is e = way slot e
        where
          way : (slot : ℕ) → slice_get (taken ∷ other ∷ []) slot ≡ Some s → Onward moves jumps with_way x t received nodes first plan is_plan done n s slot q
          way zero e =
              let there = placed_at nodes first taken plan (taken_placed nodes first plan near.z n near.older test taken other done near.here is) in
              let to = place_at nodes first r there.0 taken plan there.1 is_plan there.2 in
              let same : taken ≡ s = cc in
              let stands = item_inst_at nodes first received place plan near.z (Placed n) near.older (insts.If test (place taken)) near.here (ap (emitted_by place) is) in
              record {
                to = place taken;
                near = record { z = there.0; older = there.1; here = there.2 ∙ ap (λ m. Placed m ∷ there.1) same; near = inl to };
                walks = λ ways count walk. subst (λ o'. Walked x t body q (with_way o' 0 ways) (one_if (is_occurrence x t o') + count)) (sym is)
                    (from_near moves jumps with_way x t received nodes first plan is_plan done n q near (0 ∷ ways) (0 + count) (goes (size nodes r near.older) (0 ∷ ways) (insts.If test (place taken)) (place taken) ways count (0 + count) stands refl walk refl));
              }
          way (suc zero) e = past_one moves jumps with_way x t received nodes first plan is_plan done n s 1 q near (Some (Test test taken other)) (insts.If test (place taken)) is refl refl e (λ k ways. refl) refl
          way (suc (suc slot)) e = absurd (none-some s e)
      by (Some (Return a)) is e = absurd (none-some s e)

  assign_stops : (b : Bool) (k : ℕ) → b ≡ true → past_assign b k [] ≡ None
  assign_stops true k e = refl
  assign_stops false k e = absurd (false≢true e)

  -- at a node that stops a walk it ends where no way is left
  pub at_stop : (n q : ℕ) → Near received nodes first plan is_plan done n q → is_stop (slice_get nodes n) ≡ true → Walked x t (plain_body received nodes plan) q [] 0
  at_stop n q near stops = by (slice_get nodes n) refl stops
    where
      here : (inst : Inst) → emitted_by place (slice_get nodes n) ≡ inst ∷ [] → moves inst (size nodes r near.older) [] ≡ None → Walked x t body q [] 0
      here inst emits none = from_near moves jumps with_way x t received nodes first plan is_plan done n q near [] 0 (ends (size nodes r near.older) [] inst (item_inst_at nodes first received place plan near.z (Placed n) near.older inst near.here emits) none)

      by : (o : Option Node) → slice_get nodes n ≡ o → is_stop o ≡ true → Walked x t body q [] 0
      by None is e = absurd (false≢true e)
      by (Some (Start next)) is e = absurd (false≢true e)
      by (Some (Skip next)) is e = absurd (false≢true e)
      by (Some (Assign y rhs next)) is e = here (insts.Assign y rhs) (ap (emitted_by place) is) (assign_stops (divides rhs) (size nodes r near.older) e)
      by (Some (Print a next)) is e = here (insts.Print a) (ap (emitted_by place) is) refl
      by (Some (Guard test number next)) is e = here (insts.TrapIf test number) (ap (emitted_by place) is) refl
      by (Some (Call into unit operands next)) is e = here (insts.Call into unit operands) (ap (emitted_by place) is) refl
      by (Some (Test test taken other)) is e = here (insts.If test (place taken)) (ap (emitted_by place) is) refl
      by (Some (Return a)) is e = here (insts.Return a) (ap (emitted_by place) is) refl

  -- ---- a path from Start, walked from the first node on

  abbrev pub mine : ℕ → ℕ
  mine n = one_if (is_occurrence x t (slice_get nodes n))

  module _ (start : slice_get nodes 0 ≡ Some (Start first)) where
    -- each node behind Start has a place
    pub near_on : (m : ℕ) (before : List ℕ) (trace : Trace nodes m before) (n : ℕ) → HasEdge nodes m n → (q : ℕ) × Near received nodes first plan is_plan done n q
    near_on m before from_start n edge =
        let first_is : first ≡ n = one_item first n edge.0 (sym (ap (λ (o : Option Node). slice_get (succs_of o) edge.0) start) ∙ edge.1) in
        (r, subst (λ k. Near received nodes first plan is_plan done k r) first_is (begins received nodes first plan is_plan done))
    near_on m before (goes_on k m' earlier trace edge') n edge =
        let there = near_on k earlier trace m edge' in
        let on = onward m n edge.0 there.0 there.1 edge.1 in
        (on.to, on.near)

    -- what is walked from a node on is walked from the first on, along a path
    pub walk_on : (m : ℕ) (before : List ℕ) (trace : Trace nodes m before) (n : ℕ) (edge : HasEdge nodes m n) (ways : List ℕ) (count : ℕ)
        → ((q : ℕ) → Near received nodes first plan is_plan done n q → Walked x t (plain_body received nodes plan) q ways count)
        → Walked x t (plain_body received nodes plan) (length received) (ways_on nodes m before trace (with_way (slice_get nodes m) edge.0 ways)) (sum_on mine (m ∷ before) + count)
    walk_on m before from_start n edge ways count go =
        let first_is : first ≡ n = one_item first n edge.0 (sym (ap (λ (o : Option Node). slice_get (succs_of o) edge.0) start) ∙ edge.1) in
        let none : mine 0 ≡ 0 = ap (λ o. one_if (is_occurrence x t o)) start in
        subst (λ l. Walked x t body r l (sum_on mine (0 ∷ []) + count)) (sym (ap (λ o. with_way o edge.0 ways) start))
        (subst (Walked x t body r ways) (let e : count ≡ sum_on mine (0 ∷ []) + count = omega (arith, none) in e) (go r (subst (λ k. Near received nodes first plan is_plan done k r) first_is (begins received nodes first plan is_plan done))))
    walk_on m before (goes_on k m' earlier trace edge') n edge ways count go =
        let on = λ (q : ℕ) (near : Near received nodes first plan is_plan done m q). onward m n edge.0 q near edge.1 in
        let deeper = walk_on k earlier trace m edge' (with_way (slice_get nodes m) edge.0 ways) (mine m + count) (λ q near. (let o = onward m n edge.0 q near edge.1 in o.walks ways count (go o.to o.near))) in
        subst (Walked x t body r (ways_on nodes m (k ∷ earlier) (goes_on k m earlier trace edge') (with_way (slice_get nodes m) edge.0 ways))) (let e : sum_on mine (k ∷ earlier) + (mine m + count) ≡ sum_on mine (m ∷ k ∷ earlier) + count = omega arith in e) deeper

-- ---- where an assignment of the body comes from

-- a node that emits it
pub record EmittedAt (x : ℕ) (t : Rhs) (received : List ℕ) (nodes : List Node) (plan : List Item)
    (q : ℕ) : Type 0 where
  pub z : ℕ
  pub n : ℕ
  pub older : List Item
  pub here : drop z plan ≡ Placed n ∷ older
  pub at : q ≡ size nodes (length received) older
  pub next : ℕ
  pub is : slice_get nodes n ≡ Some (Assign x t next)

module _ (x : ℕ) (t : Rhs) (received : List ℕ) (nodes : List Node) where
  -- what an item emits
  item_assigns : (place : ℕ → ℕ) (item : Item) (j : ℕ)
      → slice_get (item_insts nodes place item) j ≡ Some (insts.Assign x t)
      → (n : ℕ) × (item ≡ Placed n) × (j ≡ 0) × ((next : ℕ) × (slice_get nodes n ≡ Some (Assign x t next)))
  item_assigns place (Jump n) zero e = (let bad : Some (insts.Goto (place n)) ≡ Some (insts.Assign x t) = e in absurd (cc))
  item_assigns place (Jump n) (suc j) e = absurd (none-some (insts.Assign x t) e)
  item_assigns place (Placed n) j e = by (slice_get nodes n) refl j e
    where
      by : (o : Option Node) → slice_get nodes n ≡ o → (j : ℕ)
          → slice_get (emitted_by place o) j ≡ Some (insts.Assign x t)
          → (m : ℕ) × (Placed n ≡ Placed m) × (j ≡ 0) × ((next : ℕ) × (slice_get nodes m ≡ Some (Assign x t next)))
      by None is j e = absurd (none-some (insts.Assign x t) e)
      by (Some (Start next)) is j e = absurd (none-some (insts.Assign x t) e)
      by (Some (Skip next)) is j e = absurd (none-some (insts.Assign x t) e)
      by (Some (Assign y rhs next)) is zero e =
          let same : insts.Assign y rhs ≡ insts.Assign x t = same_Some (insts.Assign y rhs) (insts.Assign x t) e in
          let var : y ≡ x = cc in
          let value : rhs ≡ t = cc in
          (n, refl, refl, (next, is ∙ ap (λ z. Some (Assign z rhs next)) var ∙ ap (λ u. Some (Assign x u next)) value))
      by (Some (Assign y rhs next)) is (suc j) e = absurd (none-some (insts.Assign x t) e)
      by (Some (Print a next)) is zero e = (let bad : Some (insts.Print a) ≡ Some (insts.Assign x t) = e in absurd (cc))
      by (Some (Print a next)) is (suc j) e = absurd (none-some (insts.Assign x t) e)
      by (Some (Guard test number next)) is zero e = (let bad : Some (insts.TrapIf test number) ≡ Some (insts.Assign x t) = e in absurd (cc))
      by (Some (Guard test number next)) is (suc j) e = absurd (none-some (insts.Assign x t) e)
      by (Some (Call into unit operands next)) is zero e = (let bad : Some (insts.Call into unit operands) ≡ Some (insts.Assign x t) = e in absurd (cc))
      by (Some (Call into unit operands next)) is (suc j) e = absurd (none-some (insts.Assign x t) e)
      by (Some (Test test taken other)) is zero e = (let bad : Some (insts.If test (place taken)) ≡ Some (insts.Assign x t) = e in absurd (cc))
      by (Some (Test test taken other)) is (suc j) e = absurd (none-some (insts.Assign x t) e)
      by (Some (Return a)) is zero e = (let bad : Some (insts.Return a) ≡ Some (insts.Assign x t) = e in absurd (cc))
      by (Some (Return a)) is (suc j) e = absurd (none-some (insts.Assign x t) e)

  among_items : (place : ℕ → ℕ) (first : ℕ) (plan : List Item) (i : ℕ)
      → slice_get (emitted nodes place plan) i ≡ Some (insts.Assign x t)
      → EmittedAt x t received nodes plan (length received + i)
  among_items place first [] i e = absurd (none-some (insts.Assign x t) e)
  among_items place first (item ∷ older) i e = elim (get_append (emitted nodes place older) (item_insts nodes place item) i (insts.Assign x t) e) [
    | inl low ↦ (let r = among_items place first older i low in record { z = suc r.z; n = r.n; older = r.older; here = r.here; at = r.at; next = r.next; is = r.is })
    | inr high ↦
        let w = item_assigns place item high.0 high.2 in
        let index = high.1 in
        let zero_is = w.2 in
        let whole = size_is nodes first (length received) place older in
        record {
          z = 0;
          n = w.0;
          older = older;
          here = ap (λ i. i ∷ older) w.1;
          at = omega (arith, index, zero_is, whole);
          next = w.3.0;
          is = w.3.1;
        }
  ]

  received_none : (l : List ℕ) (q : ℕ) → slice_get (map insts.Receive l) q ≡ Some (insts.Assign x t) → ⊥
  received_none [] q e = none-some (insts.Assign x t) e
  received_none (y ∷ l) zero e = (let bad : Some (insts.Receive y) ≡ Some (insts.Assign x t) = e in absurd (cc))
  received_none (y ∷ l) (suc q) e = received_none l q e

  received_length : (l : List ℕ) → length (map insts.Receive l) ≡ length l
  received_length [] = refl
  received_length (y ∷ l) = ap suc (received_length l)

  -- an assignment of the body is that of a placed node
  pub emitted_at : (first : ℕ) (plan : List Item) (q : ℕ)
      → slice_get (plain_body received nodes plan) q ≡ Some (insts.Assign x t) → EmittedAt x t received nodes plan q
  emitted_at first plan q e = elim (get_append (map insts.Receive received) (emitted nodes (place_in nodes (length received) plan) plan) q (insts.Assign x t) e) [
    | inl low ↦ absurd (received_none received q low)
    | inr high ↦
        let index = high.1 in
        let long = received_length received in
        let same : length received + high.0 ≡ q = omega (arith, index, long) in
        subst (EmittedAt x t received nodes plan) same (among_items (place_in nodes (length received) plan) first plan high.0 high.2)
  ]

  drop_none : (z n : ℕ) (older : List Item) → drop z [] ≡ Placed n ∷ older → ⊥
  drop_none zero n older e = cc
  drop_none (suc z) n older e = cc

  -- nodes that emit something have different places
  pub placed_once : (plan : List Item) (z z' n n' : ℕ) (older older' : List Item) → drop z plan ≡ Placed n ∷ older
      → drop z' plan ≡ Placed n' ∷ older' → 0 < item_size nodes (Placed n) → 0 < item_size nodes (Placed n')
      → size nodes (length received) older ≡ size nodes (length received) older' → n ≡ n'
  placed_once [] z z' n n' older older' here here' some some' same = absurd (drop_none z n older here)
  placed_once (item ∷ plan) zero zero n n' older older' here here' some some' same = (let both : Placed n ∷ older ≡ Placed n' ∷ older' = sym here ∙ here' in cc)
  placed_once (item ∷ plan) zero (suc z') n n' older older' here here' some some' same =
      let older_is : plan ≡ older = cc in
      let low = smaller z' plan n' older' here' in
      let less = ap (size nodes (length received)) older_is in
      absurd (omega (arith, low, some', same, less))
    where
      smaller : (z : ℕ) (l : List Item) (m : ℕ) (o : List Item) → drop z l ≡ Placed m ∷ o
          → size nodes (length received) o + item_size nodes (Placed m) ≤ size nodes (length received) l
      smaller zero [] m o e = cc
      smaller zero (i ∷ l) m o e = (let s = ap (size nodes (length received)) e in omega (arith, s))
      smaller (suc z) [] m o e = cc
      smaller (suc z) (i ∷ l) m o e = (let s = smaller z l m o e in omega (arith, s))
  placed_once (item ∷ plan) (suc z) zero n n' older older' here here' some some' same =
      let older_is : plan ≡ older' = cc in
      let low = smaller z plan n older here in
      let less = ap (size nodes (length received)) older_is in
      absurd (omega (arith, low, some, same, less))
    where
      smaller : (z : ℕ) (l : List Item) (m : ℕ) (o : List Item) → drop z l ≡ Placed m ∷ o
          → size nodes (length received) o + item_size nodes (Placed m) ≤ size nodes (length received) l
      smaller zero [] m o e = cc
      smaller zero (i ∷ l) m o e = (let s = ap (size nodes (length received)) e in omega (arith, s))
      smaller (suc z) [] m o e = cc
      smaller (suc z) (i ∷ l) m o e = (let s = smaller z l m o e in omega (arith, s))
  placed_once (item ∷ plan) (suc z) (suc z') n n' older older' here here' some some' same = placed_once plan z z' n n' older older' here here' some some' same

-- ---- a graph with its layout

-- what is firm and not Start stops a walk
pub stop_of : (o : Option Node) → is_firm o ≡ true → ((s : ℕ) → o ≡ Some (Start s) → ⊥) → is_stop o ≡ true
stop_of None e not = e
stop_of (Some (Start next)) e not = absurd (not next refl)
stop_of (Some (Skip next)) e not = e
stop_of (Some (Assign x rhs next)) e not = e
stop_of (Some (Print a next)) e not = e
stop_of (Some (Guard test number next)) e not = e
stop_of (Some (Call into unit operands next)) e not = e
stop_of (Some (Test test taken other)) e not = e
stop_of (Some (Return a)) e not = e

module _ (shared : ℕ) (vars : List (List ℕ)) (received : List ℕ) (nodes : List Node) (is_graph : IsGraph vars received nodes) (names : List (List ℕ)) (final : List Inst) (laid : IsLaid shared vars received nodes names final) where
  abbrev pub laid_first : ℕ
  laid_first = start_succ (slice_get nodes 0)

  abbrev pub laid_body : List Inst
  laid_body = plain_body received nodes laid.plan

  pub laid_start : slice_get nodes 0 ≡ Some (Start (start_succ (slice_get nodes 0)))
  laid_start = is_graph.can.start.1 ∙ ap (λ k. Some (Start k)) (sym (ap start_succ is_graph.can.start.1))

  -- a path to a node that stops a walk is walked
  pub walk_to : (x : ℕ) (t : Rhs) (n : ℕ) (before : List ℕ) (trace : Trace nodes n before) → (n ≡ 0 → ⊥) → is_stop (slice_get nodes n) ≡ true
      → Walked x t (plain_body received nodes laid.plan) (length received) (ways_on nodes n before trace []) (sum_on (λ k. one_if (is_occurrence x t (slice_get nodes k))) before)
  walk_to x t n before from_start differ stops = absurd (differ refl)
  walk_to x t n before (goes_on m k earlier trace edge) differ stops =
      let w = walk_on x t received nodes laid_first laid.plan laid.is_plan.is_plan laid.is_plan.complete laid_start m earlier trace n edge [] 0 (λ q near. at_stop x t received nodes laid_first laid.plan laid.is_plan.is_plan laid.is_plan.complete n q near stops) in
      let f = λ (k : ℕ). one_if (is_occurrence x t (slice_get nodes k)) in
      subst (Walked x t laid_body (length received) (ways_on nodes n (m ∷ earlier) (goes_on m n earlier trace edge) [])) (let e : sum_on f (m ∷ earlier) + 0 ≡ sum_on f (m ∷ earlier) = omega arith in e) w

  -- an assignment that may be moved has a place in the body, as has each node behind Start
  pub record PlacedAt (n : ℕ) : Type 0 where
    pub z : ℕ
    pub older : List Item
    pub here : drop z laid.plan ≡ Placed n ∷ older

  pub placed_node : (n : ℕ) (before : List ℕ) (trace : Trace nodes n before) → (n ≡ 0 → ⊥) → PlacedAt n
  placed_node n before from_start differ = absurd (differ refl)
  placed_node n before (goes_on m k earlier trace edge) differ =
      let near = near_on 0 (Plain (Var 0)) received nodes laid_first laid.plan laid.is_plan.is_plan laid.is_plan.complete laid_start m earlier trace n edge in
      record { z = near.1.z; older = near.1.older; here = near.1.here }

  -- its instruction stands at that place
  pub inst_stands : (n x next : ℕ) (t : Rhs) (p : PlacedAt n) → slice_get nodes n ≡ Some (Assign x t next)
      → slice_get (plain_body received nodes laid.plan) (size nodes (length received) p.older) ≡ Some (insts.Assign x t)
  inst_stands n x next t p is = item_inst_at nodes laid_first received (place_in nodes (length received) laid.plan) laid.plan p.z (Placed n) p.older (insts.Assign x t) p.here (ap (emitted_by (place_in nodes (length received) laid.plan)) is)

-- two graphs of one layout have one body
pub one_body : (shared : ℕ) (vars : List (List ℕ)) (received : List ℕ) (nodes nodes' : List Node)
    → IsGraph vars received nodes → IsGraph vars received nodes' → shared ≤ length vars
    → (names : List (List ℕ)) (final : List Inst) (laid : IsLaid shared vars received nodes names final) (laid' : IsLaid shared vars received nodes' names final)
    → plain_body received nodes laid.plan ≡ plain_body received nodes' laid'.plan
one_body shared vars received nodes nodes' is_graph is_graph' least names final laid laid' =
    let a = plain_body received nodes laid.plan in
    let b = plain_body received nodes' laid'.plan in
    same_bodies shared vars a b is_graph.can.names
    (seen_low shared vars received nodes is_graph least laid.plan a (seen_in shared a) refl refl)
    (seen_low shared vars received nodes' is_graph' least laid'.plan b (seen_in shared b) refl refl)
    (sym laid.names_are ∙ laid'.names_are) (sym laid.body_is ∙ laid'.body_is)
