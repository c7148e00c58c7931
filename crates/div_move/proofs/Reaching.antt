-- The least known slots tell at which nodes a run must come to an expression: what is known arises step by step, and
-- each step becomes known.
use Rattle.std.proofs.Common.{◌≡◌, ◌⊎◌, ◌↔◌, ◌&&◌, ◌||◌, ◌+◌, ◌<◌, ◌≤◌, ℕ, zero, suc, not, Bool, true, false, List, [], ◌∷◌, length, get_or, replicate, slice_get, Option, Some, None, inl, inr, refl, sym, ap, ◌∙◌, subst, arith, true≢false}
use Rattle.std.proofs.lemmas.Bool.{and_from, and_parts, cases_Bool, eq-eqb, eqb-true, not-true, or_parts}
use Rattle.std.proofs.lemmas.Option.{same_Some, slice_get_within}
use Rattle.mir_base.specs.declared.instructions.Expr.{Expr}
use Rattle.bit_rows.specs.Bits.{row_of}
use Rattle.fix_solve.specs.Arising.{arising_hold}
use Rattle.fix_solve.specs.Net.{value_at}
use Rattle.fix_solve.specs.Order.{IsLeastUpper}
use Rattle.flow_graph.specs.declared.nodes.Node.{Node}
use Rattle.flow_graph.specs.declared.nodes.Node.TheVariants.{Start, Skip, Assign, Print, Guard, Call, Test, Return}
use Rattle.flow_graph.specs.FlowEdges.{edge_at, flow_edges}
use Rattle.flow_graph.specs.Graphs.{GraphShape, succs_at, succs_of}
use Rattle.flow_graph.specs.Paths.{HasEdge, IsReturnAt, is_return}
use Rattle.path_laws.specs.Paths.{has_bit}
use Rattle.motion_rewrite.specs.Expressions.{kills, node_kills, node_uses, uses}
use Rattle.div_move.specs.declared.flow.SlotFlow.{SlotFlow}
use Rattle.div_move.specs.MustCome.{MustComeTo, hinders, is_division, is_observable, node_hinders}
use Rattle.div_move.specs.MustComeLaws.{MustBy, at_use, by_all, must_steps, return_or_edge, steps_must}
use Rattle.motion_rewrite.specs.Rows.{AreRowsOf, AreRowsWhere}
use Rattle.div_move.specs.SlotFlow.{AreDownRowsTo, IsSlotFlow, SolvesSlots, arriving, down_bit, down_row, halts_at, is_lacking, is_node, lacks_at, leads_at, node_halts, slot_net}
use Rattle.div_move.specs.SlotFlowLaws.{flow_ends}
use Rattle.div_move.specs.Slots.{BelowSlots}
use Rattle.path_laws.specs.LeadsLaws.{step_edge}
use Rattle.div_move.proofs.Pairs.{arriving_from, arriving_to, below_known, down_from, down_to, joined_known, known_of, pick, pick_way, slot_no}

-- ---- steps

-- within more nodes too
pub within_more : (graph : GraphShape) (e : Expr) (j k n : ℕ) → j ≤ k → MustBy graph e j n → MustBy graph e k n
within_more graph e j zero n le (at_use i m used) = absurd (omega (arith, le))
within_more graph e j zero n le (by_all i m free some all) = absurd (omega (arith, le))
within_more graph e j (suc k) n le (at_use i m used) = at_use k n used
within_more graph e j (suc k) n le (by_all i m free some all) = by_all k n free some (λ s edge. within_more graph e i k s (omega (arith, le)) (all s edge))

-- a node has no other slots than the first and the second
two_slots : (nodes : List Node) (n slot s : ℕ) → slice_get (succs_at nodes n) slot ≡ Some s → (which : Bool) × (slot_no which ≡ slot)
two_slots nodes n slot s at = of (slice_get nodes n) slot at
  where
    of : (o : Option Node) (i : ℕ) → slice_get (succs_of o) i ≡ Some s → (which : Bool) × (slot_no which ≡ i)
    of None i at' = cc
    of (Some node) zero at' = (false, refl)
    of (Some node) (suc zero) at' = (true, refl)
    of (Some (Start next)) (suc (suc i)) at' = cc
    of (Some (Skip next)) (suc (suc i)) at' = cc
    of (Some (Assign x rhs next)) (suc (suc i)) at' = cc
    of (Some (Print a next)) (suc (suc i)) at' = cc
    of (Some (Guard test number next)) (suc (suc i)) at' = cc
    of (Some (Call into unit operands next)) (suc (suc i)) at' = cc
    of (Some (Test test taken other)) (suc (suc i)) at' = cc
    of (Some (Return a)) (suc (suc i)) at' = cc

-- a slot that leads to a node is not lacked
lacks_none : (xs : List ℕ) (slot s : ℕ) → is_lacking (slice_get xs slot) ≡ true → slice_get xs slot ≡ Some s → ⊥
lacks_none xs slot s lacks at = true≢false (sym lacks ∙ ap is_lacking at)

-- and one that is not lacked leads to a node
lacks_or_leads : (xs : List ℕ) (slot : ℕ) → (is_lacking (slice_get xs slot) ≡ true) ⊎ ((s : ℕ) × (slice_get xs slot ≡ Some s))
lacks_or_leads [] slot = inl refl
lacks_or_leads (x ∷ xs) zero = inr (x, refl)
lacks_or_leads (x ∷ xs) (suc slot) = lacks_or_leads xs slot

-- a slot leads to this node
leads_to : (o : Option ℕ) (s : ℕ) → is_node s o ≡ true → o ≡ Some s
leads_to None s on = cc
leads_to (Some t) s on = ap Some (eqb-true t s on)

-- ---- nodes

-- a node that hinders and does not use e kills it or halts, and the other way round
hinders_parts : (graph : GraphShape) (e : Expr) (n : ℕ) → uses graph e n ≡ false → hinders graph e n ≡ (kills graph e n || halts_at graph.nodes n)
hinders_parts graph e n unused = by (slice_get graph.nodes n) unused
  where
    one : (k o d u : Bool) → u ≡ false → (k || (o || (d && not u))) ≡ (k || (o || d))
    one k o true u is = ap (λ b. k || (o || not b)) is
    one k o false u is = refl

    by : (m : Option Node) → node_uses e m ≡ false → node_hinders graph e m ≡ (node_kills graph e m || node_halts m)
    by None is = refl
    by (Some node) is = one (node_kills graph e (Some node)) (is_observable node) (is_division node) (node_uses e (Some node)) is

-- what a node that is down says of its bits
down_parts : (halt used killed : Bool) (known : Bool × Bool) → down_bit halt used killed known ≡ true → (used ≡ true) ⊎ ((known.0 ≡ true) × (known.1 ≡ true) × ((killed || halt) ≡ false))
down_parts halt true killed known h = inl refl
down_parts halt false killed known h =
    let outer = and_parts (known.0 && known.1) (not (killed || halt)) h in
    let inner = and_parts known.0 known.1 outer.0 in
    inr (inner.0, inner.1, not-true (killed || halt) outer.1)

-- and the other way round
down_made : (halt used killed : Bool) (known : Bool × Bool) → known.0 ≡ true → known.1 ≡ true → (killed || halt) ≡ false → down_bit halt used killed known ≡ true
down_made halt true killed known p q r = refl
down_made halt false killed known p q r = and_from (known.0 && known.1) (not (killed || halt)) (and_from known.0 known.1 p q) (ap not r)

-- ---- the solution

module _ {L : Type 0} (f : SlotFlow L) (is : IsSlotFlow f) (values : List (List (Bool × Bool))) (solved : SolvesSlots f values) (e : Expr) (b : ℕ) (b_in : b < f.bits)
    (uses_are : (n : ℕ) → n < length f.graph.now.nodes → has_bit f.uses.now b n ≡ uses f.graph.now e n) (kills_are : (n : ℕ) → n < length f.graph.now.nodes → has_bit f.kills.now b n ≡ kills f.graph.now e n) where
  abbrev graph : GraphShape
  graph = f.graph.now

  abbrev v : ℕ → List (Bool × Bool)
  v = value_at (slot_net f) values

  abbrev src : ℕ → ℕ
  src i = (edge_at (flow_edges true f.graph.now.nodes) i).source

  abbrev tgt : ℕ → ℕ
  tgt i = (edge_at (flow_edges true f.graph.now.nodes) i).target

  -- a node whose slots are known so far is down by them
  abbrev DownBy : ℕ → List (Bool × Bool) → Type 0
  DownBy n x = down_bit (halts_at f.graph.now.nodes n) (has_bit f.uses.now b n) (has_bit f.kills.now b n) (known_of x b) ≡ true

  -- ---- what is known is right

  -- each slot that is known leads to a node that must come to e
  abbrev Right : ℕ → List (Bool × Bool) → Type 0
  Right n x = (which : Bool) (s : ℕ) → pick which (known_of x b) ≡ true → slice_get (succs_at f.graph.now.nodes n) (slot_no which) ≡ Some s → (k : ℕ) × MustBy f.graph.now e k s

  -- a number of nodes for both slots
  both_slots : (n : ℕ) (x : List (Bool × Bool)) → Right n x → (known_of x b).0 ≡ true → (known_of x b).1 ≡ true → (k : ℕ) × ((s : ℕ) → HasEdge graph.nodes n s → MustBy graph e k s)
  both_slots n x right p q =
      let first = one false p in
      let second = one true q in (
        first.0 + second.0,
        λ s edge. (let slot = two_slots graph.nodes n edge.0 s edge.1 in
            of slot.0 s (ap (slice_get (succs_at graph.nodes n)) slot.1 ∙ edge.1) first second),
      )
    where
      one : (which : Bool) → pick which (known_of x b) ≡ true → (k : ℕ) × ((s : ℕ) → slice_get (succs_at graph.nodes n) (slot_no which) ≡ Some s → MustBy graph e k s)
      one which known = elim (lacks_or_leads (succs_at graph.nodes n) (slot_no which)) [
        | inl lacks ↦ (0, λ s at. absurd (lacks_none (succs_at graph.nodes n) (slot_no which) s lacks at))
        | inr leads ↦
            let by = right which leads.0 known leads.1 in
            (by.0, λ s at. subst (MustBy graph e by.0) (same_Some leads.0 s (sym leads.1 ∙ at)) by.1)
      ]

      of : (which : Bool) (s : ℕ) → slice_get (succs_at graph.nodes n) (slot_no which) ≡ Some s
          → (first : (k : ℕ) × ((t : ℕ) → slice_get (succs_at graph.nodes n) 0 ≡ Some t → MustBy graph e k t)) → (second : (k : ℕ) × ((t : ℕ) → slice_get (succs_at graph.nodes n) 1 ≡ Some t → MustBy graph e k t)) → MustBy graph e (first.0 + second.0) s
      of false s at first second = within_more graph e first.0 (first.0 + second.0) s (omega arith) (first.1 s at)
      of true s at first second = within_more graph e second.0 (first.0 + second.0) s (omega arith) (second.1 s at)

  -- so a node that is down by them must come to e
  down_right : (n : ℕ) (x : List (Bool × Bool)) → n < length graph.nodes → Right n x → DownBy n x → (k : ℕ) × MustBy graph e k n
  down_right n x lt right down = elim (cases_Bool (uses graph e n)) [
    | inl used ↦ (1, at_use 0 n used)
    | inr unused ↦ elim (down_parts (halts_at graph.nodes n) (has_bit f.uses.now b n) (has_bit f.kills.now b n) (known_of x b) down) [
      | inl used ↦ absurd (true≢false (sym used ∙ uses_are n lt ∙ unused))
      | inr parts ↦
          let free : hinders graph e n ≡ false = hinders_parts graph e n unused ∙ ap (λ k. k || halts_at graph.nodes n) (sym (kills_are n lt)) ∙ parts.2 in
          let all = both_slots n x right parts.0 parts.1 in
          elim (return_or_edge graph.nodes n lt) [
            | inl returns ↦ absurd (never_return n free returns)
            | inr some ↦ (suc all.0, by_all all.0 n free some all.1)
          ]
    ]
  ]
    where
      never_return : (m : ℕ) → hinders graph e m ≡ false → IsReturnAt graph.nodes m → ⊥
      never_return m free returns = by (slice_get graph.nodes m) free returns
        where
          by : (o : Option Node) → node_hinders graph e o ≡ false → is_return o ≡ true → ⊥
          by None free' returns' = cc
          by (Some (Start next)) free' returns' = cc
          by (Some (Skip next)) free' returns' = cc
          by (Some (Assign x rhs next)) free' returns' = cc
          by (Some (Print a next)) free' returns' = cc
          by (Some (Guard test number next)) free' returns' = cc
          by (Some (Call into unit operands next)) free' returns' = cc
          by (Some (Test test taken other)) free' returns' = cc
          by (Some (Return a)) free' returns' = let rest = (or_parts (node_kills graph e (Some (Return a))) (true || (false && not (node_uses e (Some (Return a))))) free').1 in true≢false rest

  -- the first values are right, since they know only slots that are lacked
  first_right : (n : ℕ) → Right n ((slot_net f).first n)
  first_right n which s known at = absurd (lacks_none (succs_at graph.nodes n) (slot_no which) s (lacked which (of_replicate f.bits b which known)) at)
    where
      of_replicate : (count i : ℕ) (w : Bool) → pick w (known_of (replicate count (lacks_at graph.nodes n 0, lacks_at graph.nodes n 1)) i) ≡ true → pick w (lacks_at graph.nodes n 0, lacks_at graph.nodes n 1) ≡ true
      of_replicate zero i false h = cc
      of_replicate zero i true h = cc
      of_replicate (suc count) zero w h = h
      of_replicate (suc count) (suc i) w h = of_replicate count i w h

      lacked : (w : Bool) → pick w (lacks_at graph.nodes n 0, lacks_at graph.nodes n 1) ≡ true → lacks_at graph.nodes n (slot_no w) ≡ true
      lacked false h = h
      lacked true h = h

  -- and it goes over the edges
  edge_right : (i : ℕ) (from old new : List (Bool × Bool)) → i < length (flow_edges true graph.nodes) → Right (src i) from → Right (tgt i) old → IsLeastUpper BelowSlots old ((slot_net f).transfer i from) new → Right (tgt i) new
  edge_right i from old new i_in from_right old_right joined which s known at = elim (joined_known which old ((slot_net f).transfer i from) new b joined known) [
    | inl was ↦ old_right which s was at
    | inr arrived ↦
        let ends = flow_ends f is i i_in in
        let parts = arriving_from which (leads_at graph.nodes (tgt i) 0 (src i)) (leads_at graph.nodes (tgt i) 1 (src i)) (down_row f (src i) from) b arrived in
        let leads = leads_to (slice_get (succs_at graph.nodes (tgt i)) (slot_no which)) (src i) (way which parts.0) in
        let same : src i ≡ s = same_Some (src i) s (sym leads ∙ at) in
        let by = down_right (src i) from ends.0 from_right (down_from (halts_at graph.nodes (src i)) (row_of f.uses.now (src i)) (row_of f.kills.now (src i)) from b parts.1) in
        (by.0, subst (MustBy graph e by.0) same by.1)
  ]
    where
      way : (w : Bool) → pick_way w (leads_at graph.nodes (tgt i) 0 (src i)) (leads_at graph.nodes (tgt i) 1 (src i)) ≡ true → leads_at graph.nodes (tgt i) (slot_no w) (src i) ≡ true
      way false h = h
      way true h = h

  -- so what the solution knows is right
  values_right : (n : ℕ) → n < length graph.nodes → Right n (v n)
  values_right n lt = arising_hold BelowSlots (slot_net f) Right first_right edge_right n (v n) (solved.least.arises n lt)

  -- ---- what is right is known

  v_long : (n : ℕ) → n < length graph.nodes → length (v n) ≡ f.bits
  v_long n lt = solved.sizes n lt

  -- a slot becomes known where it is lacked, or leads to a node that is down
  slot_known : (n : ℕ) → n < length graph.nodes → ((s : ℕ) → HasEdge graph.nodes n s → DownBy s (v s)) → (which : Bool) → pick which (known_of (v n) b) ≡ true
  slot_known n lt all which = elim (lacks_or_leads (succs_at graph.nodes n) (slot_no which)) [
    | inl lacks ↦ below_known which ((slot_net f).first n) (v n) b (solved.least.solves.above_first n lt) (to_replicate f.bits b b_in which (lacked which lacks))
    | inr leads ↦
        let s = leads.0 in
        let edge : HasEdge graph.nodes n s = (slot_no which, leads.1) in
        let i = step_edge true graph.nodes is.within n s edge in
        let s_in = is.within n (slot_no which) s leads.1 in
        let down : get_or (down_row f s (v s)) b false ≡ true =
        down_to (halts_at graph.nodes s) (row_of f.uses.now s) (row_of f.kills.now s) (v s) b (subst (λ k. b < k) (sym (is.use_rows.each s s_in)) b_in) (is.kill_rows.each s s_in ∙ sym (is.use_rows.each s s_in)) (v_long s s_in ∙ sym (is.use_rows.each s s_in)) (all s edge) in
        let above = solved.least.solves.above_edges i.0 i.1 in
        arrives i.0 s which i.2 i.3 down leads.1 above
  ]
    where
      to_replicate : (count i : ℕ) → i < count → (w : Bool) → pick w (lacks_at graph.nodes n 0, lacks_at graph.nodes n 1) ≡ true → pick w (known_of (replicate count (lacks_at graph.nodes n 0, lacks_at graph.nodes n 1)) i) ≡ true
      to_replicate zero i i_in w h = absurd (omega (arith, i_in))
      to_replicate (suc count) zero i_in w h = h
      to_replicate (suc count) (suc i) i_in w h = to_replicate count i (omega (arith, i_in)) w h

      lacked : (w : Bool) → lacks_at graph.nodes n (slot_no w) ≡ true → pick w (lacks_at graph.nodes n 0, lacks_at graph.nodes n 1) ≡ true
      lacked false h = h
      lacked true h = h

      way : (w : Bool) (s : ℕ) → slice_get (succs_at graph.nodes n) (slot_no w) ≡ Some s → pick_way w (leads_at graph.nodes n 0 s) (leads_at graph.nodes n 1 s) ≡ true
      way false s at = ap (is_node s) at ∙ eq-eqb s s refl
      way true s at = ap (is_node s) at ∙ eq-eqb s s refl

      arrives : (i s : ℕ) (w : Bool) → src i ≡ s → tgt i ≡ n → get_or (down_row f s (v s)) b false ≡ true → slice_get (succs_at graph.nodes n) (slot_no w) ≡ Some s → BelowSlots ((slot_net f).transfer i (v (src i))) (v (tgt i)) → pick w (known_of (v n) b) ≡ true
      arrives i s w from to down at above =
          let moved : BelowSlots (arriving (leads_at graph.nodes n 0 s) (leads_at graph.nodes n 1 s) (down_row f s (v s))) (v n) =
          subst (λ m. BelowSlots (arriving (leads_at graph.nodes m 0 s) (leads_at graph.nodes m 1 s) (down_row f s (v s))) (v m)) to
          (subst (λ t. BelowSlots (arriving (leads_at graph.nodes (tgt i) 0 t) (leads_at graph.nodes (tgt i) 1 t) (down_row f t (v t))) (v (tgt i))) from above) in
          below_known w _ (v n) b moved (arriving_to w (leads_at graph.nodes n 0 s) (leads_at graph.nodes n 1 s) (down_row f s (v s)) b (way w s at) down)

  -- a node that must come to e is down by the solution
  steps_known : (k n : ℕ) → n < length graph.nodes → MustBy graph e k n → DownBy n (v n)
  steps_known k n lt (at_use j m used) = ap (λ u. down_bit (halts_at graph.nodes n) u (has_bit f.kills.now b n) (known_of (v n) b)) (uses_are n lt ∙ used)
  steps_known k n lt (by_all j m free some all) = elim (cases_Bool (uses graph e n)) [
    | inl used ↦ ap (λ u. down_bit (halts_at graph.nodes n) u (has_bit f.kills.now b n) (known_of (v n) b)) (uses_are n lt ∙ used)
    | inr unused ↦
        let known = slot_known n lt (λ s edge. steps_known j s (is.within n edge.0 s edge.1) (all s edge)) in
        down_made (halts_at graph.nodes n) (has_bit f.uses.now b n) (has_bit f.kills.now b n) (known_of (v n) b) (known false) (known true)
        (ap (λ c. c || halts_at graph.nodes n) (kills_are n lt) ∙ sym (hinders_parts graph e n unused) ∙ free)
  ]

  -- ---- so the row of a node tells

  pub row_tells : (n : ℕ) → n < length graph.nodes → (get_or (down_row f n (v n)) b false ≡ true) ↔ MustComeTo graph e n
  row_tells n lt = (
    λ on. (let by = down_right n (v n) lt (values_right n lt) (down_from (halts_at graph.nodes n) (row_of f.uses.now n) (row_of f.kills.now n) (v n) b on) in steps_must graph e by.0 n by.1),
    λ must. (let by = must_steps graph e is.within n lt must in
        down_to (halts_at graph.nodes n) (row_of f.uses.now n) (row_of f.kills.now n) (v n) b (subst (λ k. b < k) (sym (is.use_rows.each n lt)) b_in) (is.kill_rows.each n lt ∙ sym (is.use_rows.each n lt)) (v_long n lt ∙ sym (is.use_rows.each n lt)) (steps_known by.0 n lt by.1)),
  )

-- so do the rows of a table
pub rows_tell : {L : Type 0} (f : SlotFlow L) → IsSlotFlow f → (values : List (List (Bool × Bool))) → SolvesSlots f values → (table : List Expr) → f.bits ≡ length table
    → AreRowsOf f.graph.now table (uses f.graph.now) f.uses.now → AreRowsOf f.graph.now table (kills f.graph.now) f.kills.now → (rows : List (List Bool)) → AreDownRowsTo f values (length f.graph.now.nodes) rows
    → AreRowsWhere f.graph.now table (MustComeTo f.graph.now) rows
rows_tell f is values solved table long uses_rows kills_rows rows down = record {
  shape = record { len = down.shape.len; each = λ n lt. down.shape.each n lt ∙ long };
  bits = λ n i e n_in at. (let told = row_tells f is values solved e i (subst (λ k. i < k) (sym long) (slice_get_within table i e at)) (λ m m_in. uses_rows.bits m i e m_in at) (λ m m_in. kills_rows.bits m i e m_in at) n n_in in
      let same = ap (λ (r : List Bool). get_or r i false) (down.are n n_in) in (λ on. told.0 (sym same ∙ on), λ must. same ∙ told.1 must));
}
