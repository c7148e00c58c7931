-- Laws: a rewriting that preserves a relation of values keeps what the graph does; it evaluates no more operators
-- where it evaluates no more operators on each full path; and where a run of the graph goes along a path, that of the
-- result goes along the corresponding path of it. For proofs only; the crates above cite them.
use Rattle.std.proofs.Common.{◌≡◌, ℕ, zero, suc, ◌+◌, ◌<◌, ◌≤◌, Bool, true, false, not, ◌&&◌, if◌then◌else◌, nat_eq, nat_lt, ◌||◌, List, [], ◌∷◌, ◌++◌, map, flat_map, reverse, length, slice_get, ℤ, Option, Some, None, option_map, ◌⊎◌, inl, inr, refl, sym, ap, ◌∙◌, subst, arith, le_refl, append_assoc}
use Rattle.std.proofs.lemmas.List.{reverse-append}
use Rattle.std.proofs.lemmas.Bool.{and_parts, or_parts, cases_Bool, cases_lt, ltb-false, ltb-true, not-true, true≢false}
use Rattle.std.proofs.Math.Bool.{or-false}
use Rattle.std.proofs.lemmas.List.Elements.{All-head, All-tail}
use Rattle.mir_base.specs.declared.instructions.Operand.{Operand}
use Rattle.mir_base.specs.declared.instructions.Rhs.{Rhs}
use Rattle.mir_base.specs.declared.instructions.Test.{Test as MirTest}
use Rattle.mir_base.specs.declared.operators.Trap.TheVariants.{ZeroDivisor, Raised}
use Rattle.mir_base.specs.Frames.{Values, with_first, with_result, with_value, shared_vars, shared_values, all_zero, CallEntry, Answer, Frame, first_frame, resumed, Transition, Continues, Prints, Calls, Returns, Traps, Code}
use Rattle.mir_base.specs.Units.{operand_value, test_holds, at, assigned, assign_transition}
use Rattle.mir_base.specs.Expressions.{rhs_traps, rhs_value, rhs_count}
use Rattle.mir_base.specs.ExpressionLaws.{assign_is}
use Rattle.mir_base.specs.UnitRuns.{AreAnswers, IsCallAnswer, UnitSame, UnitCheaper}
use Rattle.mir_base.specs.SharedLaws.{map_equal, shared_long, with_first_other, with_first_same}
use Rattle.mir_base.specs.Simulations.{HandsOver, Silently, Responds, Simulates}
use Rattle.mir_base.specs.ResponseLaws.{responds_past}
use Rattle.mir_base.specs.SimulationLaws.{simulated_same, simulated_cheaper}
use Rattle.flow_graph.specs.declared.nodes.Node.{Node}
use Rattle.flow_graph.specs.declared.nodes.Node.TheVariants.{Start, Skip, Assign, Print, Guard, Call, Test, Return}
use Rattle.graph_edit.specs.Along.{StepsAlong, GoesAlong, RunsAlong}
use Rattle.mir_base.specs.EqualValues.{equal_left, equal_right, operand_equal, operands_equal, rhs_equal, traps_equal, test_equal}
use Rattle.flow_graph.specs.Graphs.{GraphShape, IsGraph, node_succs, succs_of, assigns}
use Rattle.flow_graph.specs.Retained.{redirected}
use Rattle.flow_graph.specs.MachineLaws.{graph_hands}
use Rattle.flow_graph.specs.Machines.{received_from, node_transition, graph_code, graph_machine}
use Rattle.flow_graph.specs.Paths.{HasEdge, Begins, Ends, Trace, from_start, goes_on, is_return, IsReturnAt, IsFullPath}
use Rattle.flow_graph.specs.PathLaws.{trace_path}
use Rattle.flow_graph.specs.Sums.{sum_on, sum_append, sum_reverse}
use Rattle.mir_base.specs.Shapes.{operand_vars}
use Rattle.graph_edit.specs.Insertions.{Insertion, Change, Unchanged, Replaced, Removed, Rewriting, changed_assign, changed, put_below, entry_among, entry, rewritten_nodes, CanRewrite}
use Rattle.flow_graph.specs.ListLaws.{some_at}
use Rattle.graph_edit.specs.InsertionNodes.{old_get}
use Rattle.graph_edit.specs.InsertionGraphs.{start_entry}
use Rattle.graph_edit.specs.InsertionPaths.{IsInsertionChain, chain_is}
use Rattle.graph_edit.specs.Over.{weigh, weigh_all, weight_at, new_weight_at, through, over_path}
use Rattle.graph_edit.specs.InsertionRuns.{values_after, none_traps, ValueRelation, BothAssign, TrapsAfter, Preserves, counts, CountsNoMore}
use Rattle.std.proofs.lemmas.Option.{slice_get_within}

-- ---- a run along a chain

-- the frame after the new assignments before node n
abbrev landed : ℕ → List Insertion → Frame → Frame
landed n puts f = record { place = n; arguments = f.arguments; values = values_after puts f.values }

module _ (shared : ℕ) (received : List ℕ) (nodes : List Node) where
  abbrev code_of : Code
  code_of = graph_code shared received nodes

  -- a new assignment that does not trap
  one_goes_on : (a x next : ℕ) (rhs : Rhs) (f : Frame)
      → slice_get nodes a ≡ Some (Assign x rhs next) → rhs_traps f.values rhs ≡ false
      → code_of (at a f)
      ≡ Continues (rhs_count rhs) (at next (record f { values = with_value x (rhs_value f.values rhs) f.values }))
  one_goes_on a x next rhs f is untrapped =
      ap (λ o. node_transition shared received o (at a f)) is
      ∙ assign_is x rhs next (at a f)
      ∙ ap (λ b. (if b then Traps ZeroDivisor 1 else Continues (rhs_count rhs) (assigned x (rhs_value f.values rhs) next f))) untrapped

  one_trap : (a x next : ℕ) (rhs : Rhs) (f : Frame) → slice_get nodes a ≡ Some (Assign x rhs next)
      → rhs_traps f.values rhs ≡ true → code_of (at a f) ≡ Traps ZeroDivisor 1
  one_trap a x next rhs f is trap =
      ap (λ o. node_transition shared received o (at a f)) is
      ∙ assign_is x rhs next (at a f)
      ∙ ap (λ b. (if b then Traps ZeroDivisor 1 else Continues (rhs_count rhs) (assigned x (rhs_value f.values rhs) next f))) trap

  chain_silent : (n k : ℕ) (puts : List Insertion) → IsInsertionChain nodes n k puts → (f : Frame)
      → none_traps puts f.values ≡ true
      → Silently code_of (length puts) (at (entry_among n k puts) f) (landed n puts f) (weigh_all counts puts)
  chain_silent n k [] c f untrapped = (refl, refl)
  chain_silent n k (put ∷ puts) c f untrapped =
      let g = record f { values = with_value put.var (rhs_value f.values put.rhs) f.values } in
      let both = and_parts _ _ untrapped in
      (at (entry_among n (suc k) puts) g, rhs_count put.rhs, weigh_all counts puts, one_goes_on k put.var (entry_among n (suc k) puts) put.rhs f c.0 (not-true _ both.0), chain_silent n (suc k) puts c.1 g both.1, refl)

  chain_traps : (n k : ℕ) (puts : List Insertion) → IsInsertionChain nodes n k puts → (f : Frame)
      → none_traps puts f.values ≡ false
      → (steps : ℕ) × TrapsAfter code_of steps (at (entry_among n k puts) f)
  chain_traps n k [] c f trap = absurd (true≢false trap)
  chain_traps n k (put ∷ puts) c f trap = elim (cases_Bool (rhs_traps f.values put.rhs)) [
    | inl now ↦ (0, record { there = at k f; cost = 0; silent = (refl, refl); counted = 1; is = one_trap k put.var (entry_among n (suc k) puts) put.rhs f c.0 now })
    | inr untrapped ↦
        let g = record f { values = with_value put.var (rhs_value f.values put.rhs) f.values } in
        let later = chain_traps n (suc k) puts c.1 g (sym (ap (λ b. not b && none_traps puts g.values) untrapped) ∙ trap) in (
          suc later.0,
          record {
            there = later.1.there;
            cost = rhs_count put.rhs + later.1.cost;
            silent = (at (entry_among n (suc k) puts) g, rhs_count put.rhs, later.1.cost, one_goes_on k put.var (entry_among n (suc k) puts) put.rhs f c.0 untrapped, later.1.silent, refl);
            counted = later.1.counted;
            is = later.1.is;
          },
        )
  ]

-- ---- assignments

-- an assignment leaves the value of another variable
with_other : (x y : ℕ) (c : ℤ) (v : Values) (b : Bool) → b ≡ false → (if b then c else v y) ≡ v y
with_other x y c v b e = ap (λ q. (if q then c else v y)) e

module _ (r : Rewriting) (extra : List (List ℕ)) (graph : GraphShape) (Holds : ValueRelation)
    (fits : CanRewrite r extra graph) (is_graph : IsGraph graph.vars graph.received graph.nodes)
    (preserves : Preserves graph r Holds) where
  abbrev nodes : List Node
  nodes = graph.nodes

  abbrev raw : List Node
  raw = rewritten_nodes r graph.nodes

  abbrev code : Code
  code = graph_code graph.shared graph.received graph.nodes

  abbrev code' : Code
  code' = graph_code graph.shared graph.received (rewritten_nodes r graph.nodes)

  abbrev to : ℕ → ℕ
  to = entry r.inserts (length graph.nodes)

  abbrev first_new : ℕ → ℕ
  first_new n = length graph.nodes + put_below r.inserts n

  -- what a node counts, before and after
  abbrev cost : ℕ → ℕ
  cost = weight_at counts graph.nodes

  abbrev new_cost : ℕ → ℕ
  new_cost = new_weight_at counts r graph.nodes

  -- the second frame stands before what is put before the node at which the first stands, and none of it traps
  record NearAt (before : List ℕ) (x y : ℕ) (f g : Frame) : Type 0 where
    trace : Trace graph.nodes f.place before
    place : g.place ≡ to f.place
    arguments : g.arguments ≡ f.arguments
    first : f.place ≡ 0 → g.values ≡ f.values
    holds : 1 ≤ f.place → Holds f.place before f.values g.values
    untrapped : none_traps (r.inserts f.place) g.values ≡ true
    counted : x ≡ sum_on cost before
    counted' : y ≡ sum_on new_cost before

  -- both sides will trap, the first after so many steps
  record BothTrap (z : ℕ) (f g : Frame) : Type 0 where
    first : TrapsAfter code z f
    steps : ℕ
    second : TrapsAfter code' steps g

  abbrev Next : List ℕ → ℕ → ℕ → Frame → Frame → Type 0
  Next path x y f g = NearAt path x y f g ⊎ ((z : ℕ) × BothTrap z f g)

  -- the transitions of the first, and of the second after what is put before the node
  abbrev Follows : List ℕ → ℕ → ℕ → Transition → Transition → Type 0
  Follows path x y (Continues n next) t = (m : ℕ) × (next' : Frame) × (t ≡ Continues m next') × Next path (x + n) (y + m) next next'
  Follows path x y (Prints v next) t = (next' : Frame) × (t ≡ Prints v next') × Next path x y next next'
  Follows path x y (Calls unit entry into next) t = (next' : Frame) × (t ≡ Calls unit entry into next') × ((answer : Answer) → IsCallAnswer (length entry.globals) answer → Next path x y (resumed into answer next) (resumed into answer next'))
  Follows path x y (Returns answer) t = (t ≡ Returns answer) × (CountsNoMore r graph.nodes → y ≤ x)
  Follows path x y (Traps kind n) t = (m : ℕ) × (t ≡ Traps kind m)

  -- ---- places

  trace_within : (n : ℕ) (before : List ℕ) → Trace nodes n before → n < length nodes
  trace_within n before from_start = slice_get_within nodes 0 (Start is_graph.can.start.0) is_graph.can.start.1
  trace_within n before (goes_on m k earlier trace edge) = (is_graph.can.succs m edge.0 n edge.1).1

  start_trace : (n : ℕ) (before : List ℕ) → n ≡ 0 → Trace nodes n before → before ≡ []
  start_trace n before e from_start = refl
  start_trace n before e (goes_on m k earlier trace edge) = absurd (omega (arith, e, (is_graph.can.succs m edge.0 n edge.1).0))

  -- ---- to a successor

  -- where the values are related before the successor, the two are near each other, or both will trap
  settle : (n s : ℕ) (before : List ℕ) (x y : ℕ) (arguments : List ℤ) (v w : Values)
      → Trace nodes n before → HasEdge nodes n s → Holds s (n ∷ before) v w
      → x ≡ sum_on cost (n ∷ before) → y ≡ sum_on new_cost (n ∷ before)
      → Next (n ∷ before) x y (record { place = s; arguments = arguments; values = v }) (record { place = to s; arguments = arguments; values = w })
  settle n s before x y arguments v w trace edge holds is_x is_y = elim (cases_Bool (none_traps (r.inserts s) w)) [
    | inl untrapped ↦ inl (record { trace = goes_on n s before trace edge; place = refl; arguments = refl; first = λ none. absurd (omega (arith, none, (is_graph.can.succs n edge.0 s edge.1).0)); holds = λ some. holds; untrapped = untrapped; counted = is_x; counted' = is_y })
    | inr trap ↦
        let first = preserves.traps s (n ∷ before) arguments v w (goes_on n s before trace edge) holds trap in
        let g : Frame = record { place = to s; arguments = arguments; values = w } in
        let second = chain_traps graph.shared graph.received raw s (first_new s) (r.inserts s) (chain_is r nodes s (is_graph.can.succs n edge.0 s edge.1).1) g trap in
        inr (first.0, record { first = first.1; steps = second.0; second = second.1 })
  ]

  -- at a node: the first side with values v, the second after what is put before it
  module _ (n : ℕ) (before : List ℕ) (x y : ℕ) (arguments : List ℤ) (v w : Values)
      (trace : Trace graph.nodes n before) (untrapped : none_traps (r.inserts n) w ≡ true)
      (counted : x ≡ sum_on cost before) (counted' : y ≡ sum_on new_cost before) where
    abbrev w' : Values
    w' = values_after (r.inserts n) w

    abbrev y' : ℕ
    y' = y + weigh_all counts (r.inserts n)

    abbrev f : Frame
    f = record { place = n; arguments = arguments; values = v }

    abbrev h : Frame
    h = record { place = n; arguments = arguments; values = values_after (r.inserts n) w }

    onward : (node : Node) → slice_get nodes n ≡ Some node → (s slot x1 y1 : ℕ) (v1 w1 : Values)
        → slice_get (node_succs node) slot ≡ Some s → x1 ≡ x + weigh counts (Some node)
        → y1 ≡ y' + weigh counts (Some (changed (r.changes n) node)) → Holds s (n ∷ before) v1 w1
        → Next (n ∷ before) x1 y1 (record { place = s; arguments = arguments; values = v1 }) (record { place = to s; arguments = arguments; values = w1 })
    onward node is s slot x1 y1 v1 w1 leads is_x is_y holds =
        let cost_is : cost n ≡ weigh counts (Some node) = ap (weigh counts) is in
        let new_cost_is : new_cost n ≡ weigh_all counts (r.inserts n) + weigh counts (Some (changed (r.changes n) node)) = ap (λ o. weigh_all counts (r.inserts n) + weigh counts (option_map (changed (r.changes n)) o)) is in
        settle n s before x1 y1 arguments v1 w1 trace (slot, ap (λ o. slice_get (succs_of o) slot) is ∙ leads) holds (omega (arith, counted, is_x, cost_is)) (omega (arith, counted', is_y, new_cost_is))

    trapping : (c d : ℕ) (next next' : Frame) (b : Bool)
        → (b ≡ false → Next (n ∷ before) (x + c) (y' + d) next next')
        → Follows (n ∷ before) x y' (if b then Traps ZeroDivisor 1 else Continues c next) (if b then Traps ZeroDivisor 1 else Continues d next')
    trapping c d next next' true near = (1, refl)
    trapping c d next next' false near = (d, next', refl, near refl)

    -- an assignment on both sides
    both_assign : (z : ℕ) (rhs other : Rhs) (s : ℕ) → rhs_traps v rhs ≡ rhs_traps w' other
        → (rhs_traps v rhs ≡ false → Next (n ∷ before) (x + rhs_count rhs) (y' + rhs_count other) (assigned z (rhs_value v rhs) s f) (assigned z (rhs_value w' other) (to s) h))
        → Follows (n ∷ before) x y' (assign_transition z rhs s f) (assign_transition z other (to s) h)
    both_assign z rhs other s alike near =
        let next = assigned z (rhs_value v rhs) s f in
        let next' = assigned z (rhs_value w' other) (to s) h in
        subst (λ t. Follows (n ∷ before) x y' t (assign_transition z other (to s) h)) (sym (assign_is z rhs s f))
        (subst (Follows (n ∷ before) x y' (if rhs_traps v rhs then Traps ZeroDivisor 1 else Continues (rhs_count rhs) next)) (sym (assign_is z other (to s) h ∙ ap (λ b. (if b then Traps ZeroDivisor 1 else Continues (rhs_count other) next')) (sym alike))) (trapping (rhs_count rhs) (rhs_count other) next next' (rhs_traps v rhs) near))

    module _ (holds : Holds n before v w) where
      -- a node that is not changed, with the values after it
      unchanged_next : (node : Node) → slice_get nodes n ≡ Some node → r.changes n ≡ Unchanged
          → (s slot x1 y1 : ℕ) (v1 w1 : Values) → slice_get (node_succs node) slot ≡ Some s
          → x1 ≡ x + weigh counts (Some node)
          → y1 ≡ y' + weigh counts (Some (changed Unchanged node))
          → BothAssign (λ z. assigns graph z node) v (values_after (r.inserts n) w) v1 w1
          → Next (n ∷ before) x1 y1 (record { place = s; arguments = arguments; values = v1 }) (record { place = to s; arguments = arguments; values = w1 })
      unchanged_next node is unchanged s slot x1 y1 v1 w1 leads is_x is_y both =
          let edge : HasEdge nodes n s = (slot, ap (λ o. slice_get (succs_of o) slot) is ∙ leads) in
          onward node is s slot x1 y1 v1 w1 leads is_x (is_y ∙ ap (λ c. y' + weigh counts (Some (changed c node))) (sym unchanged)) (preserves.keeps n s node before v w v1 w1 trace is edge unchanged holds untrapped both)

      none_assigned : (node : Node) → ((z : ℕ) → assigns graph z node ≡ false)
          → BothAssign (λ z. assigns graph z node) v w' v w'
      none_assigned node none = record { same = λ z e. absurd (true≢false (sym e ∙ none z)); first_keeps = λ z e. refl; second_keeps = λ z e. refl }

      one_assigned : (z : ℕ) (c d : ℤ) (node : Node) → c ≡ d
          → ((q : ℕ) → assigns graph q node ≡ nat_eq q z)
          → BothAssign (λ q. assigns graph q node) v w' (with_value z c v) (with_value z d w')
      one_assigned z c d node same are = record {
        same = λ q e. (let is : nat_eq q z ≡ true = sym (are q) ∙ e in ap (λ b. (if b then c else v q)) is ∙ same ∙ sym (ap (λ b. (if b then d else w' q)) is));
        first_keeps = λ q e. with_other z q c v (nat_eq q z) (sym (are q) ∙ e);
        second_keeps = λ q e. with_other z q d w' (nat_eq q z) (sym (are q) ∙ e);
      }

      follows_assign : (z : ℕ) (rhs : Rhs) (s : ℕ) → slice_get nodes n ≡ Some (Assign z rhs s)
          → (change : Change) → r.changes n ≡ change
          → Follows (n ∷ before) x y' (assign_transition z rhs s f) (node_transition graph.shared graph.received (Some (redirected to (changed_assign change z rhs s))) h)
      follows_assign z rhs s is Unchanged unchanged =
          let equal = preserves.reads n (Assign z rhs s) before v w trace is unchanged holds untrapped in
          both_assign z rhs rhs s (sym (traps_equal w' v rhs equal)) (λ no_trap. unchanged_next (Assign z rhs s) is unchanged s 0 (x + rhs_count rhs) (y' + rhs_count rhs) _ _ refl refl refl (one_assigned z (rhs_value v rhs) (rhs_value w' rhs) (Assign z rhs s) (sym (rhs_equal w' v rhs equal)) (λ q. refl)))
      follows_assign z rhs s is (Replaced other) change =
          let p = preserves.replaces n s z rhs other before v w trace is change holds untrapped in
          both_assign z rhs other s p.0 (λ no_trap. onward (Assign z rhs s) is s 0 (x + rhs_count rhs) (y' + rhs_count other) _ _ refl refl (ap (λ c. y' + weigh counts (Some (changed_assign c z rhs s))) (sym change)) (p.1 no_trap))
      follows_assign z rhs s is Removed change =
          let p = preserves.removes n s z rhs before v w trace is change holds untrapped in
          let next = assigned z (rhs_value v rhs) s f in
          subst (λ t. Follows (n ∷ before) x y' t (Continues 0 (at (to s) h))) (sym (assign_is z rhs s f ∙ ap (λ b. (if b then Traps ZeroDivisor 1 else Continues (rhs_count rhs) next)) p.0))
          (0, at (to s) h, refl, onward (Assign z rhs s) is s 0 (x + rhs_count rhs) (y' + 0) _ _ refl refl (ap (λ c. y' + weigh counts (Some (changed_assign c z rhs s))) (sym change)) p.1)

      -- what a call assigns: the globals, and then its result
      call_assigned : (into : Option ℕ) (unit : ℕ) (operands : List Operand) (s : ℕ) (answer : Answer)
          → length answer.globals ≡ graph.shared
          → BothAssign (λ z. assigns graph z (Call into unit operands s)) v w' (with_result into answer.value (with_first answer.globals v)) (with_result into answer.value (with_first answer.globals w'))
      call_assigned None unit operands s answer long = record {
        same = λ z e. with_first_same answer.globals v w' z (subst (λ k. z < k) (sym long) (ltb-true z graph.shared e));
        first_keeps = λ z e. with_first_other answer.globals v z (subst (λ k. k ≤ z) (sym long) (ltb-false z graph.shared e));
        second_keeps = λ z e. with_first_other answer.globals w' z (subst (λ k. k ≤ z) (sym long) (ltb-false z graph.shared e));
      }
      call_assigned (Some q) unit operands s answer long = record {
        same = λ z e. elim (cases_Bool (nat_eq z q)) [
          | inl is ↦ ap (λ b. (if b then answer.value else with_first answer.globals v z)) is ∙ sym (ap (λ b. (if b then answer.value else with_first answer.globals w' z)) is)
          | inr not_q ↦
              ap (λ b. (if b then answer.value else with_first answer.globals v z)) not_q
              ∙ with_first_same answer.globals v w' z (subst (λ k. z < k) (sym long) (ltb-true z graph.shared (sym (ap (λ b. nat_lt z graph.shared || b) not_q ∙ or-false (nat_lt z graph.shared)) ∙ e)))
              ∙ sym (ap (λ b. (if b then answer.value else with_first answer.globals w' z)) not_q)
        ];
        first_keeps = λ z e. (let parts = or_parts (nat_lt z graph.shared) (nat_eq z q) e in with_other q z answer.value (with_first answer.globals v) (nat_eq z q) parts.1 ∙ with_first_other answer.globals v z (subst (λ k. k ≤ z) (sym long) (ltb-false z graph.shared parts.0)));
        second_keeps = λ z e. (let parts = or_parts (nat_lt z graph.shared) (nat_eq z q) e in with_other q z answer.value (with_first answer.globals w') (nat_eq z q) parts.1 ∙ with_first_other answer.globals w' z (subst (λ k. k ≤ z) (sym long) (ltb-false z graph.shared parts.0)));
      }

      follows_call : (into : Option ℕ) (unit : ℕ) (operands : List Operand) (s : ℕ)
          → slice_get nodes n ≡ Some (Call into unit operands s) → r.changes n ≡ Unchanged
          → (answer : Answer) → IsCallAnswer (length (shared_values graph.shared v)) answer
          → Next (n ∷ before) x y' (resumed into answer (at s f)) (resumed into answer (at (to s) h))
      follows_call into unit operands s is unchanged answer fits =
          unchanged_next (Call into unit operands s) is unchanged s 0 x y' (with_result into answer.value (with_first answer.globals v)) (with_result into answer.value (with_first answer.globals w')) refl (omega arith) (omega arith) (call_assigned into unit operands s answer (fits.globals.long ∙ shared_long graph.shared v))

      follows_test : (test : MirTest) (s o : ℕ) → slice_get nodes n ≡ Some (Test test s o)
          → r.changes n ≡ Unchanged → (b : Bool)
          → Follows (n ∷ before) x y' (Continues 0 (at (if b then s else o) f)) (Continues 0 (at (if b then to s else to o) h))
      follows_test test s o is unchanged true = (0, at (to s) h, refl, unchanged_next (Test test s o) is unchanged s 0 (x + 0) (y' + 0) v w' refl refl refl (none_assigned (Test test s o) (λ z. refl)))
      follows_test test s o is unchanged false = (0, at (to o) h, refl, unchanged_next (Test test s o) is unchanged o 1 (x + 0) (y' + 0) v w' refl refl refl (none_assigned (Test test s o) (λ z. refl)))

      follows_guard : (test : MirTest) (number s : ℕ)
          → slice_get nodes n ≡ Some (Guard test number s) → r.changes n ≡ Unchanged → (b : Bool)
          → Follows (n ∷ before) x y' (if b then Traps (Raised number) 0 else Continues 0 (at s f)) (if b then Traps (Raised number) 0 else Continues 0 (at (to s) h))
      follows_guard test number s is unchanged true = (0, refl)
      follows_guard test number s is unchanged false = (0, at (to s) h, refl, unchanged_next (Guard test number s) is unchanged s 0 (x + 0) (y' + 0) v w' refl refl refl (none_assigned (Guard test number s) (λ z. refl)))

      follows_return : (a : Operand) → slice_get nodes n ≡ Some (Return a) → CountsNoMore r nodes → y' ≤ x
      follows_return a is cheap =
          let path = reverse before ++ n ∷ [] in
          let less = cheap path (full before n trace (ap is_return is)) in
          let cost_is : cost n ≡ 0 = ap (weigh counts) is in
          let new_cost_is : new_cost n ≡ weigh_all counts (r.inserts n) + 0 = ap (λ o. weigh_all counts (r.inserts n) + weigh counts (option_map (changed (r.changes n)) o)) is in
          omega (arith, less, cost_is, new_cost_is, counted, counted', sum_append cost (reverse before) (n ∷ []), sum_reverse cost before, sum_append new_cost (reverse before) (n ∷ []), sum_reverse new_cost before)
        where
          ends : (path : List ℕ) (last : ℕ) → Ends last (path ++ last ∷ [])
          ends [] last = refl
          ends (k ∷ []) last = refl
          ends (k ∷ l ∷ path) last = ends (l ∷ path) last

          begins : (m : ℕ) (earlier : List ℕ) (path : List ℕ) → Trace nodes m earlier
              → Begins 0 (reverse earlier ++ m ∷ path)
          begins m earlier path from_start = refl
          begins m earlier path (goes_on k l first t edge) =
              subst (Begins 0) (sym (ap (λ l. l ++ m ∷ path) (reverse-append (k ∷ []) first) ∙ append_assoc (reverse first) (k ∷ []) (m ∷ path))) (begins k first (m ∷ path) t)

          full : (earlier : List ℕ) (last : ℕ) → Trace nodes last earlier → IsReturnAt nodes last
              → IsFullPath nodes (reverse earlier ++ last ∷ [])
          full earlier last t returns = record {
            is_path = trace_path nodes (trace_within 0 [] from_start) (λ m slot s edge. (is_graph.can.succs m slot s edge).1) last earlier t;
            begins = begins last earlier [] t;
            last = last;
            ends = ends (reverse earlier) last;
            returns = returns;
          }

      -- a node other than Start
      follows : (node : Node) → slice_get nodes n ≡ Some node → 1 ≤ n
          → Follows (n ∷ before) x y' (node_transition graph.shared graph.received (Some node) f) (node_transition graph.shared graph.received (Some (redirected to (changed (r.changes n) node))) h)
      follows (Start s) is some = absurd (omega (arith, some, is_graph.can.only n s is))
      follows (Assign z rhs s) is some = follows_assign z rhs s is (r.changes n) refl
      follows (Skip s) is some = elim (preserves.changes n (Skip s) is) [
        | inl unchanged ↦ (0, at (to s) h, refl, unchanged_next (Skip s) is unchanged s 0 (x + 0) (y' + 0) v w' refl refl refl (none_assigned (Skip s) (λ z. refl)))
        | inr other ↦ let never = other.3 in absurd (cc)
      ]
      follows (Print a s) is some = elim (preserves.changes n (Print a s) is) [
        | inl unchanged ↦
            let equal = preserves.reads n (Print a s) before v w trace is unchanged holds untrapped in
            (at (to s) h, ap (λ u. Prints u (at (to s) h)) (operand_equal w' v a equal), unchanged_next (Print a s) is unchanged s 0 x y' v w' refl (omega arith) (omega arith) (none_assigned (Print a s) (λ z. refl)))
        | inr other ↦ let never = other.3 in absurd (cc)
      ]
      follows (Guard test number s) is some = elim (preserves.changes n (Guard test number s) is) [
        | inl unchanged ↦
            let equal = preserves.reads n (Guard test number s) before v w trace is unchanged holds untrapped in
            subst (λ b. Follows (n ∷ before) x y' (if test_holds v test then Traps (Raised number) 0 else Continues 0 (at s f)) (if b then Traps (Raised number) 0 else Continues 0 (at (to s) h))) (sym (test_equal w' v test equal)) (follows_guard test number s is unchanged (test_holds v test))
        | inr other ↦ let never = other.3 in absurd (cc)
      ]
      follows (Call into unit operands s) is some = elim (preserves.changes n (Call into unit operands s) is) [
        | inl unchanged ↦
            let equal = preserves.reads n (Call into unit operands s) before v w trace is unchanged holds untrapped in
            let given = equal_left (shared_vars graph.shared) (flat_map operand_vars operands) w' v equal in
            let read = equal_right (shared_vars graph.shared) (flat_map operand_vars operands) w' v equal in (
              at (to s) h,
              ap (λ l. Calls unit (record { arguments = l; globals = shared_values graph.shared w' }) into (at (to s) h)) (operands_equal w' v operands read) ∙ ap (λ l. Calls unit (record { arguments = map (operand_value v) operands; globals = l }) into (at (to s) h)) (map_equal (shared_vars graph.shared) w' v given),
              follows_call into unit operands s is unchanged,
            )
        | inr other ↦ let never = other.3 in absurd (cc)
      ]
      follows (Test test s o) is some = elim (preserves.changes n (Test test s o) is) [
        | inl unchanged ↦
            let equal = preserves.reads n (Test test s o) before v w trace is unchanged holds untrapped in
            subst (λ b. Follows (n ∷ before) x y' (Continues 0 (at (if test_holds v test then s else o) f)) (Continues 0 (at (if b then to s else to o) h))) (sym (test_equal w' v test equal)) (follows_test test s o is unchanged (test_holds v test))
        | inr other ↦ let never = other.3 in absurd (cc)
      ]
      follows (Return a) is some = elim (preserves.changes n (Return a) is) [
        | inl unchanged ↦
            let equal = preserves.reads n (Return a) before v w trace is unchanged holds untrapped in
            let given = equal_left (shared_vars graph.shared) (operand_vars a) w' v equal in
            let read = equal_right (shared_vars graph.shared) (operand_vars a) w' v equal in
            (ap (λ u. Returns (record { value = u; globals = shared_values graph.shared w' })) (operand_equal w' v a read) ∙ ap (λ l. Returns (record { value = operand_value v a; globals = l })) (map_equal (shared_vars graph.shared) w' v given), follows_return a is)
        | inr other ↦ let never = other.3 in absurd (cc)
      ]

    -- Start, where both sides get the same values
    follows_start : n ≡ 0 → w' ≡ v
        → Follows (n ∷ before) x y' (node_transition graph.shared graph.received (slice_get nodes n) f) (node_transition graph.shared graph.received (slice_get raw n) h)
    follows_start zero_is same =
        let s = is_graph.can.start.0 in
        let is : slice_get nodes n ≡ Some (Start s) = ap (slice_get nodes) zero_is ∙ is_graph.can.start.1 in
        let is' : slice_get raw n ≡ Some (Start (to s)) = old_get r nodes n (Start s) is in
        let first : (Values → Values) = λ u. received_from 0 graph.received arguments (with_first (shared_values graph.shared u) all_zero) in
        let values = first v in
        let edge : HasEdge nodes 0 s = (0, ap (λ o. slice_get (succs_of o) 0) is_graph.can.start.1) in
        let holds : Holds s (n ∷ before) values values =
        subst (λ l. Holds s (n ∷ l) values values) (sym (start_trace n before zero_is trace)) (subst (λ k. Holds s (k ∷ []) values values) (sym zero_is) (preserves.starts s values edge)) in
        subst (λ o. Follows (n ∷ before) x y' (node_transition graph.shared graph.received o f) (node_transition graph.shared graph.received (slice_get raw n) h)) (sym is)
        (subst (λ o. Follows (n ∷ before) x y' (node_transition graph.shared graph.received (Some (Start s)) f) (node_transition graph.shared graph.received o h)) (sym is')
        (0, record { place = to s; arguments = arguments; values = values }, ap (λ u. Continues 0 (record { place = to s; arguments = arguments; values = first u })) same, onward (Start s) is s 0 (x + 0) (y' + 0) values values refl refl refl holds))

  -- ---- from near each other

  -- at Start, before which nothing is put, both sides have the same values
  at_first : (before : List ℕ) (x y : ℕ) (f g : Frame) → NearAt before x y f g → f.place ≡ 0
      → values_after (r.inserts f.place) g.values ≡ f.values
  at_first before x y f g near zero_is = ap (λ l. values_after l g.values) (ap r.inserts zero_is ∙ fits.at_start) ∙ near.first zero_is

  moves : (before : List ℕ) (x y : ℕ) (f g : Frame) → NearAt before x y f g
      → Follows (f.place ∷ before) x (y + weigh_all counts (r.inserts f.place)) (code f) (code' (landed f.place (r.inserts f.place) g))
  moves before x y f g near =
      let n = f.place in
      let place = trace_within n before near.trace in
      let node = some_at nodes n place in
      let same : landed n (r.inserts n) g ≡ record { place = n; arguments = f.arguments; values = values_after (r.inserts n) g.values } = ap (λ a. (record { place = n; arguments = a; values = values_after (r.inserts n) g.values })) near.arguments in
      subst (λ h. Follows (n ∷ before) x (y + weigh_all counts (r.inserts n)) (code f) (code' h)) (sym same)
      (elim (cases_lt 0 n) [
        | inl some ↦
            subst (λ o. Follows (n ∷ before) x (y + weigh_all counts (r.inserts n)) (node_transition graph.shared graph.received o f) (code' (record { place = n; arguments = f.arguments; values = values_after (r.inserts n) g.values }))) (sym node.1)
            (subst (λ o. Follows (n ∷ before) x (y + weigh_all counts (r.inserts n)) (node_transition graph.shared graph.received (Some node.0) f) (node_transition graph.shared graph.received o (record { place = n; arguments = f.arguments; values = values_after (r.inserts n) g.values }))) (sym (old_get r nodes n node.0 node.1))
            (follows n before x y f.arguments f.values g.values near.trace near.untrapped near.counted near.counted' (near.holds some) node.0 node.1 some))
        | inr none ↦ follows_start n before x y f.arguments f.values g.values near.trace near.untrapped near.counted near.counted' (omega (arith, none)) (at_first before x y f g near (omega (arith, none)))
      ])

  starts : (entry : CallEntry) → NearAt [] 0 0 (first_frame entry) (first_frame entry)
  starts entry = record {
    trace = from_start;
    place = sym (start_entry r extra graph fits);
    arguments = refl;
    first = λ none. refl;
    holds = λ some. absurd (omega (arith, some));
    untrapped = ap (λ l. none_traps l (first_frame entry).values) fits.at_start;
    counted = refl;
    counted' = refl;
  }

  -- ---- the simulation

  abbrev Near : ℕ → ℕ → ℕ → Frame → Frame → Type 0
  Near z x y f g = ((before : List ℕ) × NearAt before x y f g) ⊎ BothTrap z f g

  from_next : (path : List ℕ) (x y y1 : ℕ) (f g : Frame) → y ≡ y1 → Next path x y f g → (z : ℕ) × Near z x y1 f g
  from_next path x y y1 f g e next = elim next [ inl near ↦ (0, inl (path, subst (λ q. NearAt path x q f g) e near)) | inr trap ↦ (trap.0, inr trap.1) ]

  from_follows : (path : List ℕ) (x y : ℕ) (h : Frame) (t : Transition)
      → Follows path x y t (code' h) → Responds (CountsNoMore r graph.nodes) Near code' 0 x y h t
  from_follows path x y h (Continues n next) a = let q = from_next path (x + n) (y + a.0) (y + a.0) next a.1 refl a.3 in record { steps = 1; cost = a.0; there = a.1; silent = (a.1, a.0, 0, a.2, (refl, refl), omega arith); measure = q.0; related = q.1; moves = inl (le_refl 1) }
  from_follows path x y h (Prints v next) a = let q = from_next path x y (y + 0) next a.0 (omega arith) a.2 in record { steps = 0; cost = 0; there = h; silent = (refl, refl); second_next = a.0; is = a.1; measure = q.0; related = q.1 }
  from_follows path x y h (Calls unit entry into next) a = record {
    steps = 0;
    cost = 0;
    there = h;
    silent = (refl, refl);
    second_into = into;
    second_next = a.0;
    is = a.1;
    related = λ answer fits. from_next path x y (y + 0) (resumed into answer next) (resumed into answer a.0) (omega arith) (a.2 answer fits);
  }
  from_follows path x y h (Returns answer) a = record {
    steps = 0;
    cost = 0;
    there = h;
    silent = (refl, refl);
    is = a.0;
    cheaper = λ cheap. let least = a.1 cheap in omega (arith, least);
  }
  from_follows path x y h (Traps kind n) a = record { steps = 0; cost = 0; there = h; silent = (refl, refl); counted = a.0; is = a.1 }

  -- both will trap: the second stays where it is until the first does
  trap_responds : (z x y : ℕ) (f g : Frame) → BothTrap z f g
      → Responds (CountsNoMore r graph.nodes) Near code' z x y g (code f)
  trap_responds zero x y f g b =
      let is : code f ≡ Traps ZeroDivisor b.first.counted = ap code b.first.silent.0 ∙ b.first.is in
      subst (Responds (CountsNoMore r graph.nodes) Near code' 0 x y g) (sym is) (record { steps = b.steps; cost = b.second.cost; there = b.second.there; silent = b.second.silent; counted = b.second.counted; is = b.second.is })
  trap_responds (suc z) x y f g b =
      let s = b.first.silent in
      subst (Responds (CountsNoMore r graph.nodes) Near code' (suc z) x y g) (sym s.3) (record {
        steps = 0;
        cost = 0;
        there = g;
        silent = (refl, refl);
        measure = z;
        related = inr (record { first = record { there = b.first.there; cost = s.2; silent = s.4; counted = b.first.counted; is = b.first.is }; steps = b.steps; second = b.second });
        moves = inr (omega arith);
      })

  near_silent : (f g : Frame) → f.place < length nodes → g.place ≡ to f.place
      → none_traps (r.inserts f.place) g.values ≡ true
      → Silently code' (length (r.inserts f.place)) g (landed f.place (r.inserts f.place) g) (weigh_all counts (r.inserts f.place))
  near_silent f g below e untrapped =
      let run = chain_silent graph.shared graph.received raw f.place (first_new f.place) (r.inserts f.place) (chain_is r nodes f.place below) g untrapped in
      let same : g ≡ at (to f.place) g = ap (λ q. at q g) e in
      subst (λ q. Silently code' (length (r.inserts f.place)) q (landed f.place (r.inserts f.place) g) (weigh_all counts (r.inserts f.place))) (sym same) run

  simulates : Simulates (graph_machine graph.shared graph.received graph.nodes) (graph_machine graph.shared graph.received (rewritten_nodes r graph.nodes)) (CountsNoMore r graph.nodes) Near
  simulates = record {
    receives = refl;
    shared = refl;
    hands = graph_hands graph.shared graph.received graph.nodes;
    starts = λ entry is. (0, inl ([], starts entry));
    responds = λ z x y f g related. elim related [
      | inl near ↦
          let k = length (r.inserts f.place) in
          let c = weigh_all counts (r.inserts f.place) in
          let h = landed f.place (r.inserts f.place) g in
          responds_past (CountsNoMore r graph.nodes) Near code' k c 0 z x y g h (code f) (near_silent f g (trace_within f.place near.0 near.1.trace) near.1.place near.1.untrapped) (inr (omega arith)) (from_follows (f.place ∷ near.0) x (y + c) h (code f) (moves near.0 x y f g near.1))
      | inr trap ↦ trap_responds z x y f g trap
    ];
  }

  pub rewritten_same : UnitSame (graph_machine graph.shared graph.received graph.nodes) (graph_machine graph.shared graph.received (rewritten_nodes r graph.nodes))
  rewritten_same = simulated_same _ _ (CountsNoMore r graph.nodes) Near simulates

  pub rewritten_cheaper : CountsNoMore r graph.nodes
      → UnitCheaper (graph_machine graph.shared graph.received graph.nodes) (graph_machine graph.shared graph.received (rewritten_nodes r graph.nodes))
  rewritten_cheaper cheap = simulated_cheaper _ _ (CountsNoMore r graph.nodes) Near simulates cheap

  -- ---- runs along paths

  along_chain : (n k : ℕ) (puts : List Insertion) → IsInsertionChain raw n k puts
      → (rest : List ℕ) (g : Frame) (answers : List Answer) → none_traps puts g.values ≡ true
      → GoesAlong code' (n ∷ rest) (landed n puts g) answers
      → GoesAlong code' (through k puts (n ∷ rest)) (at (entry_among n k puts) g) answers
  along_chain n k [] c rest g answers untrapped goes = goes
  along_chain n k (put ∷ puts) c rest g answers untrapped goes =
      let over = through (suc k) puts (n ∷ rest) in
      let h = record g { values = with_value put.var (rhs_value g.values put.rhs) g.values } in
      let both = and_parts _ _ untrapped in
      (refl, subst (λ t. StepsAlong over (GoesAlong code' over) t answers) (sym (one_goes_on graph.shared graph.received raw k put.var (entry_among n (suc k) puts) put.rhs g c.0 (not-true _ both.0))) (along_chain n (suc k) puts c.1 rest h answers both.1 goes))

  -- no run that will trap goes along a path to a return
  trap_returns : (z : ℕ) (path : List ℕ) (f : Frame) (answers : List Answer) → TrapsAfter code z f
      → GoesAlong code path f answers → ⊥
  trap_returns z [] f answers t goes = goes
  trap_returns zero (n ∷ path) f answers t goes = subst (λ q. StepsAlong path (GoesAlong code path) q answers) (ap code t.silent.0 ∙ t.is) goes.1
  trap_returns (suc z) (n ∷ path) f answers t goes =
      let s = t.silent in
      trap_returns z path s.0 answers (record { there = t.there; cost = s.2; silent = s.4; counted = t.counted; is = t.is }) (subst (λ q. StepsAlong path (GoesAlong code path) q answers) s.3 goes.1)

  abbrev over_of : List ℕ → List ℕ
  over_of path = over_path r.inserts (length graph.nodes) path

  -- the second goes along the path that corresponds to the remainder of the path, wherever the first goes along the
  -- remainder
  abbrev GoesOver : List ℕ → Type 0
  GoesOver path = (before : List ℕ) (x y : ℕ) (f g : Frame) (answers : List Answer) → AreAnswers graph.shared answers → Next before x y f g → GoesAlong code path f answers → GoesAlong code' (over_of path) g answers

  steps_over : (path : List ℕ) → GoesOver path
      → (passed : List ℕ) (x y : ℕ) (t t' : Transition) (answers : List Answer)
      → AreAnswers graph.shared answers → HandsOver graph.shared t → Follows passed x y t t'
      → StepsAlong path (GoesAlong code path) t answers
      → StepsAlong (over_of path) (GoesAlong code' (over_of path)) t' answers
  steps_over path ih passed x y (Continues n next) t' answers are hands moved steps =
      subst (λ t. StepsAlong (over_of path) (GoesAlong code' (over_of path)) t answers) (sym moved.2) (ih passed (x + n) (y + moved.0) next moved.1 answers are moved.3 steps)
  steps_over path ih passed x y (Prints v next) t' answers are hands moved steps =
      subst (λ t. StepsAlong (over_of path) (GoesAlong code' (over_of path)) t answers) (sym moved.1) (ih passed x y next moved.0 answers are moved.2 steps)
  steps_over path ih passed x y (Calls unit entry into next) t' [] are hands moved steps = absurd steps
  steps_over path ih passed x y (Calls unit entry into next) t' (answer ∷ answers) are hands moved steps =
      subst (λ t. StepsAlong (over_of path) (GoesAlong code' (over_of path)) t (answer ∷ answers)) (sym moved.1) (ih passed x y (resumed into answer next) (resumed into answer moved.0) answers (All-tail (IsCallAnswer graph.shared) answer answers are) (moved.2 answer (subst (λ k. IsCallAnswer k answer) (sym hands) (All-head (IsCallAnswer graph.shared) answer answers are))) steps)
  steps_over [] ih passed x y (Returns answer) t' answers are hands moved steps = subst (λ t. StepsAlong [] (GoesAlong code' []) t answers) (sym moved.0) tt
  steps_over (n ∷ path) ih passed x y (Returns answer) t' answers are hands moved steps = absurd steps
  steps_over path ih passed x y (Traps kind n) t' answers are hands moved steps = absurd steps

  goes_over : (path : List ℕ) → GoesOver path
  goes_over [] before x y f g answers are next goes = absurd goes
  goes_over (n ∷ path) before x y f g answers are next goes = elim next [
    | inl near ↦
        let m = f.place in
        let h = landed m (r.inserts m) g in
        let moved = moves before x y f g near in
        let steps = steps_over path (goes_over path) (m ∷ before) x (y + weigh_all counts (r.inserts m)) (code f) (code' h) answers are (graph_hands graph.shared graph.received graph.nodes f) moved goes.1 in
        let chain = along_chain m (first_new m) (r.inserts m) (chain_is r nodes m (trace_within m before near.trace)) (over_of path) g answers near.untrapped (refl, steps) in
        let stands : g ≡ at (to m) g = ap (λ q. at q g) near.place in
        subst (λ q. GoesAlong code' (over_of (q ∷ path)) g answers) goes.0 (subst (λ q. GoesAlong code' (over_of (m ∷ path)) q answers) (sym stands) chain)
    | inr trap ↦ absurd (trap_returns trap.0 (n ∷ path) f answers trap.1.first goes)
  ]

  pub rewritten_runs : (path : List ℕ) (entry : CallEntry) (answers : List Answer)
      → AreAnswers graph.shared answers
      → RunsAlong (graph_machine graph.shared graph.received graph.nodes) entry answers path
      → RunsAlong (graph_machine graph.shared graph.received (rewritten_nodes r graph.nodes)) entry answers (over_path r.inserts (length graph.nodes) path)
  rewritten_runs path entry answers are runs = goes_over path [] 0 0 (first_frame entry) (first_frame entry) answers are (inl (starts entry)) runs
