-- The two graphs go in lockstep, with equal values of the live variables: where a division that nothing reads is gone,
-- its variable is not live behind it, and it did not trap.
use Rattle.std.proofs.Common.{◌≡◌, ℕ, ◌<◌, ◌≤◌, Bool, true, false, if◌then◌else◌, nat_eq, nat_lt, ◌||◌, List, [], ◌∷◌, length, map, flat_map, slice_get, ℤ, Option, Some, None, option_map, inl, inr, eq-eqb, refl, sym, ap, ◌∙◌, subst, arith, le_refl, zero-add}
use Rattle.std.proofs.lemmas.Bool.{cases_Bool, eqb-true, ltb-false, ltb-true, or_parts, or_right, true≢false}
use Rattle.std.proofs.lemmas.Option.{slice_get_within}
use Rattle.std.proofs.Math.Bool.{or-false}
use Rattle.mir_base.specs.declared.instructions.Operand.{Operand}
use Rattle.mir_base.specs.declared.instructions.Rhs.{Rhs}
use Rattle.mir_base.specs.declared.instructions.Test as tests
use Rattle.mir_base.specs.declared.operators.Trap.TheVariants.{ZeroDivisor, Raised}
use Rattle.mir_base.specs.EqualValues.{EqualOn, equal_left, equal_right, operand_equal, operands_equal, rhs_equal, test_equal, traps_equal}
use Rattle.mir_base.specs.ExpressionLaws.{assign_is}
use Rattle.mir_base.specs.Expressions.{rhs_count, rhs_traps, rhs_value}
use Rattle.mir_base.specs.Frames.{Answer, CallEntry, Values, all_zero, first_frame, shared_values, shared_vars, with_first, with_result, with_value, Frame, Transition, Continues, Traps}
use Rattle.mir_base.specs.Locksteps.{Alike}
use Rattle.mir_base.specs.Shapes.{operand_vars}
use Rattle.mir_base.specs.SharedLaws.{map_equal, shared_long, with_first_other, with_first_same}
use Rattle.mir_base.specs.UnitRuns.{IsEntry, UnitCheaper, UnitSame}
use Rattle.mir_base.specs.Units.{assigned, at, guard_transition, operand_value, test_holds}
use Rattle.flow_graph.specs.declared.nodes.Node.{Node}
use Rattle.flow_graph.specs.declared.nodes.Node.TheVariants.{Start, Skip, Assign, Print, Guard, Call, Test, Return}
use Rattle.flow_graph.specs.Graphs.{CanMake, GraphShape, assigns, node_reads, node_succs, succs_of}
use Rattle.flow_graph.specs.ListLaws.{some_at}
use Rattle.flow_graph.specs.MachineLaws.{graph_hands}
use Rattle.flow_graph.specs.Machines.{graph_code, graph_machine, machine_of, node_transition, received_from}
use Rattle.flow_graph.specs.Numbering.{is_in}
use Rattle.flow_graph.specs.Paths.{HasEdge}
use Rattle.flow_graph.specs.RunFrames.{IsRunFrame}
use Rattle.flow_graph.specs.RunSteps.{cheaper_in_runs, same_in_runs}
use Rattle.graph_edit.specs.Accesses.{assigns_var}
use Rattle.graph_edit.specs.ChangeLaws.{changed_not}
use Rattle.graph_edit.specs.InsertionRuns.{BothAssign}
use Rattle.graph_edit.specs.Insertions.{changed}
use Rattle.dead_code.specs.Liveness.{IsLiveAfter, IsLiveBefore}
use Rattle.dead_code.specs.Pruned.{pruned_from, removed_if}
use Rattle.dead_code.specs.PrunedLaws.{live_back, live_read, pruned_get}

-- ---- what is read

-- variables that have equal values each
equal_each : (xs : List ℕ) (v w : Values) → ((x : ℕ) → is_in x xs ≡ true → v x ≡ w x) → EqualOn xs v w
equal_each [] v w each = tt
equal_each (x ∷ xs) v w each =
    (each x (or_first (nat_eq x x) (is_in x xs) (eq-eqb x x refl)), equal_each xs v w (λ y later. each y (or_right _ (is_in y xs) later)))
  where
    or_first : (a b : Bool) → a ≡ true → (a || b) ≡ true
    or_first true b h = refl
    or_first false b h = cc

-- an assignment leaves the value of another variable
other_value : (x y : ℕ) (c : ℤ) (values : Values) → nat_eq y x ≡ false → with_value x c values y ≡ values y
other_value x y c values off = ap (λ b. if b then c else values y) off

-- ---- lockstep

-- both stand at one node, with the same arguments and equal values of the live variables, and of all at the first node
record Beside (graph : GraphShape) (f g : Frame) : Type 0 where
  same : g ≡ record { place = f.place; arguments = f.arguments; values = g.values }
  live : (x : ℕ) → IsLiveBefore graph x f.place → g.values x ≡ f.values x
  first : f.place ≡ 0 → g.values ≡ f.values
  there : f.place < length graph.nodes

-- nodes that may go: none of them traps in a run, and what they assign is not live behind them
pub record MayGo (graph : GraphShape) (gone : ℕ → Bool) : Type 0 where
  pub safe : (f : Frame) (x : ℕ) (rhs : Rhs) (next : ℕ) → IsRunFrame (machine_of graph) f → gone f.place ≡ true
      → slice_get graph.nodes f.place ≡ Some (Assign x rhs next) → rhs_traps f.values rhs ≡ false
  pub dead : (n x : ℕ) (rhs : Rhs) (next : ℕ) → gone n ≡ true → slice_get graph.nodes n ≡ Some (Assign x rhs next)
      → ¬ (IsLiveAfter graph x n)

module _ (graph : GraphShape) (can : CanMake graph.vars graph.received graph.nodes) (gone : ℕ → Bool)
    (may : MayGo graph gone) where
  abbrev after : List Node
  after = pruned_from gone 0 graph.nodes

  -- what a node does, with so many globals and such received variables
  abbrev does : Option Node → Frame → Transition
  does o f = node_transition graph.shared graph.received o f

  -- the first side is at f, and the second beside it with other values
  module _ (f : Frame) (w : Values) (live : (x : ℕ) → IsLiveBefore graph x f.place → w x ≡ f.values x)
      (first : f.place ≡ 0 → w ≡ f.values) where
    abbrev h : Frame
    h = record { place = f.place; arguments = f.arguments; values = w }

    -- along an edge, by what the node assigns on both sides
    onward : (node : Node) → slice_get graph.nodes f.place ≡ Some node → (s slot : ℕ)
        → slice_get (node_succs node) slot ≡ Some s
        → (v1 w1 : Values) → BothAssign (λ x. assigns graph x node) f.values w v1 w1
        → Beside graph (record { place = s; arguments = f.arguments; values = v1 }) (record { place = s; arguments = f.arguments; values = w1 })
    onward node here s slot leads v1 w1 both =
        let edge : HasEdge graph.nodes f.place s = (slot, ap (λ o. slice_get (succs_of o) slot) here ∙ leads) in
        let low = can.succs f.place slot s edge.1 in
        record {
          same = refl;
          live = λ x is. elim (cases_Bool (assigns graph x node)) [
            | inl on ↦ sym (both.same x on)
            | inr off ↦ both.second_keeps x off ∙ live x (live_back graph x f.place s edge (ap (assigns_var graph x) here ∙ off) is) ∙ sym (both.first_keeps x off)
          ];
          first = λ none. absurd (omega (arith, none, low.0));
          there = low.1;
        }

    -- a node that assigns nothing
    none_assigned : (node : Node) → ((x : ℕ) → assigns graph x node ≡ false)
        → BothAssign (λ x. assigns graph x node) f.values w f.values w
    none_assigned node none =
        record { same = λ x e. absurd (true≢false (sym e ∙ none x)); first_keeps = λ x e. refl; second_keeps = λ x e. refl }

    -- an assignment of equal values
    one_assigned : (x : ℕ) (rhs : Rhs) (next : ℕ) (c d : ℤ) → c ≡ d
        → BothAssign (λ y. assigns graph y (Assign x rhs next)) f.values w (with_value x c f.values) (with_value x d w)
    one_assigned x rhs next c d same = record {
      same = λ y e. ap (λ b. (if b then c else f.values y)) e ∙ same ∙ sym (ap (λ b. (if b then d else w y)) e);
      first_keeps = λ y e. other_value x y c f.values e;
      second_keeps = λ y e. other_value x y d w e;
    }

    -- a call: the globals, and then its result
    call_assigned : (into : Option ℕ) (unit : ℕ) (operands : List Operand) (s : ℕ) (a : Answer)
        → length a.globals ≡ graph.shared
        → BothAssign (λ x. assigns graph x (Call into unit operands s)) f.values w (with_result into a.value (with_first a.globals f.values)) (with_result into a.value (with_first a.globals w))
    call_assigned None unit operands s a long = record {
      same =
          λ x e. with_first_same a.globals f.values w x (subst (λ k. x < k) (sym long) (ltb-true x graph.shared e));
      first_keeps =
          λ x e. with_first_other a.globals f.values x (subst (λ k. k ≤ x) (sym long) (ltb-false x graph.shared e));
      second_keeps =
          λ x e. with_first_other a.globals w x (subst (λ k. k ≤ x) (sym long) (ltb-false x graph.shared e));
    }
    call_assigned (Some y) unit operands s a long = record {
      same = λ x e. elim (cases_Bool (nat_eq x y)) [
        | inl is ↦ ap (λ b. (if b then a.value else with_first a.globals f.values x)) is ∙ sym (ap (λ b. (if b then a.value else with_first a.globals w x)) is)
        | inr off ↦
            other_value y x a.value (with_first a.globals f.values) off
            ∙ with_first_same a.globals f.values w x (subst (λ k. x < k) (sym long) (ltb-true x graph.shared (sym (ap (λ b. nat_lt x graph.shared || b) off ∙ or-false (nat_lt x graph.shared)) ∙ e)))
            ∙ sym (other_value y x a.value (with_first a.globals w) off)
      ];
      first_keeps =
          λ x e. (let parts = or_parts (nat_lt x graph.shared) (nat_eq x y) e in other_value y x a.value (with_first a.globals f.values) parts.1 ∙ with_first_other a.globals f.values x (subst (λ k. k ≤ x) (sym long) (ltb-false x graph.shared parts.0)));
      second_keeps =
          λ x e. (let parts = or_parts (nat_lt x graph.shared) (nat_eq x y) e in other_value y x a.value (with_first a.globals w) parts.1 ∙ with_first_other a.globals w x (subst (λ k. k ≤ x) (sym long) (ltb-false x graph.shared parts.0)));
    }

    -- what a node reads has equal values
    equal : (node : Node) → slice_get graph.nodes f.place ≡ Some node → EqualOn (node_reads graph node) f.values w
    equal node here =
        equal_each (node_reads graph node) f.values w (λ x read. sym (live x (live_read graph x f.place node here read)))

    -- ---- a node that stays

    start_alike : (next : ℕ) → slice_get graph.nodes f.place ≡ Some (Start next)
        → Alike (Beside graph) (does (Some (Start next)) f) (does (Some (Start next)) h)
    start_alike next here =
        let edge : HasEdge graph.nodes f.place next = (0, ap (λ o. slice_get (succs_of o) 0) here) in
        let low = can.succs f.place 0 next edge.1 in (
          le_refl 0,
          record {
            same = refl;
            live =
                λ x is. ap (λ (u : Values). received_from 0 graph.received f.arguments (with_first (shared_values graph.shared u) all_zero) x) (first (can.only f.place next here));
            first = λ none. absurd (omega (arith, none, low.0));
            there = low.1;
          },
        )

    assign_alike : (x : ℕ) (rhs : Rhs) (next : ℕ) → slice_get graph.nodes f.place ≡ Some (Assign x rhs next)
        → Alike (Beside graph) (does (Some (Assign x rhs next)) f) (does (Some (Assign x rhs next)) h)
    assign_alike x rhs next here =
        let reads = equal (Assign x rhs next) here in
        let value = rhs_equal f.values w rhs reads in
        let go = assigned x (rhs_value f.values rhs) next f in
        let go' = assigned x (rhs_value w rhs) next h in
        subst (λ t. Alike (Beside graph) t (does (Some (Assign x rhs next)) h)) (sym (assign_is x rhs next f))
        (subst (Alike (Beside graph) (if rhs_traps f.values rhs then Traps ZeroDivisor 1 else Continues (rhs_count rhs) go))
        (sym (assign_is x rhs next h ∙ ap (λ b. (if b then Traps ZeroDivisor 1 else Continues (rhs_count rhs) go')) (sym (traps_equal f.values w rhs reads))))
        (by (rhs_traps f.values rhs) (onward (Assign x rhs next) here next 0 refl _ _ (one_assigned x rhs next (rhs_value f.values rhs) (rhs_value w rhs) value))))
      where
        by : (b : Bool)
            → Beside graph (assigned x (rhs_value f.values rhs) next f) (assigned x (rhs_value w rhs) next h)
            → Alike (Beside graph) (if b then Traps ZeroDivisor 1 else Continues (rhs_count rhs) (assigned x (rhs_value f.values rhs) next f)) (if b then Traps ZeroDivisor 1 else Continues (rhs_count rhs) (assigned x (rhs_value w rhs) next h))
        by true both = refl
        by false both = (le_refl (rhs_count rhs), both)

    guard_alike : (test : tests.Test) (number next : ℕ)
        → slice_get graph.nodes f.place ≡ Some (Guard test number next)
        → Alike (Beside graph) (does (Some (Guard test number next)) f) (does (Some (Guard test number next)) h)
    guard_alike test number next here =
        subst (λ c. Alike (Beside graph) (guard_transition test number next f) (if c then Traps (Raised number) 0 else Continues 0 (at next h)))
        (test_equal f.values w test (equal (Guard test number next) here)) (by (test_holds f.values test))
      where
        by : (b : Bool)
            → Alike (Beside graph) (if b then Traps (Raised number) 0 else Continues 0 (at next f)) (if b then Traps (Raised number) 0 else Continues 0 (at next h))
        by true = refl
        by false =
            (le_refl 0, onward (Guard test number next) here next 0 refl f.values w (none_assigned (Guard test number next) (λ x. refl)))

    test_alike : (test : tests.Test) (taken other : ℕ)
        → slice_get graph.nodes f.place ≡ Some (Test test taken other)
        → Alike (Beside graph) (does (Some (Test test taken other)) f) (does (Some (Test test taken other)) h)
    test_alike test taken other here =
        (le_refl 0, subst (λ c. Beside graph (at (if test_holds f.values test then taken else other) f) (at (if c then taken else other) h)) (test_equal f.values w test (equal (Test test taken other) here)) (by (test_holds f.values test)))
      where
        by : (b : Bool) → Beside graph (at (if b then taken else other) f) (at (if b then taken else other) h)
        by true =
            onward (Test test taken other) here taken 0 refl f.values w (none_assigned (Test test taken other) (λ x. refl))
        by false =
            onward (Test test taken other) here other 1 refl f.values w (none_assigned (Test test taken other) (λ x. refl))

    call_alike : (into : Option ℕ) (unit : ℕ) (operands : List Operand) (next : ℕ)
        → slice_get graph.nodes f.place ≡ Some (Call into unit operands next)
        → Alike (Beside graph) (does (Some (Call into unit operands next)) f) (does (Some (Call into unit operands next)) h)
    call_alike into unit operands next here =
        let reads = equal (Call into unit operands next) here in
        let arguments = operands_equal f.values w operands (equal_right (shared_vars graph.shared) (flat_map operand_vars operands) f.values w reads) in
        let globals = map_equal (shared_vars graph.shared) f.values w (equal_left (shared_vars graph.shared) (flat_map operand_vars operands) f.values w reads) in (
          refl,
          ap (λ (l : List ℤ). record { arguments = l; globals = shared_values graph.shared f.values }) arguments
              ∙ ap (λ (l : List ℤ). record { arguments = map (operand_value w) operands; globals = l }) globals,
          λ a one. onward (Call into unit operands next) here next 0 refl _ _ (call_assigned into unit operands next a (one.globals.long ∙ shared_long graph.shared f.values)),
        )

    return_alike : (a : Operand) → slice_get graph.nodes f.place ≡ Some (Return a)
        → Alike (Beside graph) (does (Some (Return a)) f) (does (Some (Return a)) h)
    return_alike a here =
        let reads = equal (Return a) here in
        let value = operand_equal f.values w a (equal_right (shared_vars graph.shared) (operand_vars a) f.values w reads) in
        let globals = map_equal (shared_vars graph.shared) f.values w (equal_left (shared_vars graph.shared) (operand_vars a) f.values w reads) in
        ap (λ (z : ℤ). record { value = z; globals = shared_values graph.shared f.values }) value
        ∙ ap (λ (l : List ℤ). record { value = operand_value w a; globals = l }) globals

    at_node : (node : Node) → slice_get graph.nodes f.place ≡ Some node
        → Alike (Beside graph) (does (Some node) f) (does (Some node) h)
    at_node (Start next) here = start_alike next here
    at_node (Skip next) here =
        (le_refl 0, onward (Skip next) here next 0 refl f.values w (none_assigned (Skip next) (λ x. refl)))
    at_node (Assign x rhs next) here = assign_alike x rhs next here
    at_node (Print a next) here =
        (operand_equal f.values w a (equal (Print a next) here), onward (Print a next) here next 0 refl f.values w (none_assigned (Print a next) (λ x. refl)))
    at_node (Guard test number next) here = guard_alike test number next here
    at_node (Call into unit operands next) here = call_alike into unit operands next here
    at_node (Test test taken other) here = test_alike test taken other here
    at_node (Return a) here = return_alike a here

    -- ---- a node that goes

    module _ (of_run : IsRunFrame (machine_of graph) f) (goes : gone f.place ≡ true) where
      -- an assignment: it does not trap, and its variable is not live behind it
      gone_alike : (x : ℕ) (rhs : Rhs) (next : ℕ) → slice_get graph.nodes f.place ≡ Some (Assign x rhs next)
          → Alike (Beside graph) (does (Some (Assign x rhs next)) f) (does (Some (Skip next)) h)
      gone_alike x rhs next here =
          let edge : HasEdge graph.nodes f.place next = (0, ap (λ o. slice_get (succs_of o) 0) here) in
          let low = can.succs f.place 0 next edge.1 in
          let go = assigned x (rhs_value f.values rhs) next f in
          subst (λ t. Alike (Beside graph) t (Continues 0 (at next h)))
          (sym (assign_is x rhs next f ∙ ap (λ b. (if b then Traps ZeroDivisor 1 else Continues (rhs_count rhs) go)) (may.safe f x rhs next of_run goes here))) (
            omega arith,
            record {
              same = refl;
              live = λ y is. elim (cases_Bool (nat_eq y x)) [
                | inl on ↦ absurd (may.dead f.place x rhs next goes here (next, edge, subst (λ z. IsLiveBefore graph z next) (eqb-true y x on) is))
                | inr off ↦ live y (live_back graph y f.place next edge (ap (assigns_var graph y) here ∙ off) is) ∙ sym (other_value x y (rhs_value f.values rhs) f.values off)
              ];
              first = λ none. absurd (omega (arith, none, low.0));
              there = low.1;
            },
          )

      -- no other node is changed
      removed_alike : (node : Node) → slice_get graph.nodes f.place ≡ Some node
          → Alike (Beside graph) (does (Some node) f) (does (Some (changed (removed_if true) node)) h)
      removed_alike (Start next) here = at_node (Start next) here
      removed_alike (Skip next) here = at_node (Skip next) here
      removed_alike (Assign x rhs next) here = gone_alike x rhs next here
      removed_alike (Print a next) here = at_node (Print a next) here
      removed_alike (Guard test number next) here = at_node (Guard test number next) here
      removed_alike (Call into unit operands next) here = at_node (Call into unit operands next) here
      removed_alike (Test test taken other) here = at_node (Test test taken other) here
      removed_alike (Return a) here = at_node (Return a) here

    -- whether or not the node goes
    changed_alike : IsRunFrame (machine_of graph) f → (b : Bool) → gone f.place ≡ b → (node : Node)
        → slice_get graph.nodes f.place ≡ Some node
        → Alike (Beside graph) (does (Some node) f) (does (Some (changed (removed_if b) node)) h)
    changed_alike of_run true goes node here = removed_alike of_run goes node here
    changed_alike of_run false goes node here =
        subst (λ m. Alike (Beside graph) (does (Some node) f) (does (Some m) h)) (sym (changed_not node)) (at_node node here)

  -- ---- the whole

  -- what stands at a place behind the change
  after_at : (n : ℕ) (node : Node) → slice_get graph.nodes n ≡ Some node
      → slice_get after n ≡ Some (changed (removed_if (gone n)) node)
  after_at n node here =
      pruned_get gone graph.nodes 0 n ∙ ap (λ m. option_map (changed (removed_if (gone m))) (slice_get graph.nodes n)) (zero-add n)
      ∙ ap (option_map (changed (removed_if (gone n)))) here

  steps : (f g : Frame) → IsRunFrame (machine_of graph) f → Beside graph f g
      → Alike (Beside graph) (graph_code graph.shared graph.received graph.nodes f) (graph_code graph.shared graph.received after g)
  steps f g of_run beside =
      let node = some_at graph.nodes f.place beside.there in
      let alike = changed_alike f g.values beside.live beside.first of_run (gone f.place) refl node.0 node.1 in
      let there = subst (λ o. Alike (Beside graph) (does o f) (does (Some (changed (removed_if (gone f.place)) node.0)) (record { place = f.place; arguments = f.arguments; values = g.values }))) (sym node.1) alike in
      let there' = subst (λ o. Alike (Beside graph) (does (slice_get graph.nodes f.place) f) (does o (record { place = f.place; arguments = f.arguments; values = g.values }))) (sym (after_at f.place node.0 node.1)) there in
      subst (λ k. Alike (Beside graph) (graph_code graph.shared graph.received graph.nodes f) (graph_code graph.shared graph.received after k)) (sym beside.same) there'

  starts : (entry : CallEntry) → IsEntry (machine_of graph) entry
      → Beside graph (first_frame entry) (first_frame entry)
  starts entry is = record {
    same = refl;
    live = λ x lives. refl;
    first = λ none. refl;
    there = slice_get_within graph.nodes 0 (Start can.start.0) can.start.1;
  }

  -- the two do the same
  pub lessened_same : UnitSame (machine_of graph) (graph_machine graph.shared graph.received after)
  lessened_same =
      same_in_runs (machine_of graph) (graph_machine graph.shared graph.received after) refl refl (graph_hands graph.shared graph.received graph.nodes) (Beside graph) starts steps

  -- and the second evaluates no more operators
  pub lessened_cheaper : UnitCheaper (machine_of graph) (graph_machine graph.shared graph.received after)
  lessened_cheaper =
      cheaper_in_runs (machine_of graph) (graph_machine graph.shared graph.received after) refl refl (graph_hands graph.shared graph.received graph.nodes) (Beside graph) starts steps
