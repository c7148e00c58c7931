-- The law of held assignments: along each run the variable has the value of the right side. For proofs only, here and
-- above.
use Rattle.std.proofs.Common.{◌≡◌, ℕ, Bool, true, false, not, if◌then◌else◌, nat_eq, nat_lt, inl, inr, eq-eqb, List, [], ◌∷◌, length, slice_get, ℤ, Option, Some, None, refl, sym, ap, ◌∙◌, subst, true≢false, arith, le_refl}
use Rattle.std.specs.List.{list_any}
use Rattle.std.proofs.lemmas.Bool.{and_parts, ltb-false, not-true, or_parts}
use Rattle.mir_base.specs.declared.instructions.Operand.{Operand}
use Rattle.mir_base.specs.declared.instructions.Rhs.{Rhs}
use Rattle.mir_base.specs.declared.instructions.Test as tests
use Rattle.mir_base.specs.declared.operators.Trap.TheVariants.{ZeroDivisor, Raised}
use Rattle.mir_base.specs.EqualValues.{EqualOn, rhs_equal}
use Rattle.mir_base.specs.ExpressionLaws.{assign_is}
use Rattle.mir_base.specs.Expressions.{divides, rhs_count, rhs_traps, rhs_value}
use Rattle.mir_base.specs.Frames.{Answer, Values, shared_values, with_first, with_result, all_zero, with_value, Frame, resumed, Continues, Traps}
use Rattle.mir_base.specs.Locksteps.{Alike, Lockstep}
use Rattle.mir_base.specs.Shapes.{rhs_vars}
use Rattle.mir_base.specs.SharedLaws.{shared_long, with_first_other}
use Rattle.mir_base.specs.Units.{assigned, at, test_holds}
use Rattle.flow_graph.specs.declared.nodes.Node.{Node}
use Rattle.flow_graph.specs.declared.nodes.Node.TheVariants.{Start, Skip, Assign, Print, Guard, Call, Test, Return}
use Rattle.flow_graph.specs.Graphs.{CanMake, GraphShape, assigns, node_succs, succs_of}
use Rattle.flow_graph.specs.MachineLaws.{graph_hands}
use Rattle.flow_graph.specs.Machines.{graph_code, machine_of, node_transition, received_from}
use Rattle.flow_graph.specs.Numbering.{is_in}
use Rattle.flow_graph.specs.Paths.{Trace, from_start, goes_on}
use Rattle.flow_graph.specs.RunFrameLaws.{run_frame_related}
use Rattle.flow_graph.specs.RunFrames.{IsRunFrame}
use Rattle.graph_edit.specs.Accesses.{is_occurrence, occurs_at}
use Rattle.graph_edit.specs.OccurrenceLaws.{occurrence_is}
use Rattle.path_laws.specs.Paths.{Since}
use Rattle.held_assign.specs.Holding.{assigns_one, can_hold, ends_at}
use Rattle.held_assign.specs.HeldValues.{AgreesThere}

-- ---- one value

-- a variable that is not assigned keeps its value
other_value : (x y : ℕ) (v : ℤ) (values : Values) → nat_eq y x ≡ false → with_value x v values y ≡ values y
other_value x y v values off = rw off refl

-- one that is assigned has the new one
new_value : (x y : ℕ) (v : ℤ) (values : Values) → nat_eq y x ≡ true → with_value x v values y ≡ v
new_value x y v values on = rw on refl

-- variables that keep their values have equal ones
kept_equal : (xs : List ℕ) (old new : Values) (touched : ℕ → Bool) → list_any touched xs ≡ false → ((x : ℕ) → touched x ≡ false → new x ≡ old x) → EqualOn xs new old
kept_equal [] old new touched none kept = tt
kept_equal (x ∷ xs) old new touched none kept =
    let parts = or_parts (touched x) (list_any touched xs) none in
    (kept x parts.0, kept_equal xs old new touched parts.1 kept)

-- a variable that is none of a list is assigned by none of its variables' tests
none_read : (v : ℕ) (xs : List ℕ) → is_in v xs ≡ false → list_any (λ x. nat_eq x v) xs ≡ false
none_read v [] out = refl
none_read v (x ∷ xs) out = let parts = or_parts (nat_eq x v) (is_in v xs) out in rw (parts.0, none_read v xs parts.1) refl

-- a right side that can hold does not read the variable
not_read : (v : ℕ) (rhs : Rhs) → can_hold v rhs ≡ true → is_in v (rhs_vars rhs) ≡ false
not_read v rhs can = not-true (is_in v (rhs_vars rhs)) (and_parts (not (divides rhs)) (not (is_in v (rhs_vars rhs))) can).1

-- ---- assignments on a path

-- each assignment that holds on this path gives its variable the value of its right side
pub record AgreeAfter (graph : GraphShape) (before : List ℕ) (values : Values) : Type 0 where
  pub is : (v : ℕ) (rhs : Rhs) → can_hold v rhs ≡ true
      → Since (occurs_at v rhs graph) (ends_at graph v rhs) before → values v ≡ rhs_value values rhs

module _ (graph : GraphShape) (m : ℕ) (before : List ℕ) (values : Values) where
  -- one step, by what a node does with an assignment that it is, and with one of which it assigns nothing
  agree_by : (node : Node) (new : Values) → slice_get graph.nodes m ≡ Some node
      → ((v : ℕ) (rhs : Rhs) → can_hold v rhs ≡ true → is_occurrence v rhs (Some node) ≡ true → new v ≡ rhs_value new rhs)
      → ((x : ℕ) → assigns graph x node ≡ false → new x ≡ values x)
      → AgreeAfter graph before values → AgreeAfter graph (m ∷ before) new
  agree_by node new here made kept agree = record { is = λ v rhs can since. by v rhs can since }
    where
      by : (v : ℕ) (rhs : Rhs) → can_hold v rhs ≡ true → Since (occurs_at v rhs graph) (ends_at graph v rhs) (m ∷ before) → new v ≡ rhs_value new rhs
      by v rhs can (inl born) = made v rhs can (sym (ap (is_occurrence v rhs) here) ∙ born)
      by v rhs can (inr later) =
          let none : list_any (λ x. assigns graph x node) (v ∷ rhs_vars rhs) ≡ false = sym (ap (assigns_one graph (v ∷ rhs_vars rhs)) here) ∙ later.0 in
          let parts = or_parts (assigns graph v node) (list_any (λ x. assigns graph x node) (rhs_vars rhs)) none in
          kept v parts.0 ∙ agree.is v rhs can later.1
          ∙ sym (rhs_equal new values rhs (kept_equal (rhs_vars rhs) values new (λ x. assigns graph x node) parts.1 kept))

  -- a node that is no assignment, where the values stay
  agree_same : (node : Node) → slice_get graph.nodes m ≡ Some node → ((v : ℕ) (rhs : Rhs) → is_occurrence v rhs (Some node) ≡ false)
      → AgreeAfter graph before values → AgreeAfter graph (m ∷ before) values
  agree_same node here none agree = agree_by node values here (λ v rhs can born. absurd (true≢false (sym born ∙ none v rhs))) (λ x off. refl) agree

  -- an assignment
  agree_assign : (x : ℕ) (t : Rhs) (next : ℕ) → slice_get graph.nodes m ≡ Some (Assign x t next) → AgreeAfter graph before values → AgreeAfter graph (m ∷ before) (with_value x (rhs_value values t) values)
  agree_assign x t next here agree =
      agree_by (Assign x t next) (with_value x (rhs_value values t) values) here made (λ y off. other_value x y (rhs_value values t) values off) agree
    where
      one : (v : ℕ) (rhs : Rhs) (n : ℕ) → Some (Assign x t next) ≡ Some (Assign v rhs n) → (v ≡ x) × (rhs ≡ t)
      one v rhs n e = (cc, cc)

      stays : can_hold x t ≡ true → with_value x (rhs_value values t) values x ≡ rhs_value (with_value x (rhs_value values t) values) t
      stays can =
          new_value x x (rhs_value values t) values (eq-eqb x x refl)
          ∙ sym (rhs_equal (with_value x (rhs_value values t) values) values t (kept_equal (rhs_vars t) values (with_value x (rhs_value values t) values) (λ y. nat_eq y x) (none_read x (rhs_vars t) (not_read x t can)) (λ y off. other_value x y (rhs_value values t) values off)))

      made : (v : ℕ) (rhs : Rhs) → can_hold v rhs ≡ true → is_occurrence v rhs (Some (Assign x t next)) ≡ true → with_value x (rhs_value values t) values v ≡ rhs_value (with_value x (rhs_value values t) values) rhs
      made v rhs can born =
          let is = occurrence_is v rhs (Some (Assign x t next)) born in
          let same = one v rhs is.0 is.1 in
          rw (same.0, same.1) (stays (subst (λ y. can_hold y t ≡ true) same.0 (subst (λ r. can_hold v r ≡ true) same.1 can)))

  -- a call, which assigns the globals and then its result
  call_keeps : (into : Option ℕ) (unit : ℕ) (operands : List Operand) (next : ℕ) (a : Answer) (v : ℕ) → length a.globals ≡ graph.shared → assigns graph v (Call into unit operands next) ≡ false → with_result into a.value (with_first a.globals values) v ≡ values v
  call_keeps None unit operands next a v long off = let past = ltb-false v graph.shared off in with_first_other a.globals values v (omega (arith, past, long))
  call_keeps (Some x) unit operands next a v long off =
      let parts = or_parts (nat_lt v graph.shared) (nat_eq v x) off in
      let past = ltb-false v graph.shared parts.0 in
      other_value x v a.value (with_first a.globals values) parts.1 ∙ with_first_other a.globals values v (omega (arith, past, long))

  agree_call : (into : Option ℕ) (unit : ℕ) (operands : List Operand) (next : ℕ) (a : Answer) → length a.globals ≡ graph.shared → slice_get graph.nodes m ≡ Some (Call into unit operands next) → AgreeAfter graph before values → AgreeAfter graph (m ∷ before) (with_result into a.value (with_first a.globals values))
  agree_call into unit operands next a long here agree =
      agree_by (Call into unit operands next) (with_result into a.value (with_first a.globals values)) here (λ v rhs can born. absurd (true≢false (sym born))) (λ x off. call_keeps into unit operands next a x long off) agree

-- no path but the empty one leads to Start
start_first : (graph : GraphShape) → CanMake graph.vars graph.received graph.nodes → (n s : ℕ) (before : List ℕ) → slice_get graph.nodes n ≡ Some (Start s) → Trace graph.nodes n before → before ≡ []
start_first graph can n s before here from_start = refl
start_first graph can n s before here (goes_on m k earlier trace edge) =
    let low = (can.succs m edge.0 n edge.1).0 in
    let zero_is = can.only n s here in
    absurd (omega (arith, low, zero_is))

-- after Start nothing holds
agree_start : (graph : GraphShape) (n s : ℕ) (values : Values) → slice_get graph.nodes n ≡ Some (Start s) → AgreeAfter graph (n ∷ []) values
agree_start graph n s values here = record { is = λ v rhs can since. by v rhs since }
  where
    by : (v : ℕ) (rhs : Rhs) → Since (occurs_at v rhs graph) (ends_at graph v rhs) (n ∷ []) → values v ≡ rhs_value values rhs
    by v rhs (inl born) = absurd (true≢false (sym born ∙ ap (is_occurrence v rhs) here))
    by v rhs (inr later) = absurd later.1

-- ---- along a run

-- both stand at one place, with the same values, and on the path to it what holds agrees
pub record OnPath (graph : GraphShape) (f g : Frame) : Type 0 where
  pub same : g ≡ f
  pub before : List ℕ
  pub trace : Trace graph.nodes f.place before
  pub agree : AgreeAfter graph before f.values

-- so it does at the place
pub agrees_there : (graph : GraphShape) (f g : Frame) → OnPath graph f g → AgreesThere graph f
agrees_there graph f g on = λ v rhs held. on.agree.is v rhs held.can (held.paths on.before on.trace)

module _ (graph : GraphShape) (can : CanMake graph.vars graph.received graph.nodes) where
  module _ (f : Frame) (before : List ℕ) (trace : Trace graph.nodes f.place before) (agree : AgreeAfter graph before f.values) where
    -- the next frame, one edge further
    on_path : (g : Frame) (node : Node) (slot : ℕ) → slice_get graph.nodes f.place ≡ Some node → slice_get (node_succs node) slot ≡ Some g.place → AgreeAfter graph (f.place ∷ before) g.values → OnPath graph g g
    on_path g node slot here leads agrees = record {
      same = refl;
      before = f.place ∷ before;
      trace = goes_on f.place g.place before trace (slot, ap (λ o. slice_get (succs_of o) slot) here ∙ leads);
      agree = agrees;
    }

    -- where the values stay
    moves_on : (next : ℕ) (node : Node) (slot : ℕ) → slice_get graph.nodes f.place ≡ Some node → slice_get (node_succs node) slot ≡ Some next → ((v : ℕ) (rhs : Rhs) → is_occurrence v rhs (Some node) ≡ false) → OnPath graph (at next f) (at next f)
    moves_on next node slot here leads none = on_path (at next f) node slot here leads (agree_same graph f.place before f.values node here none agree)

    assigned_alike : (x : ℕ) (t : Rhs) (next : ℕ) → slice_get graph.nodes f.place ≡ Some (Assign x t next) → (b : Bool)
        → Alike (OnPath graph) (if b then Traps ZeroDivisor 1 else Continues (rhs_count t) (assigned x (rhs_value f.values t) next f)) (if b then Traps ZeroDivisor 1 else Continues (rhs_count t) (assigned x (rhs_value f.values t) next f))
    assigned_alike x t next here true = refl
    assigned_alike x t next here false = (le_refl (rhs_count t), on_path (assigned x (rhs_value f.values t) next f) (Assign x t next) 0 here refl (agree_assign graph f.place before f.values x t next here agree))

    guard_alike : (number next : ℕ) → OnPath graph (at next f) (at next f) → (b : Bool) → Alike (OnPath graph) (if b then Traps (Raised number) 0 else Continues 0 (at next f)) (if b then Traps (Raised number) 0 else Continues 0 (at next f))
    guard_alike number next on true = refl
    guard_alike number next on false = (le_refl 0, on)

    test_alike : (test : tests.Test) (taken other : ℕ) → slice_get graph.nodes f.place ≡ Some (Test test taken other) → (b : Bool) → OnPath graph (at (if b then taken else other) f) (at (if b then taken else other) f)
    test_alike test taken other here true = moves_on taken (Test test taken other) 0 here refl (λ v rhs. refl)
    test_alike test taken other here false = moves_on other (Test test taken other) 1 here refl (λ v rhs. refl)

    start_alike : (next : ℕ) → slice_get graph.nodes f.place ≡ Some (Start next) → (values : Values) → OnPath graph (record { place = next; arguments = f.arguments; values = values }) (record { place = next; arguments = f.arguments; values = values })
    start_alike next here values =
        let none = start_first graph can f.place next before here trace in
        on_path (record { place = next; arguments = f.arguments; values = values }) (Start next) 0 here refl
        (subst (λ l. AgreeAfter graph (f.place ∷ l) values) (sym none) (agree_start graph f.place next values here))

    resumes_on : (into : Option ℕ) (unit : ℕ) (operands : List Operand) (next : ℕ) (a : Answer) → length a.globals ≡ graph.shared → slice_get graph.nodes f.place ≡ Some (Call into unit operands next) → OnPath graph (resumed into a (at next f)) (resumed into a (at next f))
    resumes_on into unit operands next a long here =
        on_path (resumed into a (at next f)) (Call into unit operands next) 0 here refl (agree_call graph f.place before f.values into unit operands next a long here agree)

    at_node : (node : Node) → slice_get graph.nodes f.place ≡ Some node → Alike (OnPath graph) (node_transition graph.shared graph.received (Some node) f) (node_transition graph.shared graph.received (Some node) f)
    at_node (Start next) here = (le_refl 0, start_alike next here (received_from 0 graph.received f.arguments (with_first (shared_values graph.shared f.values) all_zero)))
    at_node (Skip next) here = (le_refl 0, moves_on next (Skip next) 0 here refl (λ v rhs. refl))
    at_node (Assign x t next) here = subst (λ s. Alike (OnPath graph) s s) (sym (assign_is x t next f)) (assigned_alike x t next here (rhs_traps f.values t))
    at_node (Print a next) here = (refl, moves_on next (Print a next) 0 here refl (λ v rhs. refl))
    at_node (Guard test number next) here = guard_alike number next (moves_on next (Guard test number next) 0 here refl (λ v rhs. refl)) (test_holds f.values test)
    at_node (Call into unit operands next) here = (refl, refl, λ a fits. resumes_on into unit operands next a (fits.globals.long ∙ shared_long graph.shared f.values) here)
    at_node (Test test taken other) here = (le_refl 0, test_alike test taken other here (test_holds f.values test))
    at_node (Return a) here = refl

    at_place : (o : Option Node) → slice_get graph.nodes f.place ≡ o → Alike (OnPath graph) (node_transition graph.shared graph.received o f) (node_transition graph.shared graph.received o f)
    at_place None here = refl
    at_place (Some node) here = at_node node here

  -- ---- at each frame of a run

  -- a step of the graph beside itself
  steps : (f g : Frame) → OnPath graph f g → Alike (OnPath graph) (graph_code graph.shared graph.received graph.nodes f) (graph_code graph.shared graph.received graph.nodes g)
  steps f g on =
      subst (λ h. Alike (OnPath graph) (graph_code graph.shared graph.received graph.nodes f) (graph_code graph.shared graph.received graph.nodes h)) (sym on.same)
      (at_place f on.before on.trace on.agree (slice_get graph.nodes f.place) refl)

  in_lockstep : Lockstep (machine_of graph) (machine_of graph) (OnPath graph)
  in_lockstep = record {
    receives = refl;
    shared = refl;
    hands = graph_hands graph.shared graph.received graph.nodes;
    starts = λ entry is. record { same = refl; before = []; trace = from_start; agree = record { is = λ v rhs can since. absurd since } };
    steps = steps;
  }

  -- what holds agrees there
  pub held_values_agree : (f : Frame) → IsRunFrame (machine_of graph) f → AgreesThere graph f
  held_values_agree f comes =
      let there = run_frame_related (machine_of graph) (machine_of graph) (OnPath graph) in_lockstep f comes in
      agrees_there graph f there.0 there.1
