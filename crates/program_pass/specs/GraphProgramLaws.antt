-- Laws of programs of graphs: frames of two graphs that agree, what one node does at both, and that calls fit. For
-- proofs only.
use Rattle.std.proofs.Common.{◌≡◌, inl, inr, ℕ, suc, ◌<◌, ◌≤◌, Bool, true, false, cond, if◌then◌else◌, nat_eq, List, [], ◌∷◌, length, map, flat_map, slice_get, ℤ, pos, FitsSigned, w64, Option, Some, None, slice_index_or, refl, sym, ap, ◌∙◌, subst, arith}
use Rattle.std.proofs.lemmas.List.{length-map}
use Rattle.std.proofs.lemmas.Option.{slice_get_past}
use Rattle.std.proofs.lemmas.Bool.{cases_lt}
use Rattle.mir_base.specs.declared.instructions.Operand.{Operand}
use Rattle.mir_base.specs.declared.instructions.Rhs.{Rhs}
use Rattle.mir_base.specs.declared.instructions.Rhs.TheVariants.{Plain, Unary, Binary}
use Rattle.mir_base.specs.declared.instructions.Test.{Test as Condition}
use Rattle.mir_base.specs.declared.operators.Trap.TheVariants.{ZeroDivisor, Raised}
use Rattle.mir_base.specs.BelowLaws.{all_below_right}
use Rattle.mir_base.specs.EqualValues.{equal_below, operand_equal, operands_equal, rhs_equal, test_equal, traps_equal}
use Rattle.mir_base.specs.Expressions.{rhs_count, rhs_traps, rhs_value}
use Rattle.mir_base.specs.ExpressionLaws.{assign_is}
use Rattle.mir_base.specs.FrameLaws.{FrameFits, ValuesFit, argument_fits, assigned_fits, at_fits, operand_fits, operands_fit, rhs_fits, shared_values_fit, with_first_fits, with_value_fits}
use Rattle.mir_base.specs.Frames.{Answer, CallEntry, Frame, Transition, Continues, Prints, Calls, Returns, Traps, Values, all_zero, resumed, shared_values, with_first, with_result, with_value}
use Rattle.mir_base.specs.NumberLaws.{zero_fits}
use Rattle.mir_base.specs.Numbers.{traps, value_of_op}
use Rattle.mir_base.specs.Runs.{AreNumbers}
use Rattle.mir_base.specs.Shapes.{AllBelow, into_vars, operand_vars, rhs_vars, test_vars}
use Rattle.mir_base.specs.SharedLaws.{shared_equal, shared_long, with_first_equal}
use Rattle.mir_base.specs.UnitRuns.{AreGlobals, IsCallAnswer}
use Rattle.mir_base.specs.Units.{assign_transition, assigned, at, guard_transition, operand_value, test_holds}
use Rattle.flow_graph.specs.declared.nodes.Node.{Node}
use Rattle.flow_graph.specs.declared.nodes.Node.TheVariants.{Start, Skip, Assign, Print, Guard, Call, Test, Return}
use Rattle.flow_graph.specs.Graphs.{GraphShape, node_succs, node_vars}
use Rattle.flow_graph.specs.Machines.{graph_code, node_transition, received_from}
use Rattle.mir_sim.specs.LiftLaws.{Callable, CallsFit}
use Rattle.mir_sim.specs.PairedLaws.{FitsAfter}
use Rattle.program_pass.specs.GraphPrograms.{GraphCallsFit, ShareGlobals, graph_numbered, graph_machines, graph_or_empty, shared_in}

-- ---- frames of two graphs that have so many variables and nodes in common

-- The frames stand at the same of these nodes, with equal values of these variables. The arguments count at node 0
-- alone, which receives them
pub record Agree (vars nodes : ℕ) (f g : Frame) : Type 0 where
  pub place : g.place ≡ f.place
  pub within : f.place < nodes
  pub values : (x : ℕ) → x < vars → f.values x ≡ g.values x
  pub arguments : f.place ≡ 0 → g.arguments ≡ f.arguments

-- two transitions that do the same to frames that are related by S
abbrev pub Together : (Frame → Frame → Type 0) → Transition → Transition → Type 0
Together S (Continues n f) (Continues m g) = (m ≡ n) × S f g
Together S (Prints v f) (Prints w g) = (w ≡ v) × S f g
Together S (Calls u entry into f) (Calls u' entry' into' g) = (u' ≡ u) × (entry' ≡ entry)
    × (into' ≡ into) × S f g
Together S (Returns answer) (Returns answer') = answer' ≡ answer
Together S (Traps kind n) (Traps kind' m) = (kind' ≡ kind) × (m ≡ n)
Together S _ _ = ⊥

-- an equal value of one variable keeps equal values of all
pub with_equal : (vars x : ℕ) (a b : ℤ) (v w : Values) → a ≡ b → ((y : ℕ) → y < vars → v y ≡ w y) → (y : ℕ) → y < vars → with_value x a v y ≡ with_value x b w y
with_equal vars x a b v w same equal y lt = elim (nat_eq y x) as (λ c. (if c then a else v y) ≡ (if c then b else w y)) [ true ↦ same | false ↦ equal y lt ]

-- an answer keeps frames in agreement
pub resumed_agree : (vars nodes : ℕ) (into : Option ℕ) (answer : Answer) (f g : Frame) → Agree vars nodes f g
    → Agree vars nodes (resumed into answer f) (resumed into answer g)
resumed_agree vars nodes into answer f g a = record {
  place = a.place;
  within = a.within;
  values = result into;
  arguments = a.arguments;
}
  where
    globals : (x : ℕ) → x < vars → with_first answer.globals f.values x ≡ with_first answer.globals g.values x
    globals x lt = with_first_equal answer.globals f.values g.values x (a.values x lt)

    result : (o : Option ℕ) → (x : ℕ) → x < vars
        → with_result o answer.value (with_first answer.globals f.values) x ≡ with_result o answer.value (with_first answer.globals g.values) x
    result None = globals
    result (Some y) = with_equal vars y answer.value answer.value (with_first answer.globals f.values) (with_first answer.globals g.values) refl globals

module _ (shared vars : ℕ) (least : shared ≤ vars) (received : List ℕ) (nodes : ℕ) where
  -- frames that have gone on to a node which is not the first agree where their values do
  pub onward_agree : (next : ℕ) (f g : Frame) → 1 ≤ next → next < nodes → f.place ≡ next → g.place ≡ next
      → ((x : ℕ) → x < vars → f.values x ≡ g.values x) → Agree vars nodes f g
  onward_agree next f g some lt here here' equal = record {
    place = here' ∙ sym here;
    within = subst (λ p. p < nodes) (sym here) lt;
    values = equal;
    arguments = λ none. absurd (omega (arith, none, here, some));
  }

  -- either transition of an assignment that may trap
  chosen_together : (n : ℕ) (f g : Frame) (b c : Bool) → b ≡ c → Agree vars nodes f g
      → Together (Agree vars nodes) (cond b (Traps ZeroDivisor 1) (Continues n f)) (cond c (Traps ZeroDivisor 1) (Continues n g))
  chosen_together n f g true true e a = (refl, refl)
  chosen_together n f g true false e a = cc
  chosen_together n f g false true e a = cc
  chosen_together n f g false false e a = (refl, a)

  assign_together : (x : ℕ) (rhs : Rhs) (next : ℕ) (f g : Frame) → 1 ≤ next → next < nodes
      → AllBelow vars (rhs_vars rhs) → Agree vars nodes f g
      → Together (Agree vars nodes) (assign_transition x rhs next f) (assign_transition x rhs next g)
  assign_together x rhs next f g some lt below a =
      let equal = equal_below vars (rhs_vars rhs) f.values g.values below a.values in
      let here : Frame = assigned x (rhs_value f.values rhs) next f in
      let there : Frame = assigned x (rhs_value g.values rhs) next g in
      let agree : Agree vars nodes here there = onward_agree next here there some lt refl refl (with_equal vars x (rhs_value f.values rhs) (rhs_value g.values rhs) f.values g.values (rhs_equal f.values g.values rhs equal) a.values) in
      let both = chosen_together (rhs_count rhs) here there (rhs_traps f.values rhs) (rhs_traps g.values rhs) (traps_equal f.values g.values rhs equal) agree in
      subst (λ t. Together (Agree vars nodes) t (assign_transition x rhs next g)) (sym (assign_is x rhs next f))
      (subst (Together (Agree vars nodes) (cond (rhs_traps f.values rhs) (Traps ZeroDivisor 1) (Continues (rhs_count rhs) here))) (sym (assign_is x rhs next g)) both)

  -- one node does the same at frames that agree
  pub node_together : (node : Node) (f g : Frame)
      → ((slot s : ℕ) → slice_get (node_succs node) slot ≡ Some s → (1 ≤ s) × (s < nodes))
      → AllBelow vars (node_vars node) → ((s : ℕ) → node ≡ Start s → f.place ≡ 0) → Agree vars nodes f g
      → Together (Agree vars nodes) (node_transition shared received (Some node) f) (node_transition shared received (Some node) g)
  node_together (Start next) f g succs below first a =
      let to = succs 0 next refl in
      let same : g.arguments ≡ f.arguments = a.arguments (first next refl) in
      let globals = shared_equal vars shared f.values g.values least a.values in
      let here : Frame = record { place = next; arguments = f.arguments; values = received_from 0 received f.arguments (with_first (shared_values shared f.values) all_zero) } in
      let there : Frame = record { place = next; arguments = g.arguments; values = received_from 0 received g.arguments (with_first (shared_values shared g.values) all_zero) } in
      (refl, onward_agree next here there to.0 to.1 refl refl (λ x lt. ap (λ l. received_from 0 received l (with_first (shared_values shared f.values) all_zero) x) (sym same) ∙ ap (λ zs. received_from 0 received g.arguments (with_first zs all_zero) x) globals))
  node_together (Skip next) f g succs below first a = let to = succs 0 next refl in (refl, onward_agree next (at next f) (at next g) to.0 to.1 refl refl a.values)
  node_together (Assign x rhs next) f g succs below first a = let to = succs 0 next refl in assign_together x rhs next f g to.0 to.1 below.1 a
  node_together (Print b next) f g succs below first a =
      let to = succs 0 next refl in
      (sym (operand_equal f.values g.values b (equal_below vars (operand_vars b) f.values g.values below a.values)), onward_agree next (at next f) (at next g) to.0 to.1 refl refl a.values)
  node_together (Guard test number next) f g succs below first a =
      let to = succs 0 next refl in
      let same = test_equal f.values g.values test (equal_below vars (test_vars test) f.values g.values below a.values) in
      go (test_holds f.values test) (test_holds g.values test) same (onward_agree next (at next f) (at next g) to.0 to.1 refl refl a.values)
    where
      go : (b c : Bool) → b ≡ c → Agree vars nodes (at next f) (at next g)
          → Together (Agree vars nodes) (if b then Traps (Raised number) 0 else Continues 0 (at next f)) (if c then Traps (Raised number) 0 else Continues 0 (at next g))
      go true true e on = (refl, refl)
      go false false e on = (refl, on)
      go true false e on = cc
      go false true e on = cc
  node_together (Call into unit operands next) f g succs below first a =
      let to = succs 0 next refl in
      let equal = equal_below vars (flat_map operand_vars operands) f.values g.values (all_below_right vars (into_vars into) (flat_map operand_vars operands) below) a.values in (
        refl,
        ap (λ l. record { arguments = l; globals = shared_values shared g.values }) (sym (operands_equal f.values g.values operands equal)) ∙ ap (λ zs. record { arguments = map (operand_value f.values) operands; globals = zs }) (sym (shared_equal vars shared f.values g.values least a.values)),
        refl,
        onward_agree next (at next f) (at next g) to.0 to.1 refl refl a.values,
      )
  node_together (Test test taken other) f g succs below first a =
      let same = test_equal f.values g.values test (equal_below vars (test_vars test) f.values g.values below a.values) in
      (refl, go (test_holds f.values test) (test_holds g.values test) same)
    where
      go : (b c : Bool) → b ≡ c → Agree vars nodes (at (if b then taken else other) f) (at (if c then taken else other) g)
      go true true e = let to = succs 0 taken refl in onward_agree taken (at taken f) (at taken g) to.0 to.1 refl refl a.values
      go false false e = let to = succs 1 other refl in onward_agree other (at other f) (at other g) to.0 to.1 refl refl a.values
      go true false e = cc
      go false true e = cc
  node_together (Return b) f g succs below first a =
      ap (λ v. record { value = v; globals = shared_values shared g.values }) (sym (operand_equal f.values g.values b (equal_below vars (operand_vars b) f.values g.values below a.values)))
      ∙ ap (λ zs. record { value = operand_value f.values b; globals = zs }) (sym (shared_equal vars shared f.values g.values least a.values))

-- ---- values and calls fit

-- a frame that has received signed 64-bit numbers
received_fits : (received : List ℕ) (i : ℕ) (arguments : List ℤ) (values : Values) → AreNumbers arguments
    → ValuesFit values → ValuesFit (received_from i received arguments values)
received_fits [] i arguments values numbers fits = fits
received_fits (x ∷ received) i arguments values numbers fits =
    received_fits received (suc i) arguments (with_value x (slice_index_or arguments i (pos 0)) values) numbers (with_value_fits x (slice_index_or arguments i (pos 0)) values (argument_fits arguments i numbers) fits)

-- the first graph has the globals of all
pub first_shares : (graphs : List GraphShape) → (graph_numbered graphs 0).shared ≡ shared_in graphs
first_shares [] = refl
first_shares (graph ∷ graphs) = refl

module _ (graphs : List GraphShape) (alike : ShareGlobals graphs) where
  -- how many globals there are
  abbrev shared : ℕ
  shared = shared_in graphs

  abbrev MayCall : ℕ → CallEntry → Type 0
  MayCall = Callable (length graphs) (graph_machines graphs)

  -- what is handed back at a return
  answer_keeps : (v : ℤ) (f : Frame) → FitsSigned w64 v → FrameFits f → IsCallAnswer shared (record { value = v; globals = shared_values shared f.values })
  answer_keeps v f number fits = record { number = number; globals = shared_values_fit shared f.values fits.values }

  assign_keeps : (x : ℕ) (rhs : Rhs) (next : ℕ) (f : Frame) → FrameFits f → FitsAfter shared MayCall (assign_transition x rhs next f)
  assign_keeps x rhs next f fits =
      let there = assigned x (rhs_value f.values rhs) next f in
      let goes_on : FrameFits there = assigned_fits x (rhs_value f.values rhs) next f (rhs_fits f.values rhs fits.values) fits in
      rw (assign_is x rhs next f) (elim (rhs_traps f.values rhs) as (λ t. FitsAfter shared MayCall (cond t (Traps ZeroDivisor 1) (Continues (rhs_count rhs) there))) [ true ↦ tt | false ↦ goes_on ])

  guard_keeps : (test : Condition) (number next : ℕ) (f : Frame) → FrameFits f → FitsAfter shared MayCall (guard_transition test number next f)
  guard_keeps test number next f fits =
      elim (test_holds f.values test) as (λ t. FitsAfter shared MayCall (cond t (Traps (Raised number) 0) (Continues 0 (at next f)))) [ true ↦ tt | false ↦ at_fits next f fits ]

  node_keeps : (received : List ℕ) (node : Option Node) (f : Frame)
      → ((into : Option ℕ) (unit : ℕ) (operands : List Operand) (next : ℕ) → node ≡ Some (Call into unit operands next) → (unit < length graphs) × (length operands ≡ length (graph_numbered graphs unit).received))
      → FrameFits f
      → FitsAfter shared MayCall (node_transition shared received node f)
  node_keeps received None f calls fits = answer_keeps (pos 0) f zero_fits fits
  node_keeps received (Some (Start next)) f calls fits = record {
    values = received_fits received 0 f.arguments (with_first (shared_values shared f.values) all_zero) fits.arguments (with_first_fits (shared_values shared f.values) all_zero (shared_values_fit shared f.values fits.values).numbers (record { fit = λ x. zero_fits }));
    arguments = fits.arguments;
  }
  node_keeps received (Some (Skip next)) f calls fits = at_fits next f fits
  node_keeps received (Some (Assign x rhs next)) f calls fits = assign_keeps x rhs next f fits
  node_keeps received (Some (Print a next)) f calls fits = at_fits next f fits
  node_keeps received (Some (Guard test number next)) f calls fits = guard_keeps test number next f fits
  node_keeps received (Some (Call into unit operands next)) f calls fits =
      let c = calls into unit operands next refl in
      let same : shared ≡ (graph_numbered graphs unit).shared = sym (alike unit c.0) in (
        record {
          there = c.0;
          shared_is = alike unit c.0 ∙ sym (first_shares graphs);
          entry_is = record {
            long = length-map operands (operand_value f.values) ∙ c.1;
            numbers = operands_fit f.values operands fits.values;
            globals = subst (λ n. AreGlobals n (shared_values shared f.values)) same (shared_values_fit shared f.values fits.values);
          };
        },
        at_fits next f fits,
      )
  node_keeps received (Some (Test test taken other)) f calls fits = at_fits _ f fits
  node_keeps received (Some (Return a)) f calls fits = answer_keeps (operand_value f.values a) f (operand_fits f.values a fits.values) fits

  -- where the calls of each graph fit, the values of frames and the calls stay so
  pub graph_calls_fit : ((u : ℕ) → u < length graphs → GraphCallsFit graphs (graph_numbered graphs u)) → CallsFit (length graphs) (graph_machines graphs)
  graph_calls_fit calls u f fits = subst (λ n. FitsAfter n MayCall (graph_code (graph_numbered graphs u).shared (graph_numbered graphs u).received (graph_numbered graphs u).nodes f)) (sym (first_shares graphs)) (elim (cases_lt u (length graphs)) [
    | inl lt ↦
        subst (λ n. FitsAfter shared MayCall (graph_code n (graph_numbered graphs u).received (graph_numbered graphs u).nodes f)) (sym (alike u lt))
        (node_keeps (graph_numbered graphs u).received (slice_get (graph_numbered graphs u).nodes f.place) f (λ into unit operands next here. calls u lt unit (length operands) (record { number = f.place; node = Call into unit operands next; here = here; calls = refl })) fits)
    | inr ge ↦ past (slice_get_past graphs u ge)
  ])
    where
      past : slice_get graphs u ≡ None
          → FitsAfter shared MayCall (graph_code (graph_numbered graphs u).shared (graph_numbered graphs u).received (graph_numbered graphs u).nodes f)
      past none = subst (λ o. FitsAfter shared MayCall (graph_code (graph_or_empty shared o).shared (graph_or_empty shared o).received (graph_or_empty shared o).nodes f)) (sym none) (answer_keeps (pos 0) f zero_fits fits)

-- ---- calls of one node

-- an assignment calls nothing
no_call : (x : ℕ) (rhs : Rhs) (to : ℕ) (f : Frame) (called : ℕ) (entry : CallEntry) (into : Option ℕ) (next : Frame)
    → assign_transition x rhs to f ≡ Calls called entry into next → ⊥
no_call x (Plain a) to f called entry into next e = cc
no_call x (Unary op a) to f called entry into next e = cc
no_call x (Binary op a b) to f called entry into next e = go (traps op (operand_value f.values b)) e
  where
    go : (t : Bool)
        → (if t then Traps ZeroDivisor 1 else Continues 1 (assigned x (value_of_op op (operand_value f.values a) (operand_value f.values b)) to f)) ≡ Calls called entry into next
        → ⊥
    go true e' = cc
    go false e' = cc

-- a node that calls, calls a unit that there is
pub called_exists : (graphs : List GraphShape) (graph : GraphShape) → GraphCallsFit graphs graph
    → (shared : ℕ) (received : List ℕ) (node : Node) (n : ℕ) (f : Frame) → slice_get graph.nodes n ≡ Some node
    → (called : ℕ) (entry : CallEntry) (into : Option ℕ) (next : Frame)
    → node_transition shared received (Some node) f ≡ Calls called entry into next → called < length graphs
called_exists graphs graph fit shared received (Start to) n f here called entry into next e = cc
called_exists graphs graph fit shared received (Skip to) n f here called entry into next e = cc
called_exists graphs graph fit shared received (Assign x rhs to) n f here called entry into next e = absurd (no_call x rhs to f called entry into next e)
called_exists graphs graph fit shared received (Print a to) n f here called entry into next e = cc
called_exists graphs graph fit shared received (Guard test number to) n f here called entry into next e = absurd (go (test_holds f.values test) e)
  where
    go : (b : Bool) → (if b then Traps (Raised number) 0 else Continues 0 (at to f)) ≡ Calls called entry into next → ⊥
    go true e' = cc
    go false e' = cc
called_exists graphs graph fit shared received (Call into' unit operands to) n f here called entry into next e =
    let same : unit ≡ called = cc in
    (fit called (length operands) (record { number = n; node = Call into' unit operands to; here = here; calls = ap (λ v. Some (v, length operands)) same })).0
called_exists graphs graph fit shared received (Test test taken other) n f here called entry into next e = cc
called_exists graphs graph fit shared received (Return a) n f here called entry into next e = cc

-- ---- answers of one node

-- an assignment hands nothing back
no_answer : (x : ℕ) (rhs : Rhs) (to : ℕ) (f : Frame) (answer : Answer) → assign_transition x rhs to f ≡ Returns answer → ⊥
no_answer x (Plain a) to f answer e = cc
no_answer x (Unary op a) to f answer e = cc
no_answer x (Binary op a b) to f answer e = go (traps op (operand_value f.values b)) e
  where
    go : (t : Bool)
        → (if t then Traps ZeroDivisor 1 else Continues 1 (assigned x (value_of_op op (operand_value f.values a) (operand_value f.values b)) to f)) ≡ Returns answer
        → ⊥
    go true e' = cc
    go false e' = cc

-- a node that returns hands the globals back
pub answers_long : (shared : ℕ) (received : List ℕ) (node : Node) (f : Frame) (answer : Answer)
    → node_transition shared received (Some node) f ≡ Returns answer → length answer.globals ≡ shared
answers_long shared received (Start to) f answer e = cc
answers_long shared received (Skip to) f answer e = cc
answers_long shared received (Assign x rhs to) f answer e = absurd (no_answer x rhs to f answer e)
answers_long shared received (Print a to) f answer e = cc
answers_long shared received (Guard test number to) f answer e = absurd (go (test_holds f.values test) e)
  where
    go : (b : Bool) → (if b then Traps (Raised number) 0 else Continues 0 (at to f)) ≡ Returns answer → ⊥
    go true e' = cc
    go false e' = cc
answers_long shared received (Call into unit operands to) f answer e = cc
answers_long shared received (Test test taken other) f answer e = cc
answers_long shared received (Return a) f answer e =
    let same : record { value = operand_value f.values a; globals = shared_values shared f.values } ≡ answer = cc in
    ap (λ (r : Answer). length r.globals) (sym same) ∙ shared_long shared f.values
