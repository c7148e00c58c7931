-- Law: rewriting by states of a graph changes nothing: both step alike, and what is known before a node holds there,
-- where what is known outside holds of what the unit is entered with and of what calls answer. For proofs only, of the
-- crates above too.
use Rattle.std.proofs.Common.{◌≡◌, ℕ, ◌+◌, ◌≤◌, ◌<◌, Bool, true, false, if◌then◌else◌, nat_eq, List, [], ◌∷◌, length, slice_get, slice_index_or, ℤ, Option, Some, None, option_map, refl, sym, ap, ◌∙◌, subst, arith, FitsSigned, w64}
use Rattle.std.proofs.lemmas.List.{length-map}
use Rattle.std.proofs.lemmas.List.Elements.{All-append, All-cons, All-nil}
use Rattle.mir_base.specs.declared.instructions.Rhs.{Rhs}
use Rattle.mir_base.specs.declared.instructions.Test as tests
use Rattle.mir_base.specs.declared.operators.Trap.TheVariants.{ZeroDivisor, Raised}
use Rattle.mir_base.specs.Frames.{Values, Answer, CallEntry, first_frame, shared_values, shared_vars, with_first, all_zero, with_value, Frame, resumed, Transition, Continues, Prints, Calls, Returns, Traps}
use Rattle.mir_base.specs.Runs.{AreNumbers}
use Rattle.mir_base.specs.Units.{test_holds, at, assigned, guard_transition, operand_value}
use Rattle.mir_base.specs.Expressions.{rhs_traps, rhs_value, rhs_count}
use Rattle.mir_base.specs.ExpressionLaws.{assign_is}
use Rattle.mir_base.specs.UnitRuns.{IsCallAnswer, UnitSame, UnitCheaper}
use Rattle.mir_base.specs.Locksteps.{Alike, Lockstep}
use Rattle.mir_base.specs.LockstepLaws.{lockstep_same, lockstep_cheaper}
use Rattle.mir_base.specs.FrameLaws.{FrameFits, rhs_fits, first_fits, at_fits, assigned_fits, resumed_fits, shared_values_fit, with_first_fits, operand_fits, operands_fit}
use Rattle.flow_graph.specs.declared.nodes.Node.{Node}
use Rattle.flow_graph.specs.declared.nodes.Node.TheVariants.{Start, Skip, Assign, Print, Guard, Call, Test, Return}
use Rattle.flow_graph.specs.Graphs.{IsEdge, node_succs, succs_of, slot_of}
use Rattle.mir_base.specs.SharedLaws.{shared_long}
use Rattle.flow_graph.specs.MachineLaws.{graph_hands}
use Rattle.flow_graph.specs.ListLaws.{some_at}
use Rattle.flow_graph.specs.Machines.{received_from, node_transition, graph_code, graph_machine}
use Rattle.flow_graph.specs.RedirectLaws.{resumed_place}
use Rattle.flow_graph.specs.BoundLaws.{slot_leads}
use Rattle.cond_flow.specs.Rules.{Rules, AreHeld, LawfulRules, known_at, open_outside}
use Rattle.cond_flow.specs.States.{NodeState, Unreached, Knows, BelowState}
use Rattle.cond_flow.specs.Passing.{after_call, all_set, back_at, first_known, known_after, passed_along, passes, passes_by}
use Rattle.cond_flow.specs.Becoming.{becomes_at, decided_node, guarded_node, node_becomes, nodes_become, test_becomes}
use Rattle.cond_flow.specs.BecomingLaws.{become_get}
use Rattle.cond_flow.specs.Solutions.{AreStates}
use Rattle.flow_graph.specs.RunFrames.{IsRunFrame}
use Rattle.flow_graph.specs.RunFrameLaws.{run_frame_related}
use Rattle.cond_flow.specs.Handing.{AlikeWhere, AnswerHolds, ArgumentsHold, EntryHolds, IsHandedBack, IsHandedOver, Together, answer_values, entry_values, values_in}
use Rattle.cond_flow.specs.Holding.{HoldsAt}
use Rattle.cond_flow.specs.SoundLaws.{first_told, fits_start, held_first, held_handed, held_set, held_shared, held_start, holds_up, last_told, none_holds, operands_same, test_same}

-- there is something or nothing
none_some : {A : Type 0} (x : A) → None ≡ Some x → ⊥
none_some x e = cc

-- a call's arguments are kept behind it
resumed_arguments : (into : Option ℕ) (a : Answer) (f : Frame) → (resumed into a f).arguments ≡ f.arguments
resumed_arguments None a f = refl
resumed_arguments (Some x) a f = refl

module _ {K : Type 0} {below : K → K → Type 0} {holds : K → ℤ → Type 0} {rules : Rules K} (laws : LawfulRules below holds rules) (shared : ℕ) (received : List ℕ) (nodes : List Node) (size : ℕ) (states : ℕ → NodeState K) (are : AreStates below (passed_along rules shared received) (first_known rules shared size) nodes states) where
  abbrev pub after : List Node
  after = nodes_become rules states nodes

  abbrev pub Tied : Frame → Frame → Type 0
  Tied = Together holds rules shared nodes states

  -- steps from a frame are alike
  abbrev pub AlikeAt : Frame → Transition → Transition → Type 0
  AlikeAt f = AlikeWhere (IsHandedOver holds rules shared nodes states f.place) (λ answer. f.place < length nodes → IsHandedBack holds rules shared nodes states f.place answer) (AnswerHolds holds rules) Tied

  -- what is known holds after a move along an edge that passes it
  after_edge : (n slot s : ℕ) (ks : List K) (node : Node) (values : Values) → states n ≡ Knows ks → slice_get nodes n ≡ Some node → slice_get (node_succs node) slot ≡ Some s → passes rules node slot ks ≡ true → AreHeld holds rules (known_after rules shared received node slot ks) values → HoldsAt holds rules (states s) values
  after_edge n slot s ks node values known here leads passing held =
      let edge : IsEdge nodes n slot s = ap (λ o. slice_get (succs_of o) slot) here ∙ leads in
      let above : BelowState below (passed_along rules shared received node slot (states n)) (states s) = are.edges n slot s node here edge in
      let above' : BelowState below (passed_along rules shared received node slot (Knows ks)) (states s) = subst (λ t. BelowState below (passed_along rules shared received node slot t) (states s)) known above in
      let above'' : BelowState below (Knows (known_after rules shared received node slot ks)) (states s) = subst (λ b. BelowState below (if b then Knows (known_after rules shared received node slot ks) else Unreached (length ks)) (states s)) passing above' in
      holds_up laws.order laws.rising laws.sound (Knows (known_after rules shared received node slot ks)) (states s) values above'' held

  -- the edge that a test takes passes its state
  takes : (b taken other : Bool) → (b ≡ true → taken ≡ true) → (b ≡ false → other ≡ true) → passes_by (slot_of b) taken other ≡ true
  takes true taken other p q = p refl
  takes false taken other p q = q refl

  -- the truth value of its slot
  slot_truth : (b : Bool) → nat_eq (slot_of b) 0 ≡ b
  slot_truth true = refl
  slot_truth false = refl

  module _ (f : Frame) (ks : List K) (known : states f.place ≡ Knows ks) (held : AreHeld holds rules ks f.values) (fits : FrameFits f) (told : ArgumentsHold holds rules shared f.arguments) where
    -- how the two steps are alike
    abbrev AlikeHere : Transition → Transition → Type 0
    AlikeHere = AlikeAt f

    leads_to : (node : Node) (slot s : ℕ) → slice_get nodes f.place ≡ Some node → slice_get (node_succs node) slot ≡ Some s → IsEdge nodes f.place slot s
    leads_to node slot s here leads = ap (λ o. slice_get (succs_of o) slot) here ∙ leads

    together : (g : Frame) (slot : ℕ) → g.arguments ≡ f.arguments → IsEdge nodes f.place slot g.place → HoldsAt holds rules (states g.place) g.values → FrameFits g → Tied g g
    together g slot same edge h l = record { same = refl; known = h; fits = l; arguments = subst (ArgumentsHold holds rules shared) (sym same) told; there = λ closed. closed.within f.place slot g.place edge }

    assigned_alike : (v : ℕ) (rhs : Rhs) (next : ℕ) → slice_get nodes f.place ≡ Some (Assign v rhs next) → (t t' : Bool) (w : ℤ) (count : ℕ) → rhs_traps f.values rhs ≡ t → t' ≡ t → w ≡ rhs_value f.values rhs → count ≤ rhs_count rhs
        → AlikeHere (if t then Traps ZeroDivisor 1 else Continues (rhs_count rhs) (assigned v (rhs_value f.values rhs) next f)) (if t' then Traps ZeroDivisor 1 else Continues count (assigned v w next f))
    assigned_alike v rhs next here true true w count is trap value few = (refl, omega arith)
    assigned_alike v rhs next here true false w count is trap value few = absurd (cc)
    assigned_alike v rhs next here false true w count is trap value few = absurd (cc)
    assigned_alike v rhs next here false false w count is trap value few = (
      few,
      record {
        same = ap (λ z. assigned v z next f) value;
        known = after_edge f.place 0 next ks (Assign v rhs next) (with_value v (rhs_value f.values rhs) f.values) known here refl refl
            (held_set laws.order laws.rising laws.sound ks f.values v (rules.of_rhs ks rhs) (rhs_value f.values rhs) held (rhs_fits f.values rhs fits.values) (laws.sound.right_side ks f.values rhs held fits.values is));
        fits = assigned_fits v (rhs_value f.values rhs) next f (rhs_fits f.values rhs fits.values) fits;
        arguments = told;
        there = λ closed. closed.within f.place 0 next (leads_to (Assign v rhs next) 0 next here refl);
      },
    )

    -- the globals that come back
    back_held : (unit : ℕ) (a : Answer) → IsCallAnswer (length (shared_values shared f.values)) a → AnswerHolds holds rules unit a → AreHeld holds rules (all_set (known_at rules (back_at rules unit)) 0 (shared_vars shared) ks) (with_first a.globals f.values)
    back_held unit a one back =
        let long : length a.globals ≡ shared = one.globals.long ∙ shared_long shared f.values in
        held_shared laws.order laws.rising laws.sound (known_at rules (back_at rules unit)) shared a.globals ks f.values long (with_first_fits a.globals f.values one.globals.numbers fits.values)
        (λ x lt. first_told laws.order laws.rising laws.sound (back_at rules unit) a.globals (a.value ∷ []) x (omega (arith, lt, long)) back) held

    -- and the result
    resumed_held : (into : Option ℕ) (unit : ℕ) (a : Answer) (s : ℕ) → IsCallAnswer (length (shared_values shared f.values)) a → AnswerHolds holds rules unit a → AreHeld holds rules (after_call rules shared into unit ks) (resumed into a (at s f)).values
    resumed_held None unit a s one back = back_held unit a one back
    resumed_held (Some v) unit a s one back =
        let long : length a.globals ≡ shared = one.globals.long ∙ shared_long shared f.values in
        let result : holds (known_at rules (back_at rules unit) (shared + 0)) a.value = last_told laws.order laws.rising laws.sound shared (back_at rules unit) a.globals (a.value ∷ []) 0 long back in
        let last : shared + 0 ≡ shared = omega arith in
        held_set laws.order laws.rising laws.sound _ (with_first a.globals f.values) v (known_at rules (back_at rules unit) shared) a.value (back_held unit a one back) one.number
        (subst (λ n. holds (known_at rules (back_at rules unit) n) a.value) last result)

    test_alike : (test : tests.Test) (taken other : ℕ) (b p q : Bool) → test_holds f.values test ≡ b → (b ≡ true → p ≡ true) → (b ≡ false → q ≡ true) → Tied (at (if b then taken else other) f) (at (if b then taken else other) f)
        → AlikeHere (Continues 0 (at (if b then taken else other) f)) (node_transition shared received (Some (decided_node (test_becomes rules ks test) taken other p q)) f)
    test_alike test taken other b p q is may may' both = by b p q is may may' both
      where
        by : (b p q : Bool) → test_holds f.values test ≡ b → (b ≡ true → p ≡ true) → (b ≡ false → q ≡ true) → Tied (at (if b then taken else other) f) (at (if b then taken else other) f)
            → AlikeHere (Continues 0 (at (if b then taken else other) f)) (node_transition shared received (Some (decided_node (test_becomes rules ks test) taken other p q)) f)
        by b true true is may may' both =
            let same : test_holds f.values (test_becomes rules ks test) ≡ b = test_same laws.rewriting ks f.values test held fits.values ∙ is in
            (omega arith, subst (λ c. Tied (at (if b then taken else other) f) (at (if c then taken else other) f)) (sym same) both)
        by true true false is may may' both = (omega arith, both)
        by false true false is may may' both = absurd (let bad : false ≡ true = may' refl in cc)
        by true false q is may may' both = absurd (let bad : false ≡ true = may refl in cc)
        by false false true is may may' both = (omega arith, both)
        by false false false is may may' both = absurd (let bad : false ≡ true = may' refl in cc)

    guard_alike : (test : tests.Test) (number next : ℕ) (p : Bool) → (test_holds f.values test ≡ true → p ≡ true) → Tied (at next f) (at next f)
        → AlikeHere (guard_transition test number next f) (node_transition shared received (Some (guarded_node (test_becomes rules ks test) number next p)) f)
    guard_alike test number next true may both =
        subst (λ b. AlikeHere (guard_transition test number next f) (if b then Traps (Raised number) 0 else Continues 0 (at next f))) (sym (test_same laws.rewriting ks f.values test held fits.values)) (both_ways (test_holds f.values test))
      where
        both_ways : (b : Bool) → AlikeHere (if b then Traps (Raised number) 0 else Continues 0 (at next f)) (if b then Traps (Raised number) 0 else Continues 0 (at next f))
        both_ways true = (refl, omega arith)
        both_ways false = (omega arith, both)
    guard_alike test number next false may both = by (test_holds f.values test) refl
      where
        by : (b : Bool) → test_holds f.values test ≡ b → AlikeHere (if b then Traps (Raised number) 0 else Continues 0 (at next f)) (Continues 0 (at next f))
        by true is = absurd (let bad : false ≡ true = may is in cc)
        by false is = (omega arith, both)

    at_node : (node : Node) → slice_get nodes f.place ≡ Some node → AlikeHere (node_transition shared received (Some node) f) (node_transition shared received (Some (node_becomes rules ks node)) f)
    at_node (Start next) here = (
      omega arith,
      (let globals = shared_values shared f.values in
          let numbers = (shared_values_fit shared f.values fits.values).numbers in
          together (record { place = next; arguments = f.arguments; values = received_from 0 received f.arguments (with_first globals all_zero) }) 0 refl (leads_to (Start next) 0 next here refl)
          (after_edge f.place 0 next ks (Start next) (received_from 0 received f.arguments (with_first globals all_zero)) known here refl refl (held_start laws.order laws.rising laws.sound shared received f.arguments ks f.values fits.arguments told held))
          (record { values = fits_start received globals f.arguments numbers fits.arguments; arguments = fits.arguments })),
    )
    at_node (Skip next) here = (omega arith, together (at next f) 0 refl (leads_to (Skip next) 0 next here refl) (after_edge f.place 0 next ks (Skip next) f.values known here refl refl held) (at_fits next f fits))
    at_node (Assign v rhs next) here =
        let becomes = laws.rewriting.right_side_same ks f.values rhs held fits.values in
        let rhs' = rules.rhs ks rhs in
        let alike = assigned_alike v rhs next here (rhs_traps f.values rhs) (rhs_traps f.values rhs') (rhs_value f.values rhs') (rhs_count rhs') refl becomes.traps becomes.value becomes.count in
        let left = subst (λ t. AlikeHere t (if rhs_traps f.values rhs' then Traps ZeroDivisor 1 else Continues (rhs_count rhs') (assigned v (rhs_value f.values rhs') next f))) (sym (assign_is v rhs next f)) alike in
        subst (AlikeHere (node_transition shared received (Some (Assign v rhs next)) f)) (sym (assign_is v rhs' next f)) left
    at_node (Print a next) here = (sym (laws.rewriting.operand_same ks f.values a held fits.values), together (at next f) 0 refl (leads_to (Print a next) 0 next here refl) (after_edge f.place 0 next ks (Print a next) f.values known here refl refl held) (at_fits next f fits))
    at_node (Guard test number next) here =
        guard_alike test number next (rules.goes test true ks) (λ e. laws.sound.goes test true ks f.values held fits.values e) (together (at next f) 0 refl (leads_to (Guard test number next) 0 next here refl) (after_edge f.place 0 next ks (Guard test number next) f.values known here refl refl held) (at_fits next f fits))
    at_node (Call into unit operands next) here = (
      refl,
      ap (λ vs. record { arguments = vs; globals = shared_values shared f.values }) (sym (operands_same laws.rewriting ks f.values operands held fits.values)),
      record { into = into; operands = operands; next = next; known = ks; here = here; state = known; holds_of = held_handed laws.order laws.rising laws.sound shared operands ks f.values held fits.values; long = length-map operands (operand_value f.values); numbers = operands_fit f.values operands fits.values; globals = shared_values_fit shared f.values fits.values },
      λ a one back. together (resumed into a (at next f)) 0 (resumed_arguments into a (at next f)) (subst (IsEdge nodes f.place 0) (sym (resumed_place into a (at next f))) (leads_to (Call into unit operands next) 0 next here refl))
          (subst (λ p. HoldsAt holds rules (states p) (resumed into a (at next f)).values) (sym (resumed_place into a (at next f)))
          (after_edge f.place 0 next ks (Call into unit operands next) (resumed into a (at next f)).values known here refl refl (resumed_held into unit a next one back)))
          (resumed_fits (length (shared_values shared f.values)) into a (at next f) one (at_fits next f fits)),
    )
    at_node (Test test taken other) here = by (test_holds f.values test) refl
      where
        by : (b : Bool) → test_holds f.values test ≡ b → AlikeHere (Continues 0 (at (if b then taken else other) f)) (node_transition shared received (Some (node_becomes rules ks (Test test taken other))) f)
        by b is =
            let yes : b ≡ true → rules.goes test true ks ≡ true = λ e. laws.sound.goes test true ks f.values held fits.values (is ∙ e) in
            let no : b ≡ false → rules.goes test false ks ≡ true = λ e. laws.sound.goes test false ks f.values held fits.values (is ∙ e) in
            let narrowed : AreHeld holds rules (rules.along test b ks) f.values = laws.sound.along test b ks f.values held fits.values is in
            let narrowed' : AreHeld holds rules (rules.along test (nat_eq (slot_of b) 0) ks) f.values = subst (λ c. AreHeld holds rules (rules.along test c ks) f.values) (sym (slot_truth b)) narrowed in
            test_alike test taken other b (rules.goes test true ks) (rules.goes test false ks) is yes no
            (together (at (if b then taken else other) f) (slot_of b) refl (leads_to (Test test taken other) (slot_of b) (if b then taken else other) here (slot_leads taken other b))
            (after_edge f.place (slot_of b) (if b then taken else other) ks (Test test taken other) f.values known here (slot_leads taken other b) (takes b (rules.goes test true ks) (rules.goes test false ks) yes no) narrowed')
            (at_fits (if b then taken else other) f fits))
    at_node (Return a) here = (
      ap (λ v. record { value = v; globals = shared_values shared f.values }) (sym (laws.rewriting.operand_same ks f.values a held fits.values)),
      λ lt. record { operand = a; known = ks; here = here; state = known; holds_of = held_handed laws.order laws.rising laws.sound shared (a ∷ []) ks f.values held fits.values; is_answer = record { number = operand_fits f.values a fits.values; globals = shared_values_fit shared f.values fits.values } },
    )

    at_place : (o : Option Node) → slice_get nodes f.place ≡ o → AlikeHere (node_transition shared received o f) (node_transition shared received (option_map (node_becomes rules ks) o) f)
    at_place None here = (refl, λ lt. absurd (let there = some_at nodes f.place lt in none_some there.0 (sym here ∙ there.1)))
    at_place (Some node) here = at_node node here

  -- at each state
  stepping : (f : Frame) (s : NodeState K) → states f.place ≡ s → HoldsAt holds rules s f.values → FrameFits f → ArgumentsHold holds rules shared f.arguments → AlikeAt f (node_transition shared received (slice_get nodes f.place) f) (node_transition shared received (option_map (becomes_at rules s) (slice_get nodes f.place)) f)
  stepping f (Unreached n) known held fits told = absurd held
  stepping f (Knows ks) known held fits told = at_place f ks known held fits told (slice_get nodes f.place) refl

  -- equal frames step alike
  pub steps : (f g : Frame) → Tied f g → AlikeAt f (graph_code shared received nodes f) (graph_code shared received after g)
  steps f g r =
      let alike = stepping f (states f.place) refl r.known r.fits r.arguments in
      let there = subst (λ o. AlikeAt f (node_transition shared received (slice_get nodes f.place) f) (node_transition shared received o f)) (sym (become_get rules states nodes f.place)) alike in
      subst (λ h. AlikeAt f (graph_code shared received nodes f) (graph_code shared received after h)) (sym r.same) there

  -- a unit is entered with what is known there
  pub entered : (entry : CallEntry) → length entry.globals ≡ shared → AreNumbers entry.globals → AreNumbers entry.arguments → EntryHolds holds rules entry → Tied (first_frame entry) (first_frame entry)
  entered entry long globals arguments told = record {
    same = refl;
    known = holds_up laws.order laws.rising laws.sound (Knows (first_known rules shared size)) (states 0) (first_frame entry).values are.start
        (held_first laws.order laws.rising laws.sound shared entry.globals size long globals (λ x lt. first_told laws.order laws.rising laws.sound rules.outside.entry entry.globals entry.arguments x (omega (arith, lt, long)) told));
    fits = first_fits entry arguments globals;
    arguments = λ i. last_told laws.order laws.rising laws.sound shared rules.outside.entry entry.globals entry.arguments i long told;
    there = λ closed. closed.some;
  }

  -- ---- where nothing is known outside

  module _ (is_open : rules.outside ≡ open_outside) where
    -- an answer may be anything
    any_answer : (n unit : ℕ) (a : Answer) → IsCallAnswer n a → AnswerHolds holds rules unit a
    any_answer n unit a one =
        subst (λ o. AreHeld holds rules (slice_index_or o.backs unit []) (values_in (answer_values a))) (sym is_open)
        (none_holds laws.order laws.rising laws.sound (answer_values a) (All-append (FitsSigned w64) a.globals (a.value ∷ []) one.globals.numbers (All-cons (FitsSigned w64) a.value [] one.number (All-nil (FitsSigned w64)))))

    -- and so may what a unit is entered with
    any_entry : (entry : CallEntry) → AreNumbers entry.globals → AreNumbers entry.arguments → EntryHolds holds rules entry
    any_entry entry globals arguments =
        subst (λ o. AreHeld holds rules o.entry (values_in (entry_values entry))) (sym is_open)
        (none_holds laws.order laws.rising laws.sound (entry_values entry) (All-append (FitsSigned w64) entry.globals entry.arguments globals arguments))

    -- so the steps are alike
    open_alike : (f : Frame) (t t' : Transition) → AlikeAt f t t' → Alike Tied t t'
    open_alike f (Continues n g) (Continues m h) both = both
    open_alike f (Prints v g) (Prints w h) both = both
    open_alike f (Calls unit entry into g) (Calls unit' entry' into' h) both = (both.0, both.1, λ a one. both.3 a one (any_answer _ unit a one))
    open_alike f (Returns a) (Returns a') both = both.0
    open_alike f (Traps kind n) (Traps kind' m) both = both.0
    open_alike f _ _ both = absurd both

    in_lockstep : Lockstep (graph_machine shared received nodes) (graph_machine shared received after) Tied
    in_lockstep = record {
      receives = refl;
      shared = refl;
      hands = graph_hands shared received nodes;
      starts = λ entry is. entered entry is.globals.long is.globals.numbers is.numbers (any_entry entry is.globals.numbers is.numbers);
      steps = λ f g r. open_alike f _ _ (steps f g r);
    }

    -- what is known before a node holds in each run that comes there
    pub states_hold : (f : Frame) → IsRunFrame (graph_machine shared received nodes) f → HoldsAt holds rules (states f.place) f.values
    states_hold f of_run = (run_frame_related (graph_machine shared received nodes) (graph_machine shared received after) Tied in_lockstep f of_run).1.known

    pub rewritten_same : UnitSame (graph_machine shared received nodes) (graph_machine shared received after)
    rewritten_same = lockstep_same (graph_machine shared received nodes) (graph_machine shared received after) Tied in_lockstep

    pub rewritten_cheaper : UnitCheaper (graph_machine shared received nodes) (graph_machine shared received after)
    rewritten_cheaper = lockstep_cheaper (graph_machine shared received nodes) (graph_machine shared received after) Tied in_lockstep
