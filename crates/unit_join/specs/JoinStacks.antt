-- Leaves joined into their callers keep a program of graphs: each stack of the source is the result's with at most one
-- frame more, of a leaf, on top. For proofs only.
use Rattle.std.proofs.Common.{◌≡◌, ◌⊎◌, inl, inr, ℕ, suc, ◌+◌, ◌-◌, ◌<◌, ◌≤◌, Bool, true, false, if◌then◌else◌, List, [], ◌∷◌, length, map, flat_map, slice_get, get_or, ℤ, Option, Some, None, refl, sym, ap, ◌∙◌, subst, arith, le_refl}
use Rattle.std.specs.Prelude.{max}
use Rattle.std.proofs.lemmas.Bool.{cases_lt}
use Rattle.std.proofs.lemmas.Option.{slice_get-get_or, slice_get_within}
use Rattle.mir_base.specs.declared.instructions.Operand.{Operand}
use Rattle.mir_base.specs.declared.instructions.Rhs.{Rhs}
use Rattle.mir_base.specs.declared.instructions.Rhs.TheVariants.{Plain, Unary, Binary}
use Rattle.mir_base.specs.declared.instructions.Test.{Test as Condition}
use Rattle.mir_base.specs.declared.operators.Trap.{Trap}
use Rattle.mir_base.specs.declared.operators.Trap.TheVariants.{ZeroDivisor, Raised}
use Rattle.mir_base.specs.BelowLaws.{all_below_right}
use Rattle.mir_base.specs.EqualValues.{with_other}
use Rattle.mir_base.specs.ExpressionLaws.{assign_is}
use Rattle.mir_base.specs.Expressions.{rhs_count, rhs_traps, rhs_value}
use Rattle.mir_base.specs.Frames.{Answer, CallEntry, Code, Frame, first_frame, Continues, Prints, Calls, Returns, Traps, all_zero, resumed, shared_values, with_first}
use Rattle.mir_base.specs.Runs.{Caller, Control, Running, Stopped, returned}
use Rattle.mir_base.specs.Shapes.{into_vars, operand_vars}
use Rattle.mir_base.specs.SharedLaws.{shared_long, with_first_other}
use Rattle.mir_base.specs.Units.{assigned, at, operand_value, test_holds}
use Rattle.flow_graph.specs.declared.nodes.Node.{Node}
use Rattle.flow_graph.specs.declared.nodes.Node.TheVariants.{Start, Skip, Assign, Print, Guard, Call, Test, Return}
use Rattle.flow_graph.specs.Graphs.{CanMake, GraphShape, SharesVars, succs_of}
use Rattle.graph_edit.specs.InsertionRuns.{values_after}
use Rattle.flow_graph.specs.ListLaws.{some_at}
use Rattle.flow_graph.specs.MachineLaws.{first_shared}
use Rattle.flow_graph.specs.Machines.{graph_code, node_transition, received_from}
use Rattle.flow_graph.specs.Numbering.{IsIn, renamed_operand, renamed_rhs}
use Rattle.flow_graph.specs.RedirectLaws.{resumed_place}
use Rattle.flow_graph.specs.Plans.{start_succ}
use Rattle.mir_sim.specs.Machines.{MachinesKeep, codes_in}
use Rattle.mir_sim.specs.StackLaws.{leads_nowhere, leads_silently, leads_step, leads_trans, stacks_keep}
use Rattle.mir_sim.specs.StackSimulations.{Abreast, MeetsAgain, Stack, StackRelation, StepsLead}
use Rattle.program_pass.specs.ChainLaws.{StandsAt, gone_on, stands_silently}
use Rattle.program_pass.specs.GraphPrograms.{IsGraphProgram, graph_numbered, graph_machines, graph_or_empty, shared_in}
use Rattle.program_pass.specs.GraphProgramLaws.{Agree, answers_long, called_exists, node_together, onward_agree, resumed_agree, with_equal}
use Rattle.program_pass.specs.EntryLaws.{with_shared}
use Rattle.unit_join.specs.JoinedNodes.{LeafStands, copy, copy_above, copy_one, copy_same, joined_kept, joined_stands, ordered_apart}
use Rattle.unit_join.specs.JoinValues.{CopiesHold, entry_copies, entry_keeps, entry_plain, operand_copied, own_list, rhs_copied, set_copied, test_copied, traps_copied}
use Rattle.unit_join.specs.Joins.{AreLeaves, IsLeafCall, JoinsLeaves, entry_assignments, leaf_node, leaf_place, returned_node}
use Rattle.program_pass.specs.StepLaws.{OneStepEach, steps_meet}
use Rattle.flow_graph.specs.MemberLaws.{in_or_not}

module _ (graphs joined : List GraphShape) (leaves : List (Option GraphShape)) (program : IsGraphProgram graphs) (are_leaves : AreLeaves graphs leaves) (joins : (u : ℕ) → u < length graphs → JoinsLeaves leaves (graph_numbered graphs u) (graph_numbered joined u)) where
  abbrev codes : ℕ → Code
  codes = codes_in (graph_machines graphs)

  abbrev codes' : ℕ → Code
  codes' = codes_in (graph_machines joined)

  abbrev Exists : ℕ → Type 0
  Exists u = u < length graphs

  -- how many globals there are
  abbrev shared : ℕ
  shared = shared_in graphs

  -- they are variables of each graph
  least : (u : ℕ) → Exists u → (graph_numbered graphs u).shared ≤ length (graph_numbered graphs u).vars
  least u lt = (program.shares u lt).count

  -- frames of the unit of this number agree
  abbrev AgreeIn : ℕ → Frame → Frame → Type 0
  AgreeIn u f g = Agree (length (graph_numbered graphs u).vars) (length (graph_numbered graphs u).nodes) f g

  -- ---- stacks

  -- a caller that stands in both stacks
  record SameCaller (p q : Caller) : Type 0 where
    there : Exists p.unit
    unit : q.unit ≡ p.unit
    into : q.into ≡ p.into
    frames : AgreeIn p.unit p.frame q.frame

  -- the callers are the same
  abbrev SameCallers : List Caller → List Caller → Type 0
  SameCallers [] [] = Unit {0}
  SameCallers (p ∷ ps) (q ∷ qs) = SameCaller p q × SameCallers ps qs
  SameCallers _ _ = ⊥

  -- both stacks are equally high, and their frames agree
  record Outside (from from' : Stack) : Type 0 where
    there : Exists from.unit
    unit : from'.unit ≡ from.unit
    frames : AgreeIn from.unit from.frame from'.frame
    callers : SameCallers from.callers from'.callers

  -- a leaf of this unit that stands in the second graph
  abbrev LeafOf : (u : ℕ) → Exists u → ℕ → Type 0
  LeafOf u lt n = LeafStands leaves (joins u lt).units (graph_numbered graphs u) (graph_numbered joined u).nodes n

  -- The first side has a frame of a leaf on top, whose caller p is the running frame of the second side: its variables
  -- that are no globals have the values of p, and the copies those of the leaf
  record Inside (f : Frame) (leaf_unit : ℕ) (p : Caller) (ps : List Caller) (from' : Stack) : Type 0 where
    there : Exists p.unit
    unit : from'.unit ≡ p.unit
    n : ℕ
    leaf : LeafOf p.unit there n
    is_unit : leaf_unit ≡ leaf.call.unit
    into : p.into ≡ leaf.call.into
    next : p.frame.place ≡ leaf.call.next
    later : 1 ≤ f.place
    within : f.place < length leaf.call.leaf.nodes
    place : from'.frame.place ≡ leaf_place leaf.first f.place
    outer : (x : ℕ) → (graph_numbered graphs p.unit).shared ≤ x → x < length (graph_numbered graphs p.unit).vars → p.frame.values x ≡ from'.frame.values x
    inner : CopiesHold (copy leaves (joins p.unit there).units (graph_numbered graphs p.unit) leaf.call.unit) (length leaf.call.leaf.vars) f.values from'.frame.values
    callers : SameCallers ps from'.callers

  abbrev InsideOf : Frame → ℕ → List Caller → Stack → Type 0
  InsideOf f leaf_unit [] from' = ⊥
  InsideOf f leaf_unit (p ∷ ps) from' = Inside f leaf_unit p ps from'

  abbrev Related : StackRelation
  Related z from from' = Outside from from' ⊎ InsideOf from.frame from.unit from.callers from'

  -- equally high
  same_height : (ps qs : List Caller) → SameCallers ps qs → length qs ≡ length ps
  same_height [] [] same = refl
  same_height [] (q ∷ qs) same = absurd same
  same_height (p ∷ ps) [] same = absurd same
  same_height (p ∷ ps) (q ∷ qs) same = ap suc (same_height ps qs same.1)

  -- frames that a call enters agree
  entered_agree : (u : ℕ) (entry : CallEntry) → Exists u → AgreeIn u (first_frame entry) (first_frame entry)
  entered_agree u entry lt =
      let start = (program.are u lt).start in
      record { place = refl; within = slice_get_within (graph_numbered graphs u).nodes 0 (Start start.0) start.1; values = λ x lt'. refl; arguments = λ none. refl }

  -- an answer goes to the same caller
  answered : (answer : Answer) (ps qs : List Caller) → SameCallers ps qs → Abreast Related 0 (returned answer ps) (returned answer qs)
  answered answer [] [] same = refl
  answered answer [] (q ∷ qs) same = absurd same
  answered answer (p ∷ ps) [] same = absurd same
  answered answer (p ∷ ps) (q ∷ qs) same =
      inl (record {
        there = same.0.there;
        unit = same.0.unit;
        frames = subst (λ i. AgreeIn p.unit (resumed p.into answer p.frame) (resumed i answer q.frame)) (sym same.0.into)
            (resumed_agree (length (graph_numbered graphs p.unit).vars) (length (graph_numbered graphs p.unit).nodes) p.into answer p.frame q.frame same.0.frames);
        callers = same.1;
      })

  can_step : OneStepEach codes shared Related Exists AgreeIn SameCallers
  can_step = record {
    no_higher = λ ps qs same. let high = same_height ps qs same in omega (arith, high);
    related = λ u f g ps qs lt agree same. inl (record { there = lt; unit = refl; frames = agree; callers = same });
    called = λ u called entry into f g ps qs lt lt' agree same. inl (record { there = lt'; unit = refl; frames = entered_agree called entry lt'; callers = (record { there = lt; unit = refl; into = refl; frames = agree }, same) });
    answered = λ answer ps qs long same. (0, returned answer ps, leads_nowhere codes (returned answer ps), answered answer ps qs same);
  }

  -- ---- leaves

  -- the graph of a leaf
  leaf_is : (u n : ℕ) (call : IsLeafCall leaves (graph_numbered graphs u).nodes n) → graph_numbered graphs call.unit ≡ call.leaf
  leaf_is u n call = ap (graph_or_empty shared) (are_leaves.is call.unit call.leaf call.leaf_is)

  leaf_exists : (u n : ℕ) (call : IsLeafCall leaves (graph_numbered graphs u).nodes n) → Exists call.unit
  leaf_exists u n call = slice_get_within graphs call.unit call.leaf (are_leaves.is call.unit call.leaf call.leaf_is)

  leaf_can : (u n : ℕ) (call : IsLeafCall leaves (graph_numbered graphs u).nodes n) → CanMake call.leaf.vars call.leaf.received call.leaf.nodes
  leaf_can u n call = subst (λ (g : GraphShape). CanMake g.vars g.received g.nodes) (leaf_is u n call) (program.are call.unit (leaf_exists u n call))

  leaf_shares : (u n : ℕ) (call : IsLeafCall leaves (graph_numbered graphs u).nodes n) → SharesVars call.leaf.shared call.leaf.vars call.leaf.received
  leaf_shares u n call = subst (λ (g : GraphShape). SharesVars g.shared g.vars g.received) (leaf_is u n call) (program.shares call.unit (leaf_exists u n call))

  -- it has the globals of its caller
  leaf_alike : (u n : ℕ) → Exists u → (call : IsLeafCall leaves (graph_numbered graphs u).nodes n) → call.leaf.shared ≡ (graph_numbered graphs u).shared
  leaf_alike u n lt call = sym (ap (λ (g : GraphShape). g.shared) (leaf_is u n call)) ∙ program.globals call.unit (leaf_exists u n call) ∙ sym (program.globals u lt)

  leaf_code : (u n : ℕ) (call : IsLeafCall leaves (graph_numbered graphs u).nodes n) (f : Frame)
      → codes call.unit f ≡ graph_code call.leaf.shared call.leaf.received call.leaf.nodes f
  leaf_code u n call f = ap (λ (g : GraphShape). graph_code g.shared g.received g.nodes f) (leaf_is u n call)

  -- where a call of a leaf leads
  call_next : (u n : ℕ) → Exists u → (call : IsLeafCall leaves (graph_numbered graphs u).nodes n)
      → (1 ≤ call.next) × (call.next < length (graph_numbered graphs u).nodes)
  call_next u n lt call = (program.are u lt).succs n 0 call.next (ap (λ o. slice_get (succs_of o) 0) call.is)

  -- the call and the receives of the leaf's frame stand for the assignments
  leaf_meets : (z u : ℕ) (f g : Frame) (ps qs : List Caller) → (lt : Exists u) → SameCallers ps qs → AgreeIn u f g → LeafOf u lt f.place
      → MeetsAgain Related codes codes' z (record { unit = u; frame = f; callers = ps }) (record { unit = u; frame = g; callers = qs })
  leaf_meets z u f g ps qs lt same agree stands =
      let graph = graph_numbered graphs u in
      let joined_u = graph_numbered joined u in
      let call = stands.call in
      let leaf = call.leaf in
      let can = leaf_can u f.place call in
      let start = can.start in
      let after = can.succs 0 0 start.0 (ap (λ o. slice_get (succs_of o) 0) start.1) in
      let arguments : List ℤ = map (operand_value f.values) call.operands in
      let alike : leaf.shared ≡ graph.shared = leaf_alike u f.place lt call in
      let entry : CallEntry = record { arguments = arguments; globals = shared_values graph.shared f.values } in
      let waiting : Caller = record { unit = u; into = call.into; frame = at call.next f } in
      let received_frame : Frame = record { place = start.0; arguments = arguments; values = received_from 0 leaf.received arguments (with_first (shared_values leaf.shared f.values) all_zero) } in
      let is : codes u f ≡ Calls call.unit entry call.into (at call.next f) = ap (λ o. node_transition graph.shared graph.received o f) call.is in
      let globals : shared_values leaf.shared (with_first entry.globals all_zero) ≡ shared_values leaf.shared f.values =
      first_shared leaf.shared entry.globals all_zero (shared_long graph.shared f.values ∙ sym alike) ∙ ap (λ n. shared_values n f.values) (sym alike) in
      let is0 : codes call.unit (first_frame entry) ≡ Continues 0 received_frame = leaf_code u f.place call (first_frame entry) ∙ ap (λ o. node_transition leaf.shared leaf.received o (first_frame entry)) start.1
      ∙ ap (λ zs. Continues 0 (record { place = start.0; arguments = arguments; values = received_from 0 leaf.received arguments (with_first zs all_zero) })) globals in
      let two = leads_trans codes 1 1 (Running u f ps) (Running call.unit (first_frame entry) (waiting ∷ ps)) (Running call.unit received_frame (waiting ∷ ps)) [] [] 0 0 (suc (suc (length ps))) 0
      (leads_step codes u f ps (Calls call.unit entry call.into (at call.next f)) is) (leads_step codes call.unit (first_frame entry) (waiting ∷ ps) (Continues 0 received_frame) is0) in
      let to = copy leaves (joins u lt).units graph call.unit in
      let puts = entry_assignments to leaf call.operands in
      let begins : start_succ (slice_get leaf.nodes 0) ≡ start.0 = ap start_succ start.1 in
      let end = leaf_place stands.first start.0 in
      let chain_there = subst (λ s. StandsAt joined_u.nodes f.place stands.fresh puts (leaf_place stands.first s)) begins stands.stands in
      let run = stands_silently joined_u.shared joined_u.received joined_u.nodes f.place stands.fresh puts end chain_there (entry_plain to leaf.shared leaf.received (length leaf.vars - leaf.shared) call.operands) g agree.place in
      let there' : Frame = gone_on end (values_after puts g.values) g in
      let below = all_below_right (length graph.vars) (into_vars call.into) (flat_map operand_vars call.operands) ((program.are u lt).below f.place (Call call.into call.unit call.operands call.next) call.is) in
      let fits = program.calls u lt call.unit (length call.operands) (record { number = f.place; node = Call call.into call.unit call.operands call.next; here = call.is; calls = refl }) in
      let long : length call.operands ≡ length leaf.received = fits.1 ∙ ap (λ (g : GraphShape). length g.received) (leaf_is u f.place call) in
      let shares = leaf_shares u f.place call in
      let own = own_list leaf.shared leaf.received shares.own in
      let enough = least u lt in
      let one = copy_one leaves (joins u lt).units graph enough call.unit in
      let above : (x : ℕ) → leaf.shared ≤ x → length graph.vars ≤ to x = λ x le. copy_above leaves (joins u lt).units graph call.unit x (subst (λ n. n ≤ x) alike le) in
      let global : (x : ℕ) → x < leaf.shared → to x ≡ x = λ x low. copy_same leaves (joins u lt).units graph call.unit x (subst (λ n. x < n) alike low) in
      let count : leaf.shared + (length leaf.vars - leaf.shared) ≡ length leaf.vars = let within = shares.count in omega (arith, within) in
      let copied = entry_copies to leaf.shared (length graph.vars) one above global leaf.received (length leaf.vars - leaf.shared) call.operands f.values g.values (subst (λ n. n ≤ length graph.vars) (sym alike) enough) own below agree.values long in
      record {
        steps = 1 + 1;
        steps' = run.0;
        to = Running call.unit received_frame (waiting ∷ ps);
        to' = Running u there' qs;
        prints = [];
        counted = 0;
        counted' = 0;
        frames = max (suc (suc (length ps))) 0;
        frames' = 0;
        leads = two;
        leads' = leads_silently codes' u run.0 g there' 0 qs run.2;
        cheaper = le_refl 0;
        shallower = omega arith;
        measure = 0;
        abreast = inr (record {
          there = lt;
          unit = refl;
          n = f.place;
          leaf = stands;
          is_unit = refl;
          into = refl;
          next = refl;
          later = after.0;
          within = after.1;
          place = refl;
          outer = λ x le lt'. agree.values x lt' ∙ sym (entry_keeps to leaf.shared (length graph.vars) one above global leaf.received (length leaf.vars - leaf.shared) call.operands g.values x own lt');
          inner = subst (λ n. CopiesHold to n received_frame.values there'.values) count copied;
          callers = same;
        });
        moves = inl (omega arith);
        moves' = inl run.1;
      }

  -- ---- a node that stays

  node_meets : (z u : ℕ) (f g : Frame) (ps qs : List Caller) (o : Option Node) → (lt : Exists u) → SameCallers ps qs
      → AgreeIn u f g → slice_get (graph_numbered graphs u).nodes f.place ≡ o → (IsIn f.place (joins u lt).calls → ⊥)
      → MeetsAgain Related codes codes' z (record { unit = u; frame = f; callers = ps }) (record { unit = u; frame = g; callers = qs })
  node_meets z u f g ps qs None lt same agree here out = absurd (past (slice_get-get_or (graph_numbered graphs u).nodes f.place (Start 0) agree.within))
    where
      past : slice_get (graph_numbered graphs u).nodes f.place ≡ Some (get_or (graph_numbered graphs u).nodes f.place (Start 0)) → ⊥
      past e = let both : None ≡ Some (get_or (graph_numbered graphs u).nodes f.place (Start 0)) = sym here ∙ e in cc
  node_meets z u f g ps qs (Some node) lt same agree here out =
      let graph = graph_numbered graphs u in
      let joined_u = graph_numbered joined u in
      let can = program.are u lt in
      let kept : slice_get joined_u.nodes g.place ≡ Some node = ap (slice_get joined_u.nodes) agree.place ∙ joined_kept leaves (joins u lt).units graph (joins u lt).calls graph.nodes joined_u.nodes (joins u lt).are_joined f.place agree.within out ∙ here in
      let is : codes u f ≡ node_transition graph.shared graph.received (Some node) f = ap (λ o. node_transition graph.shared graph.received o f) here in
      let is' : codes' u g ≡ node_transition graph.shared graph.received (Some node) g = ap (λ o. node_transition joined_u.shared joined_u.received o g) kept
      ∙ ap (λ n. node_transition n joined_u.received (Some node) g) (joins u lt).shared ∙ ap (λ r. node_transition graph.shared r (Some node) g) (joins u lt).received in
      steps_meet codes codes' shared Related Exists AgreeIn SameCallers can_step z u f g ps qs (node_transition graph.shared graph.received (Some node) f) (node_transition graph.shared graph.received (Some node) g) lt same is is'
      (node_together graph.shared (length graph.vars) (least u lt) graph.received (length graph.nodes) node f g
      (λ slot s edge. can.succs f.place slot s (ap (λ o. slice_get (succs_of o) slot) here ∙ edge))
      (can.below f.place node here)
      (λ s start. can.only f.place s (here ∙ ap Some start))
      agree)
      (called_exists graphs graph (program.calls u lt) graph.shared graph.received node f.place f here)
      (λ answer returns. answers_long graph.shared graph.received node f answer returns ∙ program.globals u lt)

  -- ---- both sides go on from within a leaf

  -- one step of each that shows the same
  one_each : (z u u' : ℕ) (f g : Frame) (ps qs : List Caller) (to to' : Control) (prints : List ℤ) (n : ℕ)
      → StepsLead codes 1 (Running u f ps) to prints n 0 → StepsLead codes' 1 (Running u' g qs) to' prints n 0
      → Abreast Related 0 to to'
      → MeetsAgain Related codes codes' z (record { unit = u; frame = f; callers = ps }) (record { unit = u'; frame = g; callers = qs })
  one_each z u u' f g ps qs to to' prints n leads leads' abreast = record {
    steps = 1;
    steps' = 1;
    to = to;
    to' = to';
    prints = prints;
    counted = n;
    counted' = n;
    frames = 0;
    frames' = 0;
    leads = leads;
    leads' = leads';
    cheaper = le_refl n;
    shallower = le_refl 0;
    measure = 0;
    abreast = abreast;
    moves = inl (omega arith);
    moves' = inl (omega arith);
  }

  -- a silent step of each
  both_go_on : (z u u' : ℕ) (f g : Frame) (ps qs : List Caller) (n : ℕ) (next next' : Frame)
      → codes u f ≡ Continues n next → codes' u' g ≡ Continues n next'
      → Related 0 (record { unit = u; frame = next; callers = ps }) (record { unit = u'; frame = next'; callers = qs })
      → MeetsAgain Related codes codes' z (record { unit = u; frame = f; callers = ps }) (record { unit = u'; frame = g; callers = qs })
  both_go_on z u u' f g ps qs n next next' is is' related =
      one_each z u u' f g ps qs (Running u next ps) (Running u' next' qs) [] n (leads_step codes u f ps (Continues n next) is) (leads_step codes' u' g qs (Continues n next') is') related

  -- a print of each
  both_print : (z u u' : ℕ) (f g : Frame) (ps qs : List Caller) (v : ℤ) (next next' : Frame)
      → codes u f ≡ Prints v next → codes' u' g ≡ Prints v next'
      → Related 0 (record { unit = u; frame = next; callers = ps }) (record { unit = u'; frame = next'; callers = qs })
      → MeetsAgain Related codes codes' z (record { unit = u; frame = f; callers = ps }) (record { unit = u'; frame = g; callers = qs })
  both_print z u u' f g ps qs v next next' is is' related =
      one_each z u u' f g ps qs (Running u next ps) (Running u' next' qs) (v ∷ []) 0 (leads_step codes u f ps (Prints v next) is) (leads_step codes' u' g qs (Prints v next') is') related

  -- stacks of which both trap in the same way meet again
  both_trap : (z u u' : ℕ) (f g : Frame) (ps qs : List Caller) (kind : Trap) (n : ℕ) → codes u f ≡ Traps kind n
      → codes' u' g ≡ Traps kind n
      → MeetsAgain Related codes codes' z (record { unit = u; frame = f; callers = ps }) (record { unit = u'; frame = g; callers = qs })
  both_trap z u u' f g ps qs kind n is is' =
      one_each z u u' f g ps qs (Stopped kind) (Stopped kind) [] n (leads_step codes u f ps (Traps kind n) is) (leads_step codes' u' g qs (Traps kind n) is') refl

  module _ (z : ℕ) (f : Frame) (v : ℕ) (p : Caller) (ps : List Caller) (g : Frame) (qs : List Caller) (i : Inside f v p ps (record { unit = p.unit; frame = g; callers = qs })) where
    abbrev leaf : GraphShape
    leaf = i.leaf.call.leaf

    abbrev to : ℕ → ℕ
    to = copy leaves (joins p.unit i.there).units (graph_numbered graphs p.unit) i.leaf.call.unit

    abbrev place : ℕ → ℕ
    place = leaf_place i.leaf.first

    abbrev Meet : Type 0
    Meet = MeetsAgain Related codes codes' z (record { unit = v; frame = f; callers = p ∷ ps }) (record { unit = p.unit; frame = g; callers = qs })

    -- a graph can be made of the leaf's nodes
    can : CanMake leaf.vars leaf.received leaf.nodes
    can = leaf_can p.unit i.n i.leaf.call

    -- the leaf has the globals of its caller, which are variables of both
    alike : leaf.shared ≡ (graph_numbered graphs p.unit).shared
    alike = leaf_alike p.unit i.n i.there i.leaf.call

    enough : leaf.shared ≤ length leaf.vars
    enough = (leaf_shares p.unit i.n i.leaf.call).count

    -- what the two sides do at a node of the leaf
    first_does : (node : Node) → slice_get leaf.nodes f.place ≡ Some node → codes v f ≡ node_transition leaf.shared leaf.received (Some node) f
    first_does node here = ap (λ u. codes u f) i.is_unit ∙ leaf_code p.unit i.n i.leaf.call f ∙ ap (λ o. node_transition leaf.shared leaf.received o f) here

    second_does : (node : Node) → slice_get leaf.nodes f.place ≡ Some node
        → codes' p.unit g ≡ node_transition (graph_numbered joined p.unit).shared (graph_numbered joined p.unit).received (Some (leaf_node to place i.leaf.call.into i.leaf.call.next node)) g
    second_does node here = ap (λ o. node_transition (graph_numbered joined p.unit).shared (graph_numbered joined p.unit).received o g) (ap (slice_get (graph_numbered joined p.unit).nodes) i.place ∙ i.leaf.nodes f.place node i.later here)

    -- a successor is a node of the leaf, and not its first
    succ_within : (node : Node) → slice_get leaf.nodes f.place ≡ Some node → (slot s : ℕ)
        → slice_get (succs_of (Some node)) slot ≡ Some s → (1 ≤ s) × (s < length leaf.nodes)
    succ_within node here slot s edge = can.succs f.place slot s (ap (λ o. slice_get (succs_of o) slot) here ∙ edge)

    -- they go on within the leaf
    on_within : (s : ℕ) (next next' : Frame) → (1 ≤ s) × (s < length leaf.nodes) → next.place ≡ s
        → next'.place ≡ place s
        → ((x : ℕ) → (graph_numbered graphs p.unit).shared ≤ x → x < length (graph_numbered graphs p.unit).vars → next'.values x ≡ g.values x)
        → CopiesHold to (length leaf.vars) next.values next'.values
        → Related 0 (record { unit = v; frame = next; callers = p ∷ ps }) (record { unit = p.unit; frame = next'; callers = qs })
    on_within s next next' range here here' outer inner = inr (record {
      there = i.there;
      unit = refl;
      n = i.n;
      leaf = i.leaf;
      is_unit = i.is_unit;
      into = i.into;
      next = i.next;
      later = subst (λ m. 1 ≤ m) (sym here) range.0;
      within = subst (λ m. m < length leaf.nodes) (sym here) range.1;
      place = here' ∙ ap place (sym here);
      outer = λ x own lt. i.outer x own lt ∙ sym (outer x own lt);
      inner = inner;
      callers = i.callers;
    })

    -- with values as they are
    on_kept : (s : ℕ) → (1 ≤ s) × (s < length leaf.nodes)
        → Related 0 (record { unit = v; frame = at s f; callers = p ∷ ps }) (record { unit = p.unit; frame = at (place s) g; callers = qs })
    on_kept s range = on_within s (at s f) (at (place s) g) range refl refl (λ x own lt. refl) i.inner

    -- a copy is no variable of the caller that is no global
    apart : (x y : ℕ) → (graph_numbered graphs p.unit).shared ≤ y → y < length (graph_numbered graphs p.unit).vars → y ≡ to x → ⊥
    apart x y own lt same = elim (cases_lt x (graph_numbered graphs p.unit).shared) [
      | inl low ↦ let e : y ≡ x = same ∙ copy_same leaves (joins p.unit i.there).units (graph_numbered graphs p.unit) i.leaf.call.unit x low in omega (arith, low, own, e)
      | inr high ↦ let ge = copy_above leaves (joins p.unit i.there).units (graph_numbered graphs p.unit) i.leaf.call.unit x high in omega (arith, lt, same, ge)
    ]

    -- a copy is one of one variable
    to_one : (x y : ℕ) → to x ≡ to y → x ≡ y
    to_one = copy_one leaves (joins p.unit i.there).units (graph_numbered graphs p.unit) (least p.unit i.there) i.leaf.call.unit

    -- with another value of a variable and of its copy
    on_assigned : (s x : ℕ) (a b : ℤ) → b ≡ a → (1 ≤ s) × (s < length leaf.nodes)
        → Related 0 (record { unit = v; frame = assigned x a s f; callers = p ∷ ps }) (record { unit = p.unit; frame = assigned (to x) b (place s) g; callers = qs })
    on_assigned s x a b same range = on_within s (assigned x a s f) (assigned (to x) b (place s) g) range refl refl (λ y own lt. with_other (to x) y b g.values (apart x y own lt))
        (set_copied to (length leaf.vars) f.values g.values i.inner to_one x a b same)

    -- copies change no count
    same_count : (rhs : Rhs) → rhs_count (renamed_rhs to rhs) ≡ rhs_count rhs
    same_count (Plain a) = refl
    same_count (Unary op a) = refl
    same_count (Binary op a b) = refl

    -- an assignment, which may trap
    assign_meets : (x : ℕ) (rhs : Rhs) (s : ℕ) (b : Bool) → rhs_traps f.values rhs ≡ b → slice_get leaf.nodes f.place ≡ Some (Assign x rhs s) → Meet
    assign_meets x rhs s true traps_is here =
        let below = can.below f.place (Assign x rhs s) here in
        let first : codes v f ≡ Traps ZeroDivisor 1 = first_does (Assign x rhs s) here ∙ assign_is x rhs s f ∙ ap (λ c. if c then Traps ZeroDivisor 1 else Continues (rhs_count rhs) (assigned x (rhs_value f.values rhs) s f)) traps_is in
        let traps' = traps_copied to (length leaf.vars) f.values g.values i.inner rhs below.1 ∙ traps_is in
        let second : codes' p.unit g ≡ Traps ZeroDivisor 1 = second_does (Assign x rhs s) here ∙ assign_is (to x) (renamed_rhs to rhs) (place s) g
        ∙ ap (λ c. if c then Traps ZeroDivisor 1 else Continues (rhs_count (renamed_rhs to rhs)) (assigned (to x) (rhs_value g.values (renamed_rhs to rhs)) (place s) g)) traps' in
        both_trap z v p.unit f g (p ∷ ps) qs ZeroDivisor 1 first second
    assign_meets x rhs s false traps_is here =
        let below = can.below f.place (Assign x rhs s) here in
        let next : Frame = assigned x (rhs_value f.values rhs) s f in
        let next' : Frame = assigned (to x) (rhs_value g.values (renamed_rhs to rhs)) (place s) g in
        let first : codes v f ≡ Continues (rhs_count rhs) next = first_does (Assign x rhs s) here ∙ assign_is x rhs s f ∙ ap (λ c. if c then Traps ZeroDivisor 1 else Continues (rhs_count rhs) next) traps_is in
        let traps' = traps_copied to (length leaf.vars) f.values g.values i.inner rhs below.1 ∙ traps_is in
        let second : codes' p.unit g ≡ Continues (rhs_count rhs) next' = second_does (Assign x rhs s) here ∙ assign_is (to x) (renamed_rhs to rhs) (place s) g
        ∙ ap (λ c. if c then Traps ZeroDivisor 1 else Continues (rhs_count (renamed_rhs to rhs)) next') traps' ∙ ap (λ n. Continues n next') (same_count rhs) in
        both_go_on z v p.unit f g (p ∷ ps) qs (rhs_count rhs) next next' first second (on_assigned s x (rhs_value f.values rhs) (rhs_value g.values (renamed_rhs to rhs)) (rhs_copied to (length leaf.vars) f.values g.values i.inner rhs below.1) (succ_within (Assign x rhs s) here 0 s refl))

    -- a test
    test_meets : (test : Condition) (taken other : ℕ) (b : Bool) → test_holds f.values test ≡ b
        → slice_get leaf.nodes f.place ≡ Some (Test test taken other) → Meet
    test_meets test taken other true holds here =
        let below = can.below f.place (Test test taken other) here in
        let holds' = test_copied to (length leaf.vars) f.values g.values i.inner test below ∙ holds in
        both_go_on z v p.unit f g (p ∷ ps) qs 0 (at taken f) (at (place taken) g)
        (first_does (Test test taken other) here ∙ ap (λ (c : Bool). Continues 0 (at (if c then taken else other) f)) holds)
        (second_does (Test test taken other) here ∙ ap (λ (c : Bool). Continues 0 (at (if c then place taken else place other) g)) holds')
        (on_kept taken (succ_within (Test test taken other) here 0 taken refl))
    test_meets test taken other false holds here =
        let below = can.below f.place (Test test taken other) here in
        let holds' = test_copied to (length leaf.vars) f.values g.values i.inner test below ∙ holds in
        both_go_on z v p.unit f g (p ∷ ps) qs 0 (at other f) (at (place other) g)
        (first_does (Test test taken other) here ∙ ap (λ (c : Bool). Continues 0 (at (if c then taken else other) f)) holds)
        (second_does (Test test taken other) here ∙ ap (λ (c : Bool). Continues 0 (at (if c then place taken else place other) g)) holds')
        (on_kept other (succ_within (Test test taken other) here 1 other refl))

    -- a trap instruction
    guard_meets : (test : Condition) (number s : ℕ) (b : Bool) → test_holds f.values test ≡ b → slice_get leaf.nodes f.place ≡ Some (Guard test number s) → Meet
    guard_meets test number s true holds here =
        let below = can.below f.place (Guard test number s) here in
        let holds' = test_copied to (length leaf.vars) f.values g.values i.inner test below ∙ holds in
        both_trap z v p.unit f g (p ∷ ps) qs (Raised number) 0
        (first_does (Guard test number s) here ∙ ap (λ (c : Bool). if c then Traps (Raised number) 0 else Continues 0 (at s f)) holds)
        (second_does (Guard test number s) here ∙ ap (λ (c : Bool). if c then Traps (Raised number) 0 else Continues 0 (at (place s) g)) holds')
    guard_meets test number s false holds here =
        let below = can.below f.place (Guard test number s) here in
        let holds' = test_copied to (length leaf.vars) f.values g.values i.inner test below ∙ holds in
        both_go_on z v p.unit f g (p ∷ ps) qs 0 (at s f) (at (place s) g)
        (first_does (Guard test number s) here ∙ ap (λ (c : Bool). if c then Traps (Raised number) 0 else Continues 0 (at s f)) holds)
        (second_does (Guard test number s) here ∙ ap (λ (c : Bool). if c then Traps (Raised number) 0 else Continues 0 (at (place s) g)) holds')
        (on_kept s (succ_within (Guard test number s) here 0 s refl))

    -- what a return of the leaf hands back
    abbrev answer_of : Operand → Answer
    answer_of a = record { value = operand_value f.values a; globals = shared_values leaf.shared f.values }

    -- with the globals of the leaf the caller has the values of the second frame
    globals_back : (x : ℕ) → x < length (graph_numbered graphs p.unit).vars → with_first (shared_values leaf.shared f.values) p.frame.values x ≡ g.values x
    globals_back x lt = elim (cases_lt x leaf.shared) [
      | inl low ↦
          with_shared leaf.shared f.values p.frame.values x low ∙ sym (i.inner x (omega (arith, low, enough)))
          ∙ ap g.values (copy_same leaves (joins p.unit i.there).units (graph_numbered graphs p.unit) i.leaf.call.unit x (subst (λ n. x < n) alike low))
      | inr high ↦
          with_first_other (shared_values leaf.shared f.values) p.frame.values x (let long = shared_long leaf.shared f.values in omega (arith, long, high))
          ∙ i.outer x (subst (λ n. n ≤ x) alike high) lt
    ]

    -- after the return the second frame is that of the caller
    returns_to : (answer : Answer) (next' : Frame) → next'.place ≡ i.leaf.call.next
        → ((x : ℕ) → x < length (graph_numbered graphs p.unit).vars → (resumed p.into answer p.frame).values x ≡ next'.values x)
        → codes v f ≡ Returns answer → codes' p.unit g ≡ Continues 0 next' → Meet
    returns_to answer next' here values first second =
        let range = call_next p.unit i.n i.there i.leaf.call in
        let back : Frame = resumed p.into answer p.frame in
        record {
          steps = 1;
          steps' = 1;
          to = Running p.unit back ps;
          to' = Running p.unit next' qs;
          prints = [];
          counted = 0;
          counted' = 0;
          frames = 0;
          frames' = 0;
          leads = leads_step codes v f (p ∷ ps) (Returns answer) first;
          leads' = leads_step codes' p.unit g qs (Continues 0 next') second;
          cheaper = le_refl 0;
          shallower = le_refl 0;
          measure = 0;
          abreast = inl (record {
            there = i.there;
            unit = refl;
            frames = onward_agree (graph_numbered graphs p.unit).shared (length (graph_numbered graphs p.unit).vars) (least p.unit i.there) (graph_numbered graphs p.unit).received (length (graph_numbered graphs p.unit).nodes) i.leaf.call.next back next' range.0 range.1 (resumed_place p.into answer p.frame ∙ i.next) here values;
            callers = i.callers;
          });
          moves = inl (omega arith);
          moves' = inl (omega arith);
        }

    -- a return, by whether the call has a variable
    return_meets : (a : Operand) (into : Option ℕ) → i.leaf.call.into ≡ into → slice_get leaf.nodes f.place ≡ Some (Return a) → Meet
    return_meets a None into_is here =
        let answer : Answer = answer_of a in
        returns_to answer (at i.leaf.call.next g) refl (λ x lt. ap (λ o. (resumed o answer p.frame).values x) (i.into ∙ into_is) ∙ globals_back x lt) (first_does (Return a) here)
        (second_does (Return a) here ∙ ap (λ o. node_transition (graph_numbered joined p.unit).shared (graph_numbered joined p.unit).received (Some (returned_node o (renamed_operand to a) i.leaf.call.next)) g) into_is)
    return_meets a (Some y) into_is here =
        let answer : Answer = answer_of a in
        let same = operand_copied to (length leaf.vars) f.values g.values i.inner a (can.below f.place (Return a) here) in
        returns_to answer (assigned y (operand_value g.values (renamed_operand to a)) i.leaf.call.next g) refl
        (λ x lt. ap (λ o. (resumed o answer p.frame).values x) (i.into ∙ into_is)
        ∙ with_equal (length (graph_numbered graphs p.unit).vars) y (operand_value f.values a) (operand_value g.values (renamed_operand to a)) (with_first (shared_values leaf.shared f.values) p.frame.values) g.values (sym same) globals_back x lt)
        (first_does (Return a) here)
        (second_does (Return a) here ∙ ap (λ o. node_transition (graph_numbered joined p.unit).shared (graph_numbered joined p.unit).received (Some (returned_node o (renamed_operand to a) i.leaf.call.next)) g) into_is)

    -- any node of the leaf
    inside_at : (node : Node) → slice_get leaf.nodes f.place ≡ Some node → Meet
    inside_at (Start s) here = let none = can.only f.place s here in let later = i.later in absurd (omega (arith, none, later))
    inside_at (Skip s) here = both_go_on z v p.unit f g (p ∷ ps) qs 0 (at s f) (at (place s) g) (first_does (Skip s) here) (second_does (Skip s) here) (on_kept s (succ_within (Skip s) here 0 s refl))
    inside_at (Assign x rhs s) here = assign_meets x rhs s (rhs_traps f.values rhs) refl here
    inside_at (Print a s) here =
        let same = operand_copied to (length leaf.vars) f.values g.values i.inner a (can.below f.place (Print a s) here) in
        both_print z v p.unit f g (p ∷ ps) qs (operand_value f.values a) (at s f) (at (place s) g) (first_does (Print a s) here) (second_does (Print a s) here ∙ ap (λ n. Prints n (at (place s) g)) same) (on_kept s (succ_within (Print a s) here 0 s refl))
    inside_at (Guard test number s) here = guard_meets test number s (test_holds f.values test) refl here
    inside_at (Call into unit operands s) here = absurd (are_leaves.no_calls i.leaf.call.unit leaf i.leaf.call.leaf_is f.place into unit operands s here)
    inside_at (Test test taken other) here = test_meets test taken other (test_holds f.values test) refl here
    inside_at (Return a) here = return_meets a i.leaf.call.into refl here

    inside_meets : Meet
    inside_meets = let node = some_at leaf.nodes f.place i.within in inside_at node.0 node.1

  -- ---- any step

  outside_meets : (z : ℕ) (from from' : Stack) → Outside from from' → MeetsAgain Related codes codes' z from from'
  outside_meets z from from' r =
      let same : record { unit = from.unit; frame = from'.frame; callers = from'.callers } ≡ from' = ap (λ v. record { unit = v; frame = from'.frame; callers = from'.callers }) (sym r.unit) in
      let join = joins from.unit r.there in
      let graph = graph_numbered graphs from.unit in
      subst (MeetsAgain Related codes codes' z from) same (elim (in_or_not from.frame.place join.calls) [
        | inl there ↦
            let within = λ (n : ℕ) (is : IsIn n join.calls). let c = join.are_calls.are n is in slice_get_within graph.nodes n (Call c.into c.unit c.operands c.next) c.is in
            leaf_meets z from.unit from.frame from'.frame from.callers from'.callers r.there r.callers r.frames
            (joined_stands leaves join.units graph join.calls graph.nodes (graph_numbered joined from.unit).nodes (ordered_apart leaves join.units graph join.calls join.are_calls.ordered) within join.are_joined from.frame.place there)
        | inr out ↦ node_meets z from.unit from.frame from'.frame from.callers from'.callers (slice_get graph.nodes from.frame.place) r.there r.callers r.frames refl out
      ])

  inside_stack : (z : ℕ) (v : ℕ) (f : Frame) (ps : List Caller) (from' : Stack) → InsideOf f v ps from'
      → MeetsAgain Related codes codes' z (record { unit = v; frame = f; callers = ps }) from'
  inside_stack z v f [] from' i = absurd i
  inside_stack z v f (p ∷ ps) from' i =
      let same : record { unit = p.unit; frame = from'.frame; callers = from'.callers } ≡ from' = ap (λ u. record { unit = u; frame = from'.frame; callers = from'.callers }) (sym i.unit) in
      subst (MeetsAgain Related codes codes' z (record { unit = v; frame = f; callers = p ∷ ps })) same
      (inside_meets z f v p ps from'.frame from'.callers (record {
        there = i.there;
        unit = refl;
        n = i.n;
        leaf = i.leaf;
        is_unit = i.is_unit;
        into = i.into;
        next = i.next;
        later = i.later;
        within = i.within;
        place = i.place;
        outer = i.outer;
        inner = i.inner;
        callers = i.callers;
      }))

  meets : (z : ℕ) (from from' : Stack) → Related z from from' → MeetsAgain Related codes codes' z from from'
  meets z from from' (inl out) = outside_meets z from from' out
  meets z from from' (inr i) = inside_stack z from.unit from.frame from.callers from' i

  -- the program with leaves joined is the same, evaluates no more operators and is never deeper
  pub joins_keep : MachinesKeep (graph_machines graphs) (graph_machines joined)
  joins_keep = stacks_keep (graph_machines graphs) (graph_machines joined) Related (record {
    receives = ap (λ (l : List ℕ). length l) (sym (joins 0 program.some).received);
    shared = sym (joins 0 program.some).shared;
    starts = λ entry is zero. (0, inl (record { there = program.some; unit = refl; frames = entered_agree 0 entry program.some; callers = tt }));
    meets = meets;
  })
