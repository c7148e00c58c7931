-- Law: the program of the graphs that know their arguments goes step by step with the program of the graphs. Frames
-- stand at one place with equal values, and each frame of a unit has the constants that its arguments always are. So
-- what is assigned behind Start changes nothing.
use Rattle.std.proofs.Common.{◌≡◌, ◌⊎◌, ℕ, zero, suc, ◌+◌, ◌<◌, ◌≤◌, Bool, true, false, cond, ◌||◌, nat_eq, inl, inr, List, [], ◌∷◌, ◌++◌, flat_map, length, map, slice_get, slice_index_or, ℤ, pos, Option, Some, None, option_map, refl, sym, ap, ◌∙◌, subst, arith, le_refl}
use Rattle.std.proofs.lemmas.Bool.{cases_eq}
use Rattle.std.proofs.lemmas.Option.{get_or_from_slice_get, slice_get-map, slice_get_within}
use Rattle.mir_base.specs.declared.instructions.Operand.{Operand}
use Rattle.mir_base.specs.declared.instructions.Operand.TheVariants.{Const, Var}
use Rattle.mir_base.specs.declared.instructions.Rhs.{Rhs}
use Rattle.mir_base.specs.declared.instructions.Test as tests
use Rattle.mir_base.specs.declared.operators.Trap.TheVariants.{ZeroDivisor, Raised}
use Rattle.mir_base.specs.EqualValues.{with_other}
use Rattle.mir_base.specs.Expressions.{rhs_count, rhs_traps, rhs_value}
use Rattle.mir_base.specs.ExpressionLaws.{assign_is}
use Rattle.mir_base.specs.Frames.{Answer, CallEntry, Code, Frame, first_frame, Transition, Continues, Prints, Calls, Returns, Traps, Values, all_zero, resumed, shared_values, with_first, with_result}
use Rattle.mir_base.specs.Numbers.{wrapped}
use Rattle.mir_base.specs.Runs.{Caller, Running, returned}
use Rattle.mir_base.specs.SharedLaws.{shared_long, with_first_other}
use Rattle.mir_base.specs.Simulations.{Silently}
use Rattle.mir_base.specs.Units.{assign_transition, assigned, at, guard_transition, operand_value, test_holds}
use Rattle.flow_graph.specs.declared.nodes.Node.{Node}
use Rattle.flow_graph.specs.declared.nodes.Node.TheVariants.{Start, Skip, Assign, Print, Guard, Call, Test, Return}
use Rattle.flow_graph.specs.Graphs.{GraphShape, succs_of}
use Rattle.flow_graph.specs.ListLaws.{some_at}
use Rattle.flow_graph.specs.Machines.{graph_code, node_transition, received_from}
use Rattle.flow_graph.specs.MemberLaws.{not_in}
use Rattle.flow_graph.specs.Numbering.{is_in}
use Rattle.graph_edit.specs.InsertionRuns.{values_after}
use Rattle.graph_edit.specs.Insertions.{Insertion}
use Rattle.mir_sim.specs.Machines.{MachinesKeep, codes_in}
use Rattle.mir_sim.specs.StackLaws.{control_after, counted_by, frames_by, leads_silently, leads_step, leads_trans, printed_by, stacks_keep}
use Rattle.mir_sim.specs.StackSimulations.{Abreast, MeetsAgain, Stack, StepsLead}
use Rattle.program_pass.specs.ChainLaws.{gone_on}
use Rattle.program_pass.specs.GraphPrograms.{IsGraphProgram, graph_numbered, graph_machines, shared_in}
use Rattle.program_pass.specs.GraphProgramLaws.{Agree, Together, node_together, onward_agree, resumed_agree}
use Rattle.constant_args.specs.ConstantArguments.{CallSite, GivesConstant, IsNeverAssigned, PassesOn, assigned_var, put_behind_start, constant_puts}
use Rattle.constant_args.proofs.BehindStart.{behind_start_kept, behind_start_leads}
use Rattle.constant_args.proofs.Constants.{puts_change_none, puts_plain, received_value}

-- a node of the graph of a unit calls unit u like this
pub record CallsIn (graphs : List GraphShape) (u : ℕ) (site : CallSite) : Type 0 where
  pub number : ℕ
  pub into : Option ℕ
  pub next : ℕ
  pub there : site.caller < length graphs
  pub graph_is : site.graph ≡ graph_numbered graphs site.caller
  pub here : slice_get site.graph.nodes number ≡ Some (Call into u site.operands next)

-- each call of unit u, which is not the first, gives the constant c as argument i, or passes the argument on
pub record AlwaysIs (graphs : List GraphShape) (u i : ℕ) (c : ℤ) : Type 0 where
  pub later : 1 ≤ u
  pub each : (site : CallSite) → CallsIn graphs u site → GivesConstant site i c ⊎ PassesOn u i site

-- the second graph is the first with constants assigned behind Start that the arguments of the unit u always are
pub record Knows (graphs : List GraphShape) (u : ℕ) (graph middle : GraphShape) : Type 0 where
  pub constants : List (Option ℤ)
  pub nodes : middle.nodes ≡ put_behind_start graph.nodes (constant_puts graph.received constants)
  pub shared : middle.shared ≡ graph.shared
  pub received : middle.received ≡ graph.received
  pub given : (i : ℕ) (c : ℤ) → slice_get constants i ≡ Some (Some c) → AlwaysIs graphs u i c

-- ---- variables that no node assigns

-- what is not in joined lists is in neither
not_in_either : (x : ℕ) (xs ys : List ℕ) → is_in x (xs ++ ys) ≡ false → (is_in x xs ≡ false) × (is_in x ys ≡ false)
not_in_either x [] ys out = (refl, out)
not_in_either x (y ∷ xs) ys out = go (nat_eq y x) refl out (not_in_either x xs ys)
  where
    go : (b : Bool) → nat_eq y x ≡ b → (b || is_in x (xs ++ ys)) ≡ false → (is_in x (xs ++ ys) ≡ false → (is_in x xs ≡ false) × (is_in x ys ≡ false)) → ((b || is_in x xs) ≡ false) × (is_in x ys ≡ false)
    go true e none rest = cc
    go false e none rest = rest none

-- a node does not assign it
kept_at : (nodes : List Node) (n : ℕ) (node : Node) (x : ℕ) → slice_get nodes n ≡ Some node → IsNeverAssigned nodes x → is_in x (assigned_var node) ≡ false
kept_at [] n node x at kept = cc
kept_at (m ∷ nodes) zero node x at kept =
    let same : m ≡ node = cc in
    ap (λ k. is_in x (assigned_var k)) (sym same) ∙ (not_in_either x (assigned_var m) (flat_map assigned_var nodes) kept).0
kept_at (m ∷ nodes) (suc n) node x at kept = kept_at nodes n node x at (not_in_either x (assigned_var m) (flat_map assigned_var nodes) kept).1

module _ (graphs middles : List GraphShape) (program : IsGraphProgram graphs) (knows : (u : ℕ) → u < length graphs → Knows graphs u (graph_numbered graphs u) (graph_numbered middles u)) where
  -- what the units of the two sides do
  abbrev codes : ℕ → Code
  codes = codes_in (graph_machines graphs)

  abbrev codes' : ℕ → Code
  codes' = codes_in (graph_machines middles)

  -- the arguments have the constants of the unit
  abbrev HaveConstants : ℕ → List ℤ → Type 0
  HaveConstants u arguments = (i : ℕ) (c : ℤ) → AlwaysIs graphs u i c → slice_index_or arguments i (pos 0) ≡ wrapped c

  -- so have the variables that received them, and that no node assigns
  abbrev KeepConstants : ℕ → Values → Type 0
  KeepConstants u values = (i x : ℕ) (c : ℤ) → slice_get (graph_numbered graphs u).received i ≡ Some x → AlwaysIs graphs u i c → IsNeverAssigned (graph_numbered graphs u).nodes x → values x ≡ wrapped c

  -- the result of a call goes to none of these
  abbrev IsFree : ℕ → Option ℕ → Type 0
  IsFree u into = (x : ℕ) → into ≡ Some x → IsNeverAssigned (graph_numbered graphs u).nodes x → ⊥

  -- a unit that is there may be entered with these arguments
  abbrev MayEnter : ℕ → List ℤ → Type 0
  MayEnter u arguments = (u < length graphs) × HaveConstants u arguments

  -- frames of a unit agree, and have its constants
  record InUnit (u : ℕ) (f g : Frame) : Type 0 where
    enters : MayEnter u f.arguments
    keeps : (f.place ≡ 0 → ⊥) → KeepConstants u f.values
    agree : Agree (length (graph_numbered graphs u).vars) (length (graph_numbered graphs u).nodes) f g

  -- two callers wait at the same place
  record SameCaller (p q : Caller) : Type 0 where
    unit : q.unit ≡ p.unit
    into : q.into ≡ p.into
    free : IsFree p.unit p.into
    enters : MayEnter p.unit p.frame.arguments
    keeps : KeepConstants p.unit p.frame.values
    agree : Agree (length (graph_numbered graphs p.unit).vars) (length (graph_numbered graphs p.unit).nodes) p.frame q.frame

  -- so of all callers
  abbrev SameCallers : List Caller → List Caller → Type 0
  SameCallers [] [] = Unit {0}
  SameCallers (p ∷ ps) (q ∷ qs) = SameCaller p q × SameCallers ps qs
  SameCallers _ _ = ⊥

  -- they are as many
  as_high : (ps qs : List Caller) → SameCallers ps qs → length qs ≤ length ps
  as_high [] [] over = omega arith
  as_high (p ∷ ps) (q ∷ qs) over = omega (arith, as_high ps qs over.1)
  as_high [] (q ∷ qs) over = absurd over
  as_high (p ∷ ps) [] over = absurd over

  -- stacks whose frames agree
  record Related (z : ℕ) (from from' : Stack) : Type 0 where
    unit : from'.unit ≡ from.unit
    frames : InUnit from.unit from.frame from'.frame
    callers : SameCallers from.callers from'.callers

  -- ---- what a step keeps

  -- the frame keeps its arguments and its constants
  record Keeps (u : ℕ) (arguments : List ℤ) (next : Frame) : Type 0 where
    arguments_are : next.arguments ≡ arguments
    constants : KeepConstants u next.values

  -- so does each step; a call enters a unit with the constants of that unit, and a return hands the globals back
  abbrev StepKeeps : ℕ → List ℤ → Transition → Type 0
  StepKeeps u arguments (Continues n next) = Keeps u arguments next
  StepKeeps u arguments (Prints v next) = Keeps u arguments next
  StepKeeps u arguments (Calls called entry into next) = MayEnter called entry.arguments × IsFree u into × Keeps u arguments next
  StepKeeps u arguments (Returns answer) = length answer.globals ≡ shared_in graphs
  StepKeeps u arguments (Traps kind n) = Unit {0}

  module _ (u n : ℕ) (lt : u < length graphs) (f : Frame) (keeps : KeepConstants u f.values) where
    -- where the values stay
    stays : (to : ℕ) → Keeps u f.arguments (at to f)
    stays to = record { arguments_are = refl; constants = keeps }

    -- an assignment is of no variable that is never assigned
    assign_keeps : (x : ℕ) (rhs : Rhs) (next : ℕ) → slice_get (graph_numbered graphs u).nodes n ≡ Some (Assign x rhs next) → StepKeeps u f.arguments (assign_transition x rhs next f)
    assign_keeps x rhs next here =
        let value = rhs_value f.values rhs in
        let there = assigned x value next f in
        let goes_on : Keeps u f.arguments there = record {
          arguments_are = refl;
          constants = λ i y c at always kept. with_other x y value f.values (not_in y x [] (kept_at (graph_numbered graphs u).nodes n (Assign x rhs next) y here kept)).0 ∙ keeps i y c at always kept;
        } in
        rw (assign_is x rhs next f) (elim (rhs_traps f.values rhs) as (λ t. StepKeeps u f.arguments (cond t (Traps ZeroDivisor 1) (Continues (rhs_count rhs) there))) [ true ↦ tt | false ↦ goes_on ])

    -- a guard changes no value
    guard_keeps : (test : tests.Test) (number next : ℕ) → StepKeeps u f.arguments (guard_transition test number next f)
    guard_keeps test number next =
        elim (test_holds f.values test) as (λ t. StepKeeps u f.arguments (cond t (Traps (Raised number) 0) (Continues 0 (at next f)))) [ true ↦ tt | false ↦ stays next ]

    -- the operands that a call hands over have the constants of the called unit
    call_enters : (into : Option ℕ) (called : ℕ) (operands : List Operand) (next : ℕ)
        → slice_get (graph_numbered graphs u).nodes n ≡ Some (Call into called operands next) → MayEnter called (map (operand_value f.values) operands)
    call_enters into called operands next here =
        let fits = program.calls u lt called (length operands) (record { number = n; node = Call into called operands next; here = here; calls = refl }) in
        let site : CallSite = record { caller = u; graph = graph_numbered graphs u; operands = operands } in (
          fits.0,
          λ i c always. elim (always.each site (record { number = n; into = into; next = next; there = lt; graph_is = refl; here = here })) [
            | inl gives ↦ value_at i (Const c) gives
            | inr passes ↦ value_at i (Var passes.variable) passes.operand ∙ keeps i passes.variable c passes.received (subst (λ v. AlwaysIs graphs v i c) (sym passes.own) always) passes.kept
          ],
        )
      where
        value_at : (i : ℕ) (a : Operand) → slice_get operands i ≡ Some a → slice_index_or (map (operand_value f.values) operands) i (pos 0) ≡ operand_value f.values a
        value_at i a at' = get_or_from_slice_get (map (operand_value f.values) operands) i (operand_value f.values a) (pos 0) (slice_get-map (operand_value f.values) operands i ∙ ap (option_map (operand_value f.values)) at')

    -- its result goes to none of the variables that no node assigns
    call_free : (into : Option ℕ) (called : ℕ) (operands : List Operand) (next : ℕ) → slice_get (graph_numbered graphs u).nodes n ≡ Some (Call into called operands next) → IsFree u into
    call_free None called operands next here x e kept = cc
    call_free (Some y) called operands next here x e kept =
        let same : x ≡ y = cc in
        (not_in x y [] (kept_at (graph_numbered graphs u).nodes n (Call (Some y) called operands next) x here kept)).0 same

    -- one node but Start
    node_keeps : (node : Node) → slice_get (graph_numbered graphs u).nodes n ≡ Some node → ((s : ℕ) → node ≡ Start s → ⊥)
        → StepKeeps u f.arguments (node_transition (graph_numbered graphs u).shared (graph_numbered graphs u).received (Some node) f)
    node_keeps (Start next) here apart = absurd (apart next refl)
    node_keeps (Skip next) here apart = stays next
    node_keeps (Assign x rhs next) here apart = assign_keeps x rhs next here
    node_keeps (Print a next) here apart = stays next
    node_keeps (Guard test number next) here apart = guard_keeps test number next
    node_keeps (Call into called operands next) here apart = (call_enters into called operands next here, call_free into called operands next here, stays next)
    node_keeps (Test test taken other) here apart = stays _
    node_keeps (Return a) here apart = shared_long (graph_numbered graphs u).shared f.values ∙ program.globals u lt

  -- ---- one step of each side

  -- frames that a call enters
  entered : (u : ℕ) (entry : CallEntry) → MayEnter u entry.arguments → InUnit u (first_frame entry) (first_frame entry)
  entered u entry enters =
      let start = (program.are u enters.0).start in
      record {
        enters = enters;
        keeps = λ later. absurd (later refl);
        agree = record { place = refl; within = slice_get_within (graph_numbered graphs u).nodes 0 (Start start.0) start.1; values = λ x lt'. refl; arguments = λ none. refl };
      }

  -- an answer with as many globals leaves the constants as they are
  resumed_keeps : (u : ℕ) (into : Option ℕ) (answer : Answer) (values : Values) → u < length graphs → length answer.globals ≡ shared_in graphs → IsFree u into → KeepConstants u values
      → KeepConstants u (with_result into answer.value (with_first answer.globals values))
  resumed_keeps u into answer values lt long free keeps i x c at always kept = result into free ∙ with_first_other answer.globals values x own ∙ keeps i x c at always kept
    where
      own : length answer.globals ≤ x
      own = let least = (program.shares u lt).own i x at in omega (arith, least, long, program.globals u lt)

      result : (o : Option ℕ) → IsFree u o → with_result o answer.value (with_first answer.globals values) x ≡ with_first answer.globals values x
      result None off = refl
      result (Some y) off = with_other y x answer.value (with_first answer.globals values) (λ same. off x (ap Some (sym same)) kept)

  -- what an answer leads to
  answered : (answer : Answer) (ps qs : List Caller) → length answer.globals ≡ shared_in graphs → SameCallers ps qs → Abreast Related 0 (returned answer ps) (returned answer qs)
  answered answer [] [] long over = refl
  answered answer (p ∷ ps) (q ∷ qs) long over =
      let one = over.0 in
      let vars = length (graph_numbered graphs p.unit).vars in
      let nodes = length (graph_numbered graphs p.unit).nodes in
      record {
        unit = one.unit;
        frames = record {
          enters = one.enters;
          keeps = λ later. resumed_keeps p.unit p.into answer p.frame.values one.enters.0 long one.free one.keeps;
          agree = subst (λ i. Agree vars nodes (resumed p.into answer p.frame) (resumed i answer q.frame)) (sym one.into) (resumed_agree vars nodes p.into answer p.frame q.frame one.agree);
        };
        callers = over.1;
      }
  answered answer [] (q ∷ qs) long over = absurd over
  answered answer (p ∷ ps) [] long over = absurd over

  -- one step of each side does alike
  record StepsAlike (u : ℕ) (ps qs : List Caller) (t t' : Transition) : Type 0 where
    prints : printed_by t' ≡ printed_by t
    cheaper : counted_by t' ≤ counted_by t
    shallower : frames_by qs t' ≤ frames_by ps t
    abreast : Abreast Related 0 (control_after u ps t) (control_after u qs t')

  -- frames that agree in one unit
  abbrev AgreeIn : ℕ → Frame → Frame → Type 0
  AgreeIn u f g = Agree (length (graph_numbered graphs u).vars) (length (graph_numbered graphs u).nodes) f g

  -- the arguments are still those with which the unit was entered
  still_enters : (u : ℕ) (arguments : List ℤ) (next : Frame) → MayEnter u arguments → Keeps u arguments next → MayEnter u next.arguments
  still_enters u arguments next enters keeps = (enters.0, subst (HaveConstants u) (sym keeps.arguments_are) enters.1)

  -- and the frames that go on agree
  goes_on : (u : ℕ) (arguments : List ℤ) (f g : Frame) → MayEnter u arguments → Keeps u arguments f → AgreeIn u f g → InUnit u f g
  goes_on u arguments f g enters keeps agree = record { enters = still_enters u arguments f enters keeps; keeps = λ later. keeps.constants; agree = agree }

  -- where the frames agree, and the step keeps what it has to
  steps_alike : (u : ℕ) (arguments : List ℤ) (ps qs : List Caller) (t t' : Transition) → SameCallers ps qs → MayEnter u arguments
      → Together (AgreeIn u) t t' → StepKeeps u arguments t → StepsAlike u ps qs t t'
  steps_alike u arguments ps qs (Continues n next) (Continues m next') over enters both keeps = record {
    prints = refl;
    cheaper = omega (arith, both.0);
    shallower = le_refl 0;
    abreast = record { unit = refl; frames = goes_on u arguments next next' enters keeps both.1; callers = over };
  }
  steps_alike u arguments ps qs (Prints v next) (Prints w next') over enters both keeps = record {
    prints = ap (λ k. k ∷ []) both.0;
    cheaper = le_refl 0;
    shallower = le_refl 0;
    abreast = record { unit = refl; frames = goes_on u arguments next next' enters keeps both.1; callers = over };
  }
  steps_alike u arguments ps qs (Calls called entry into next) (Calls called' entry' into' next') over enters both keeps = record {
    prints = refl;
    cheaper = le_refl 0;
    shallower = omega (arith, as_high ps qs over);
    abreast = record {
      unit = both.0;
      frames = subst (λ e. InUnit called (first_frame entry) (first_frame e)) (sym both.1) (entered called entry keeps.0);
      callers = (record { unit = refl; into = both.2; free = keeps.1; enters = still_enters u arguments next enters keeps.2; keeps = keeps.2.constants; agree = both.3 }, over);
    };
  }
  steps_alike u arguments ps qs (Returns answer) (Returns answer') over enters both keeps = record {
    prints = refl;
    cheaper = le_refl 0;
    shallower = le_refl 0;
    abreast = subst (λ a. Abreast Related 0 (returned answer ps) (returned a qs)) (sym both) (answered answer ps qs keeps over);
  }
  steps_alike u arguments ps qs (Traps kind n) (Traps kind' m) over enters both keeps = record {
    prints = refl;
    cheaper = omega (arith, both.1);
    shallower = le_refl 0;
    abreast = sym both.0;
  }
  steps_alike u arguments ps qs _ _ over enters both keeps = absurd both

  -- ---- frames that meet again

  module _ (z u : ℕ) (f g : Frame) (ps qs : List Caller) (over : SameCallers ps qs) (in_unit : InUnit u f g) where
    abbrev graph : GraphShape
    graph = graph_numbered graphs u

    abbrev middle : GraphShape
    middle = graph_numbered middles u

    lt : u < length graphs
    lt = in_unit.enters.0

    abbrev puts : List Insertion
    puts = constant_puts graph.received (knows u lt).constants

    -- what the second side does
    code_is : codes' u g ≡ graph_code graph.shared graph.received (put_behind_start graph.nodes puts) g
    code_is =
        let k = knows u lt in
        ap (λ n. graph_code n middle.received middle.nodes g) k.shared ∙ ap (λ r. graph_code graph.shared r middle.nodes g) k.received ∙ ap (λ l. graph_code graph.shared graph.received l g) k.nodes

    -- one node of both sides
    together : (node : Node) → slice_get graph.nodes f.place ≡ Some node
        → Together (Agree (length graph.vars) (length graph.nodes)) (node_transition graph.shared graph.received (Some node) f) (node_transition graph.shared graph.received (Some node) g)
    together node here =
        let can = program.are u lt in
        node_together graph.shared (length graph.vars) (program.shares u lt).count graph.received (length graph.nodes) node f g
        (λ slot s edge. can.succs f.place slot s (ap (λ o. slice_get (succs_of o) slot) here ∙ edge))
        (can.below f.place node here)
        (λ s start. can.only f.place s (here ∙ ap Some start))
        in_unit.agree

    -- a node that is not the first
    later_meets : (node : Node) → slice_get graph.nodes f.place ≡ Some node → (f.place ≡ 0 → ⊥)
        → MeetsAgain Related codes codes' z (record { unit = u; frame = f; callers = ps }) (record { unit = u; frame = g; callers = qs })
    later_meets node here apart =
        let can = program.are u lt in
        let t = node_transition graph.shared graph.received (Some node) f in
        let t' = node_transition graph.shared graph.received (Some node) g in
        let is : codes u f ≡ t = ap (λ o. node_transition graph.shared graph.received o f) here in
        let kept : slice_get (put_behind_start graph.nodes puts) g.place ≡ Some node = ap (slice_get (put_behind_start graph.nodes puts)) in_unit.agree.place ∙ behind_start_kept graph.vars graph.received graph.nodes can puts f.place apart in_unit.agree.within ∙ here in
        let is' : codes' u g ≡ t' = code_is ∙ ap (λ o. node_transition graph.shared graph.received o g) kept in
        let alike = steps_alike u f.arguments ps qs t t' over in_unit.enters (together node here)
        (node_keeps u f.place lt f (in_unit.keeps apart) node here (λ s start. apart (can.only f.place s (here ∙ ap Some start)))) in
        record {
          steps = 1;
          steps' = 1;
          to = control_after u ps t;
          to' = control_after u qs t';
          prints = printed_by t;
          counted = counted_by t;
          counted' = counted_by t';
          frames = frames_by ps t;
          frames' = frames_by qs t';
          leads = leads_step codes u f ps t is;
          leads' = subst (λ l. StepsLead codes' 1 (Running u g qs) (control_after u qs t') l (counted_by t') (frames_by qs t')) alike.prints (leads_step codes' u g qs t' is');
          cheaper = alike.cheaper;
          shallower = alike.shallower;
          measure = 0;
          abreast = alike.abreast;
          moves = inl (omega arith);
          moves' = inl (omega arith);
        }

    -- the first, behind which the constants are assigned
    start_meets : f.place ≡ 0
        → MeetsAgain Related codes codes' z (record { unit = u; frame = f; callers = ps }) (record { unit = u; frame = g; callers = qs })
    start_meets first =
        let can = program.are u lt in
        let start = can.start in
        let after = can.succs 0 0 start.0 (ap (λ o. slice_get (succs_of o) 0) start.1) in
        let here : slice_get graph.nodes f.place ≡ Some (Start start.0) = ap (slice_get graph.nodes) first ∙ start.1 in
        let both = together (Start start.0) here in
        let leads = behind_start_leads graph.vars graph.received graph.nodes can puts (puts_plain graph.received (knows u lt).constants) in
        let there : Frame = record { place = start.0; arguments = f.arguments; values = received_from 0 graph.received f.arguments (with_first (shared_values graph.shared f.values) all_zero) } in
        let entered' : Frame = record { place = leads.next; arguments = g.arguments; values = received_from 0 graph.received g.arguments (with_first (shared_values graph.shared g.values) all_zero) } in
        let there' : Frame = gone_on start.0 (values_after puts entered'.values) entered' in
        let is : codes u f ≡ Continues 0 there = ap (λ o. node_transition graph.shared graph.received o f) here in
        let is' : codes' u g ≡ Continues 0 entered' = code_is ∙ ap (λ o. node_transition graph.shared graph.received o g) (ap (slice_get (put_behind_start graph.nodes puts)) (in_unit.agree.place ∙ first) ∙ leads.start) in
        let k = knows u lt in
        let run = leads.silent middle.shared middle.received entered' refl in
        let silent = subst (λ l. Silently (graph_code middle.shared middle.received l) run.0 entered' there' 0) (sym k.nodes) run.1 in
        let arguments : g.arguments ≡ f.arguments = in_unit.agree.arguments first in
        let constant : (l : List ℤ) (v : Values) (i x : ℕ) (c : ℤ) → l ≡ f.arguments → slice_get graph.received i ≡ Some x → AlwaysIs graphs u i c → received_from 0 graph.received l v x ≡ wrapped c = λ l v i x c same at always.
        let place : 0 + i ≡ i = omega arith in
        received_value graph.received 0 l v can.received_differ i x at ∙ ap (λ j. slice_index_or l j (pos 0)) place ∙ ap (λ k. slice_index_or k i (pos 0)) same ∙ in_unit.enters.1 i c always in
        let changes_none = puts_change_none graph.received k.constants entered'.values entered'.values
        (λ i x c at known. constant g.arguments (with_first (shared_values graph.shared g.values) all_zero) i x c arguments at (k.given i c known))
        (λ y. refl) in
        record {
          steps = 1;
          steps' = 1 + run.0;
          to = Running u there ps;
          to' = Running u there' qs;
          prints = [];
          counted = 0;
          counted' = 0;
          frames = 0;
          frames' = 0;
          leads = leads_step codes u f ps (Continues 0 there) is;
          leads' = leads_trans codes' 1 run.0 (Running u g qs) (Running u entered' qs) (Running u there' qs) [] [] 0 0 0 0 (leads_step codes' u g qs (Continues 0 entered') is') (leads_silently codes' u run.0 entered' there' 0 qs silent);
          cheaper = le_refl 0;
          shallower = le_refl 0;
          measure = 0;
          abreast = record {
            unit = refl;
            frames = record {
              enters = in_unit.enters;
              keeps = λ later i x c at always kept. constant f.arguments (with_first (shared_values graph.shared f.values) all_zero) i x c refl at always;
              agree = onward_agree graph.shared (length graph.vars) (program.shares u lt).count graph.received (length graph.nodes) start.0 there there' after.0 after.1 refl refl (λ x low. both.1.values x low ∙ sym (changes_none x));
            };
            callers = over;
          };
          moves = inl (omega arith);
          moves' = inl (omega arith);
        }

    -- any node
    meet : MeetsAgain Related codes codes' z (record { unit = u; frame = f; callers = ps }) (record { unit = u; frame = g; callers = qs })
    meet = elim (cases_eq f.place 0) [
      | inl first ↦ start_meets first
      | inr apart ↦ let node = some_at graph.nodes f.place in_unit.agree.within in later_meets node.0 node.1 apart
    ]

  -- related stacks meet again
  meets : (z : ℕ) (from from' : Stack) → Related z from from' → MeetsAgain Related codes codes' z from from'
  meets z from from' r =
      let same : record { unit = from.unit; frame = from'.frame; callers = from'.callers } ≡ from' = ap (λ v. record { unit = v; frame = from'.frame; callers = from'.callers }) (sym r.unit) in
      subst (MeetsAgain Related codes codes' z from) same (meet z from.unit from.frame from'.frame from.callers from'.callers r.callers r.frames)

  -- the program of the graphs that know their arguments is the same, evaluates no more operators and is never deeper
  pub knowing_keep : MachinesKeep (graph_machines graphs) (graph_machines middles)
  knowing_keep =
      let first = knows 0 program.some in
      stacks_keep (graph_machines graphs) (graph_machines middles) Related (record {
        receives = ap (λ (l : List ℕ). length l) (sym first.received);
        shared = sym first.shared;
        starts = λ entry is zero. (0, record { unit = refl; frames = entered 0 entry (program.some, λ i c always. absurd (let none = always.later in omega (arith, none))); callers = tt });
        meets = meets;
      })
