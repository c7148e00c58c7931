-- Law: the program of the narrowed graphs goes step by step with the program of the graphs. Frames stand at one place and
-- agree on what is wanted there, those that wait agree on what is wanted behind their calls, whatever answers they get
-- that agree on what is asked for. For proofs only.
use Rattle.std.proofs.Common.{◌≡◌, ℕ, suc, ◌<◌, ◌≤◌, Bool, true, false, if◌then◌else◌, inl, List, [], ◌∷◌, length, map, slice_get, slice_index_or, pos, Option, Some, None, refl, sym, ap, ◌∙◌, subst, arith, le_refl}
use Rattle.std.proofs.lemmas.List.{length-map}
use Rattle.mir_base.specs.declared.instructions.Operand.{Operand}
use Rattle.mir_base.specs.declared.instructions.Rhs.{Rhs}
use Rattle.mir_base.specs.declared.instructions.Rhs.TheVariants.{Plain, Unary, Binary}
use Rattle.mir_base.specs.declared.instructions.Test as tests
use Rattle.mir_base.specs.Numbers.{traps, value_of_op}
use Rattle.mir_base.specs.declared.operators.Trap.TheVariants.{ZeroDivisor, Raised}
use Rattle.mir_base.specs.Frames.{Answer, CallEntry, Code, Frame, resumed, shared_values, Transition, Continues, Prints, Calls, Returns, Traps}
use Rattle.mir_base.specs.Runs.{Caller, Running, returned}
use Rattle.mir_base.specs.UnitRuns.{IsCallAnswer, IsEntry}
use Rattle.mir_base.specs.Units.{assign_transition, assigned, at, guard_transition, operand_value, test_holds}
use Rattle.flow_graph.specs.declared.nodes.Node.{Node}
use Rattle.flow_graph.specs.declared.nodes.Node.TheVariants.{Start, Skip, Assign, Print, Guard, Call, Test, Return}
use Rattle.flow_graph.specs.Graphs.{GraphShape}
use Rattle.flow_graph.specs.Machines.{machine_of, node_transition, graph_code}
use Rattle.mir_sim.specs.Machines.{MachinesKeep, codes_in}
use Rattle.mir_sim.specs.StackLaws.{control_after, counted_by, frames_by, leads_step, printed_by, stacks_keep}
use Rattle.mir_sim.specs.StackSimulations.{Abreast, MeetsAgain, Stack, StepsLead, first_stack}
use Rattle.node_list.specs.Lists.{list_at}
use Rattle.program_pass.specs.GraphPrograms.{IsGraphProgram, graph_machines, graph_numbered, shared_in}
use Rattle.wanted_bits.specs.AgreementLaws.{agree_equal, agree_lower}
use Rattle.wanted_bits.specs.Asking.{width_at}
use Rattle.wanted_bits.specs.MostRemoved.{TellShifts}
use Rattle.wanted_bits.specs.Narrowed.{AreNarrowed}
use Rattle.wanted_bits.specs.NarrowedSteps.{AlikeBy, AnswersAgree, AnswersServe, Beside, EntriesAgree, entered_beside, narrowed_steps}
use Rattle.wanted_bits.specs.Walking.{is_into}
use Rattle.wanted_bits.specs.Wanted.{AreLeastWantedBy}
use Rattle.program_wanted.specs.Demands.{Demands, asked_at}

-- an assignment calls nothing
no_call : (x : ℕ) (rhs : Rhs) (to : ℕ) (f : Frame) (called : ℕ) (entry : CallEntry) (into : Option ℕ) (next : Frame) → assign_transition x rhs to f ≡ Calls called entry into next → ⊥
no_call x (Plain a) to f called entry into next e = cc
no_call x (Unary op a) to f called entry into next e = cc
no_call x (Binary op a b) to f called entry into next e = go (traps op (operand_value f.values b)) e
  where
    go : (t : Bool) → (if t then Traps ZeroDivisor 1 else Continues 1 (assigned x (value_of_op op (operand_value f.values a) (operand_value f.values b)) to f)) ≡ Calls called entry into next → ⊥
    go true e = cc
    go false e = cc

-- nor does a guard
no_guard_call : (test : tests.Test) (number to : ℕ) (f : Frame) (called : ℕ) (entry : CallEntry) (into : Option ℕ) (next : Frame) → guard_transition test number to f ≡ Calls called entry into next → ⊥
no_guard_call test number to f called entry into next e = go (test_holds f.values test) e
  where
    go : (b : Bool) → (if b then Traps (Raised number) 0 else Continues 0 (at to f)) ≡ Calls called entry into next → ⊥
    go true e = cc
    go false e = cc

-- what is wanted of a call's answer behind it is asked for: of each global to which the result does not go, and of the
-- variable to which it goes
pub record CallsAsk (demands : Demands) (graph : GraphShape) (wanted : ℕ → ℕ → ℕ) : Type 0 where
  pub on_globals : (n : ℕ) (into : Option ℕ) (v : ℕ) (operands : List Operand) (next : ℕ)
      → slice_get graph.nodes n ≡ Some (Call into v operands next) → (x : ℕ) → x < graph.shared
      → is_into x into ≡ false → wanted next x ≤ width_at (list_at demands.backs v) x
  pub on_result : (n y v : ℕ) (operands : List Operand) (next : ℕ)
      → slice_get graph.nodes n ≡ Some (Call (Some y) v operands next)
      → wanted next y ≤ width_at (list_at demands.backs v) graph.shared

-- a graph and its narrowed graph, by numbers that the demands serve
pub record Sides (demands : Demands) (u : ℕ) (graph narrowed : GraphShape) : Type 0 where
  pub are : AreNarrowed (asked_at demands graph.shared u) graph narrowed.nodes
  pub shared : narrowed.shared ≡ graph.shared
  pub received : narrowed.received ≡ graph.received
  pub globals : (x : ℕ) → x < graph.shared → are.wanted 0 x ≤ width_at (list_at demands.globals u) x
  pub arguments : (i x : ℕ) → slice_get graph.received i ≡ Some x
      → are.wanted 0 x ≤ width_at (list_at demands.arguments u) i
  pub calls : CallsAsk demands graph are.wanted

-- by the least such numbers
pub record LeastSides (demands : Demands) (u : ℕ) (graph narrowed : GraphShape) : Type 0 where
  pub sides : Sides demands u graph narrowed
  pub tell : TellShifts graph sides.are.shifts
  pub least : AreLeastWantedBy (asked_at demands graph.shared u) graph sides.are.shifts
      sides.are.wanted

module _ (graphs middles : List GraphShape) (program : IsGraphProgram graphs) (demands : Demands) (whole : 64 ≤ width_at (list_at demands.backs 0) (shared_in graphs)) (sides : (u : ℕ) → u < length graphs → Sides demands u (graph_numbered graphs u) (graph_numbered middles u)) where
  abbrev pub codes : ℕ → Code
  codes = codes_in (graph_machines graphs)

  abbrev pub codes' : ℕ → Code
  codes' = codes_in (graph_machines middles)

  -- how many globals there are
  abbrev pub shared : ℕ
  shared = shared_in graphs

  -- frames of a unit that agree on what is wanted
  pub record InUnit (u : ℕ) (f g : Frame) : Type 0 where
    pub lt : u < length graphs
    pub beside : Beside (graph_numbered graphs u).nodes (graph_numbered graphs u).received (sides u lt).are.shifts (sides u lt).are.wanted f g

  -- answers that agree on what is asked of a unit
  abbrev pub Answered : ℕ → Answer → Answer → Type 0
  Answered u = AnswersAgree shared (λ x. width_at (list_at demands.backs u) x) (width_at (list_at demands.backs u) shared)

  -- two callers wait for the answer of the unit v
  pub record Waits (v : ℕ) (p q : Caller) : Type 0 where
    pub unit : q.unit ≡ p.unit
    pub into : q.into ≡ p.into
    pub goes_on : (a a' : Answer) → Answered v a a' → InUnit p.unit (resumed p.into a p.frame) (resumed q.into a' q.frame)

  -- below a frame of the unit v; below the last, all bits of the result are asked for
  abbrev pub Over : ℕ → List Caller → List Caller → Type 0
  Over v [] [] = 64 ≤ width_at (list_at demands.backs v) shared
  Over v (p ∷ ps) (q ∷ qs) = Waits v p q × Over p.unit ps qs
  Over v _ _ = ⊥

  -- they are as many
  as_high : (v : ℕ) (ps qs : List Caller) → Over v ps qs → length qs ≡ length ps
  as_high v [] [] over = refl
  as_high v (p ∷ ps) (q ∷ qs) over = ap suc (as_high p.unit ps qs over.1)
  as_high v [] (q ∷ qs) over = absurd over
  as_high v (p ∷ ps) [] over = absurd over

  -- stacks whose frames agree
  pub record Related (z : ℕ) (from from' : Stack) : Type 0 where
    pub unit : from'.unit ≡ from.unit
    pub frames : InUnit from.unit from.frame from'.frame
    pub callers : Over from.unit from.callers from'.callers

  -- One step of each side, by these transitions: they print the same, the second evaluates no more operators, they make
  -- as many frames, and they lead to where the two are abreast
  pub record StepsMeet (ps qs : List Caller) (u : ℕ) (t t' : Transition) : Type 0 where
    pub prints : printed_by t' ≡ printed_by t
    pub cheaper : counted_by t' ≤ counted_by t
    pub as_deep : frames_by qs t' ≡ frames_by ps t
    pub abreast : Abreast Related 0 (control_after u ps t) (control_after u qs t')

  -- ---- one step of each side

  module _ (u : ℕ) (lt : u < length graphs) (f g : Frame) (ps qs : List Caller) (over : Over u ps qs) where
    abbrev graph : GraphShape
    graph = graph_numbered graphs u

    abbrev side : Sides demands u (graph_numbered graphs u) (graph_numbered middles u)
    side = sides u lt

    abbrev S : Frame → Frame → Type 0
    S = Beside (graph_numbered graphs u).nodes (graph_numbered graphs u).received side.are.shifts side.are.wanted

    -- what a call that the first side makes is known by
    record CallsHere (called : ℕ) (entry : CallEntry) (into : Option ℕ) (next : Frame) : Type 0 where
      place : ℕ
      operands : List Operand
      to : ℕ
      here : slice_get graph.nodes place ≡ Some (Call into called operands to)
      entry_is : length entry.arguments ≡ length operands
      next_is : next.place ≡ to

    -- an answer leads to where the two are abreast
    answered : (a a' : Answer) → Answered u a a' → (ps qs : List Caller) → Over u ps qs → Abreast Related 0 (returned a ps) (returned a' qs)
    answered a a' agree [] [] over = agree_equal a.value a'.value agree.is.number agree.is'.number (agree_lower 64 (width_at (list_at demands.backs u) shared) a.value a'.value over agree.on_result)
    answered a a' agree (p ∷ ps) (q ∷ qs) over = record { unit = over.0.unit; frames = over.0.goes_on a a' agree; callers = over.1 }
    answered a a' agree [] (q ∷ qs) over = absurd over
    answered a a' agree (p ∷ ps) [] over = absurd over

    -- the graph has as many globals as the program
    alike : graph.shared ≡ shared
    alike = program.globals u lt

    steps_meet : (t t' : Transition) → AlikeBy (asked_at demands graph.shared u) graph.shared side.are.wanted S t t' → ((called : ℕ) (entry : CallEntry) (into : Option ℕ) (next : Frame) → t ≡ Calls called entry into next → CallsHere called entry into next)
        → StepsMeet ps qs u t t'
    steps_meet (Continues n next) (Continues m next') both calls = record {
      prints = refl;
      cheaper = both.0;
      as_deep = refl;
      abreast = record { unit = refl; frames = record { lt = lt; beside = both.1 }; callers = over };
    }
    steps_meet (Prints v next) (Prints w next') both calls = record {
      prints = ap (λ a. a ∷ []) (sym both.0);
      cheaper = le_refl 0;
      as_deep = refl;
      abreast = record { unit = refl; frames = record { lt = lt; beside = both.1 }; callers = over };
    }
    steps_meet (Calls called entry into next) (Calls called' entry' into' next') both calls =
        let there = calls called entry into next refl in
        let fits = program.calls u lt called (length there.operands) (record { number = there.place; node = Call into called there.operands there.to; here = there.here; calls = refl }) in
        let callee = sides called fits.0 in
        let can = program.are called fits.0 in
        let callee_shared : (graph_numbered graphs called).shared ≡ graph.shared = program.globals called fits.0 ∙ sym alike in
        let agree : EntriesAgree (graph_numbered graphs called).shared (λ x. width_at (list_at demands.globals called) x) (λ i. width_at (list_at demands.arguments called) i) entry entry' =
        subst (λ n. EntriesAgree n (λ x. width_at (list_at demands.globals called) x) (λ i. width_at (list_at demands.arguments called) i) entry entry') (sym callee_shared) both.2 in
        let is_entry : IsEntry (machine_of (graph_numbered graphs called)) entry = record { long = there.entry_is ∙ fits.1; numbers = agree.numbers; globals = agree.globals_are } in
        let is_entry' : IsEntry (machine_of (graph_numbered graphs called)) entry' = record { long = agree.long ∙ there.entry_is ∙ fits.1; numbers = agree.numbers'; globals = agree.globals_are' } in
        record {
          prints = refl;
          cheaper = le_refl 0;
          as_deep = ap (λ n. suc (suc n)) (as_high u ps qs over);
          abreast = record {
            unit = sym both.0;
            frames = record { lt = fits.0; beside = entered_beside (graph_numbered graphs called) can callee.are.shifts callee.are.wanted callee.are.shifts_hold (λ x. width_at (list_at demands.globals called) x) (λ i. width_at (list_at demands.arguments called) i) callee.globals callee.arguments entry entry' is_entry is_entry' agree };
            callers = (
              record {
                unit = refl;
                into = sym both.1;
                goes_on = λ a a' ask. record {
                  lt = lt;
                  beside = both.3 a a' (subst (λ n. IsCallAnswer n a) (sym alike) ask.is) (subst (λ n. IsCallAnswer n a') (sym alike) ask.is') (serve called entry into next there a a' ask);
                };
              },
              over,
            );
          };
        }
      where
        serve : (called : ℕ) (entry : CallEntry) (into : Option ℕ) (next : Frame) → CallsHere called entry into next → (a a' : Answer) → Answered called a a' → AnswersServe graph.shared into (side.are.wanted next.place) a a'
        serve called entry into next there a a' ask = record {
          on_result = λ y e.
              let here : slice_get graph.nodes there.place ≡ Some (Call (Some y) called there.operands there.to) = there.here ∙ ap (λ i. Some (Call i called there.operands there.to)) e in
              let enough = side.calls.on_result there.place y called there.operands there.to here in
              agree_lower (side.are.wanted next.place y) (width_at (list_at demands.backs called) shared) a.value a'.value
              (subst (λ p. side.are.wanted p y ≤ width_at (list_at demands.backs called) shared) (sym there.next_is) (subst (λ n. side.are.wanted there.to y ≤ width_at (list_at demands.backs called) n) alike enough)) ask.on_result;
          on_globals = λ x low off.
              let enough = side.calls.on_globals there.place into called there.operands there.to there.here x low off in
              agree_lower (side.are.wanted next.place x) (width_at (list_at demands.backs called) x) (slice_index_or a.globals x (pos 0)) (slice_index_or a'.globals x (pos 0))
              (subst (λ p. side.are.wanted p x ≤ width_at (list_at demands.backs called) x) (sym there.next_is) enough) (ask.on_globals x (subst (λ n. x < n) alike low));
        }
    steps_meet (Returns answer) (Returns answer') both calls =
        let agree : Answered u answer answer' = subst (λ n. AnswersAgree n (λ x. width_at (list_at demands.backs u) x) (width_at (list_at demands.backs u) n) answer answer') alike both in
        record { prints = refl; cheaper = le_refl 0; as_deep = refl; abreast = answered answer answer' agree ps qs over }
    steps_meet (Traps kind n) (Traps kind' m) both calls = record { prints = refl; cheaper = both.1; as_deep = refl; abreast = both.0 }
    steps_meet _ _ both calls = absurd both

    -- the call that the first side makes stands at its place
    call_here : f.place < length graph.nodes → (o : Option Node) → slice_get graph.nodes f.place ≡ o → (called : ℕ) (entry : CallEntry) (into : Option ℕ) (next : Frame) → node_transition graph.shared graph.received o f ≡ Calls called entry into next → CallsHere called entry into next
    call_here there None here called entry into next e = cc
    call_here there (Some (Start to)) here called entry into next e = cc
    call_here there (Some (Skip to)) here called entry into next e = cc
    call_here there (Some (Assign x rhs to)) here called entry into next e = absurd (no_call x rhs to f called entry into next e)
    call_here there (Some (Print a to)) here called entry into next e = cc
    call_here there (Some (Guard test number to)) here called entry into next e = absurd (no_guard_call test number to f called entry into next e)
    call_here there (Some (Call into' unit operands to)) here called entry into next e =
        let unit_is : unit ≡ called = cc e in
        let into_is : into' ≡ into = cc e in
        let next_is : at to f ≡ next = cc e in
        let entry_is : record { arguments = map (operand_value f.values) operands; globals = shared_values graph.shared f.values } ≡ entry = cc e in
        record {
          place = f.place;
          operands = operands;
          to = to;
          here = here ∙ ap (λ i. Some (Call i unit operands to)) into_is ∙ ap (λ v. Some (Call into v operands to)) unit_is;
          entry_is = ap (λ (n : CallEntry). length n.arguments) (sym entry_is) ∙ length-map operands (operand_value f.values);
          next_is = ap (λ (h : Frame). h.place) (sym next_is);
        }
    call_here there (Some (Test test taken other)) here called entry into next e = cc
    call_here there (Some (Return a)) here called entry into next e = cc

    -- one step from frames that stand beside one another
    pub one_step : Beside (graph_numbered graphs u).nodes (graph_numbered graphs u).received side.are.shifts side.are.wanted f g → StepsMeet ps qs u (codes u f) (codes' u g)
    one_step beside =
        let middle = graph_numbered middles u in
        let narrowed : codes' u g ≡ graph_code graph.shared graph.received middle.nodes g = ap (λ n. graph_code n middle.received middle.nodes g) side.shared ∙ ap (λ r. graph_code graph.shared r middle.nodes g) side.received in
        subst (StepsMeet ps qs u (codes u f)) (sym narrowed)
        (steps_meet (graph_code graph.shared graph.received graph.nodes f) (graph_code graph.shared graph.received middle.nodes g) (narrowed_steps (asked_at demands graph.shared u) graph (program.are u lt) middle.nodes side.are f g beside)
        (λ called entry into next e. call_here beside.there (slice_get graph.nodes f.place) refl called entry into next e))

  -- from stacks that are related
  pub related_step : (z : ℕ) (from from' : Stack) → Related z from from' → StepsMeet from.callers from'.callers from.unit (codes from.unit from.frame) (codes' from.unit from'.frame)
  related_step z from from' r = one_step from.unit r.frames.lt from.frame from'.frame from.callers from'.callers r.callers r.frames.beside

  -- related stacks meet again
  meets : (z : ℕ) (from from' : Stack) → Related z from from' → MeetsAgain Related codes codes' z from from'
  meets z from from' r =
      let t = codes from.unit from.frame in
      let t' = codes' from.unit from'.frame in
      let one = related_step z from from' r in
      let same : record { unit = from.unit; frame = from'.frame; callers = from'.callers } ≡ from' = ap (λ v. record { unit = v; frame = from'.frame; callers = from'.callers }) (sym r.unit) in
      subst (MeetsAgain Related codes codes' z from) same (record {
        steps = 1;
        steps' = 1;
        to = control_after from.unit from.callers t;
        to' = control_after from.unit from'.callers t';
        prints = printed_by t;
        counted = counted_by t;
        counted' = counted_by t';
        frames = frames_by from.callers t;
        frames' = frames_by from'.callers t';
        leads = leads_step codes from.unit from.frame from.callers t refl;
        leads' = subst (λ l. StepsLead codes' 1 (Running from.unit from'.frame from'.callers) (control_after from.unit from'.callers t') l (counted_by t') (frames_by from'.callers t')) one.prints (leads_step codes' from.unit from'.frame from'.callers t' refl);
        cheaper = one.cheaper;
        shallower = omega (arith, one.as_deep);
        measure = 0;
        abreast = one.abreast;
        moves = inl (omega arith);
        moves' = inl (omega arith);
      })

  -- the first frames are related
  pub starts_related : (entry : CallEntry) → IsEntry (graph_machines graphs 0) entry → Related 0 (first_stack entry) (first_stack entry)
  starts_related entry is =
      let first = sides 0 program.some in
      record {
        unit = refl;
        frames = record {
          lt = program.some;
          beside = entered_beside (graph_numbered graphs 0) (program.are 0 program.some) first.are.shifts first.are.wanted first.are.shifts_hold (λ x. width_at (list_at demands.globals 0) x) (λ i. width_at (list_at demands.arguments 0) i) first.globals first.arguments entry entry is is
              (record { long = refl; numbers = is.numbers; numbers' = is.numbers; globals_are = is.globals; globals_are' = is.globals; on_globals = λ x low. refl; on_arguments = λ i. refl });
        };
        callers = whole;
      }

  -- the program of the narrowed graphs is the same, evaluates no more operators and is never deeper
  pub narrowed_keep : MachinesKeep (graph_machines graphs) (graph_machines middles)
  narrowed_keep =
      let first = sides 0 program.some in
      stacks_keep (graph_machines graphs) (graph_machines middles) Related (record {
        receives = ap (λ (l : List ℕ). length l) (sym first.received);
        shared = sym first.shared;
        starts = λ entry is zero. (0, starts_related entry is);
        meets = meets;
      })
