-- The program of the graphs and that of the narrowed graphs run beside one another, a step for a step.
use Rattle.std.proofs.Common.{◌≡◌, ℕ, zero, suc, ◌+◌, ◌<◌, ◌≤◌, max, Bool, true, false, if◌then◌else◌, nat_lt, List, [], ◌∷◌, ◌++◌, length, replicate, slice_get, ℤ, pos, Option, Some, None, refl, sym, ap, ◌∙◌, subst, arith, le_refl, true≢false}
use Rattle.std.proofs.lemmas.Bool.{lt-ltb, ltb-true}
use Rattle.std.proofs.lemmas.List.{length-replicate}
use Rattle.std.proofs.lemmas.Option.{slice_get_within}
use Rattle.mir_base.specs.Frames.{Answer, Code, Values, with_first, with_result}
use Rattle.mir_base.specs.NumberLaws.{zero_fits}
use Rattle.mir_base.specs.Runs.{Caller, Control, Running, Ended, Stopped, State, first_entry, first_state, step, steps}
use Rattle.mir_base.specs.SharedLaws.{with_first_other}
use Rattle.mir_base.specs.UnitRuns.{IsCallAnswer}
use Rattle.flow_graph.specs.Graphs.{GraphShape}
use Rattle.mir_sim.specs.Machines.{AreInputs, codes_in, machines_run}
use Rattle.mir_sim.specs.StackLaws.{control_after, counted_by, first_enters, frames_by, leads_step, printed_by, zeros_fit}
use Rattle.mir_sim.specs.StackSimulations.{Abreast, Stack, state_with}
use Rattle.node_list.specs.Lists.{list_at}
use Rattle.program_pass.specs.GraphPrograms.{IsGraphProgram, graph_machines, graph_numbered, graph_or_empty, shared_in}
use Rattle.wanted_bits.specs.Agreement.{AgreeBelow, low_bits}
use Rattle.wanted_bits.specs.Asking.{width_at}
use Rattle.wanted_bits.specs.declared.picking.Shift.{Shift}
use Rattle.wanted_bits.specs.MostRemoved.{TellShifts}
use Rattle.wanted_bits.specs.NarrowedSteps.{AnswersAgree}
use Rattle.wanted_bits.specs.Walking.{is_into}
use Rattle.wanted_bits.specs.Wanted.{AreLeastWantedBy}
use Rattle.program_wanted.specs.Demands.{Demands, asked_at}
use Rattle.program_wanted.specs.DemandStacks.{LeastSides, Over, Related, Sides, Waits, related_step, starts_related}
use Rattle.program_wanted.specs.NarrowedUnits.{AreUnitNumbers}
use Rattle.program_wanted.specs.ProgramRuns.{AllCallersAgree, CallersAgree, ControlsAgree, StatesAgree}
use denote.Struct.Props.{props}

-- what an answer does not set stays: a variable that is no global, and to which the result does not go
answer_keeps : (into : Option ℕ) (a : Answer) (v : Values) (x : ℕ) → length a.globals ≤ x → is_into x into ≡ false → with_result into a.value (with_first a.globals v) x ≡ v x
answer_keeps None a v x past off = with_first_other a.globals v x past
answer_keeps (Some y) a v x past off = ap (λ b. if b then a.value else with_first a.globals v x) off ∙ with_first_other a.globals v x past

module _ (graphs middles : List GraphShape) (program : IsGraphProgram graphs) (demands : Demands) (whole : 64 ≤ width_at (list_at demands.backs 0) (shared_in graphs)) (least : (u : ℕ) → u < length graphs → LeastSides demands u (graph_numbered graphs u) (graph_numbered middles u)) where
  -- each graph beside what it is narrowed to
  abbrev sides : (u : ℕ) → u < length graphs → Sides demands u (graph_numbered graphs u) (graph_numbered middles u)
  sides u lt = (least u lt).sides

  abbrev codes : ℕ → Code
  codes = codes_in (graph_machines graphs)

  abbrev codes' : ℕ → Code
  codes' = codes_in (graph_machines middles)

  -- how many globals there are
  abbrev shared : ℕ
  shared = shared_in graphs

  -- stacks whose frames agree
  abbrev R : ℕ → Stack → Stack → Type 0
  R = Related graphs middles program demands whole sides

  -- ---- as many steps of both

  -- both have printed the same, the second has evaluated no more, they have been as deep, and the frames agree
  record StandBeside (s s' : State) : Type 0 where
    printed : s'.printed ≡ s.printed
    counted : s'.counted ≤ s.counted
    depth : s'.depth ≡ s.depth
    control : Abreast R 0 s.control s'.control

  -- one step of both
  one_beside : (c c' : Control) (p p' : List ℤ) (m m' d d' : ℕ) → Abreast R 0 c c' → p' ≡ p → m' ≤ m → d' ≡ d → StandBeside (steps codes 1 (state_with p c m d)) (steps codes' 1 (state_with p' c' m' d'))
  one_beside (Running u f ps) (Running v g qs) p p' m m' d d' on prints few deep =
      let one = related_step graphs middles program demands whole sides 0 (record { unit = u; frame = f; callers = ps }) (record { unit = v; frame = g; callers = qs }) on in
      let left = leads_step codes u f ps (codes u f) refl p m d in
      let right = leads_step codes' u g qs (codes' u g) refl p' m' d' in
      subst (λ w. StandBeside (steps codes 1 (state_with p (Running u f ps) m d)) (steps codes' 1 (state_with p' (Running w g qs) m' d'))) (sym on.unit)
      (subst (λ s. StandBeside s (steps codes' 1 (state_with p' (Running u g qs) m' d'))) (sym left)
      (subst (StandBeside (state_with (p ++ printed_by (codes u f)) (control_after u ps (codes u f)) (m + counted_by (codes u f)) (max d (frames_by ps (codes u f))))) (sym right)
      (record {
        printed = ap (λ l. l ++ printed_by (codes' u g)) prints ∙ ap (λ l. p ++ l) one.prints;
        counted = omega (arith, few, one.cheaper);
        depth = ap (λ n. max n (frames_by qs (codes' u g))) deep ∙ ap (max d) one.as_deep;
        control = one.abreast;
      })))
  one_beside (Ended result) (Ended result') p p' m m' d d' on prints few deep = record { printed = prints; counted = few; depth = deep; control = on }
  one_beside (Stopped kind) (Stopped kind') p p' m m' d d' on prints few deep = record { printed = prints; counted = few; depth = deep; control = on }
  one_beside _ _ p p' m m' d d' on prints few deep = absurd on

  -- so many
  go_beside : (n : ℕ) (s s' : State) → StandBeside s s' → StandBeside (steps codes n s) (steps codes' n s')
  go_beside zero s s' on = on
  go_beside (suc n) s s' on = go_beside n (step codes s) (step codes' s') (one_beside s.control s'.control s.printed s'.printed s.counted s'.counted s.depth s'.depth on.control on.printed on.counted on.depth)

  -- from the start
  runs_beside : (inputs : List ℤ) (n : ℕ) → AreInputs (graph_machines graphs) inputs → StandBeside (machines_run (graph_machines graphs) inputs n) (machines_run (graph_machines middles) inputs n)
  runs_beside inputs n are =
      let count = (graph_numbered graphs 0).shared in
      let begins : StandBeside (first_state count inputs) (first_state count inputs) = record { printed = refl; counted = le_refl 0; depth = refl; control = starts_related graphs middles program demands whole sides (first_entry count inputs) (first_enters (graph_machines graphs) inputs are) } in
      go_beside n (first_state count inputs) (first_state (graph_numbered middles 0).shared inputs)
      (subst (λ k. StandBeside (first_state count inputs) (first_state k inputs)) (sym (sides 0 program.some).shared) begins)

  -- ---- the numbers of each unit

  -- by what it is told whether there is such a unit
  abbrev shifts_by : (u : ℕ) (b : Bool) → nat_lt u (length graphs) ≡ b → ℕ → ℕ → Option Shift
  shifts_by u true e = (sides u (ltb-true u (length graphs) e)).are.shifts
  shifts_by u false e = λ n t. None

  abbrev wanted_by : (u : ℕ) (b : Bool) → nat_lt u (length graphs) ≡ b → ℕ → ℕ → ℕ
  wanted_by u true e = (sides u (ltb-true u (length graphs) e)).are.wanted
  wanted_by u false e = λ n x. 0

  -- the shifts, and the bits that are wanted
  abbrev pub unit_shifts : ℕ → ℕ → ℕ → Option Shift
  unit_shifts u = shifts_by u (nat_lt u (length graphs)) refl

  abbrev pub unit_wanted : ℕ → ℕ → ℕ → ℕ
  unit_wanted u = wanted_by u (nat_lt u (length graphs)) refl

  -- they are those of its graph
  shifts_are : (u : ℕ) (lt : u < length graphs) (b : Bool) (e : nat_lt u (length graphs) ≡ b) → (sides u lt).are.shifts ≡ shifts_by u b e
  shifts_are u lt true e =
      let one : IsProp (u < length graphs) = hlevel props in
      ap (λ (l : u < length graphs). (sides u l).are.shifts) (one lt (ltb-true u (length graphs) e))
  shifts_are u lt false e = absurd (true≢false (sym (lt-ltb u (length graphs) lt) ∙ e))

  wanted_are : (u : ℕ) (lt : u < length graphs) (b : Bool) (e : nat_lt u (length graphs) ≡ b) → (sides u lt).are.wanted ≡ wanted_by u b e
  wanted_are u lt true e =
      let one : IsProp (u < length graphs) = hlevel props in
      ap (λ (l : u < length graphs). (sides u l).are.wanted) (one lt (ltb-true u (length graphs) e))
  wanted_are u lt false e = absurd (true≢false (sym (lt-ltb u (length graphs) lt) ∙ e))

  shifts_is : (u : ℕ) (lt : u < length graphs) → (sides u lt).are.shifts ≡ unit_shifts u
  shifts_is u lt = shifts_are u lt (nat_lt u (length graphs)) refl

  wanted_is : (u : ℕ) (lt : u < length graphs) → (sides u lt).are.wanted ≡ unit_wanted u
  wanted_is u lt = wanted_are u lt (nat_lt u (length graphs)) refl

  -- the graph of a number
  graph_is : (u : ℕ) (graph : GraphShape) → slice_get graphs u ≡ Some graph → graph_numbered graphs u ≡ graph
  graph_is u graph at = ap (graph_or_empty shared) at

  -- so they are the least
  pub unit_numbers : AreUnitNumbers graphs demands unit_shifts unit_wanted
  unit_numbers = record {
    tell = λ u graph at.
        let lt = slice_get_within graphs u graph at in
        subst (λ g. TellShifts g (unit_shifts u)) (graph_is u graph at) (subst (TellShifts (graph_numbered graphs u)) (shifts_is u lt) (least u lt).tell);
    least = λ u graph at.
        let lt = slice_get_within graphs u graph at in
        subst (λ g. AreLeastWantedBy (asked_at demands g.shared u) g (unit_shifts u) (unit_wanted u)) (graph_is u graph at)
        (subst (λ s. AreLeastWantedBy (asked_at demands (graph_numbered graphs u).shared u) (graph_numbered graphs u) s (unit_wanted u)) (shifts_is u lt)
        (subst (λ w. AreLeastWantedBy (asked_at demands (graph_numbered graphs u).shared u) (graph_numbered graphs u) (sides u lt).are.shifts w) (wanted_is u lt) (least u lt).least));
  }

  -- ---- the frames

  -- an answer of zeros agrees with itself
  abbrev zero_answer : Answer
  zero_answer = record { value = pos 0; globals = replicate shared (pos 0) }

  zero_is : IsCallAnswer shared zero_answer
  zero_is = record { number = zero_fits; globals = zeros_fit shared }

  zero_agrees : (v : ℕ) → AnswersAgree shared (λ x. width_at (list_at demands.backs v) x) (width_at (list_at demands.backs v) shared) zero_answer zero_answer
  zero_agrees v = record { is = zero_is; is' = zero_is; on_result = refl; on_globals = λ x low. refl }

  -- two frames that wait agree on what no answer sets
  caller_agrees : (v : ℕ) (p q : Caller) → Waits graphs middles program demands whole sides v p q → CallersAgree shared unit_wanted p q
  caller_agrees v p q waits =
      let on = waits.goes_on zero_answer zero_answer (zero_agrees v) in
      record {
        unit = waits.unit;
        into = waits.into;
        place = on.beside.same;
        values = λ x past off.
            let far : length zero_answer.globals ≤ x = omega (arith, past, length-replicate {A = ℤ} shared (pos 0)) in
            let keeps = answer_keeps p.into zero_answer p.frame.values x far off in
            let keeps' = answer_keeps q.into zero_answer q.frame.values x far (ap (is_into x) waits.into ∙ off) in
            subst (λ (w : ℕ → ℕ → ℕ). AgreeBelow (w p.frame.place x) (p.frame.values x) (q.frame.values x)) (wanted_is p.unit on.lt)
            (let k = (sides p.unit on.lt).are.wanted p.frame.place x in ap (low_bits k) (sym keeps) ∙ on.beside.agree x ∙ ap (low_bits k) keeps');
      }

  callers_agree : (v : ℕ) (ps qs : List Caller) → Over graphs middles program demands whole sides v ps qs → AllCallersAgree shared unit_wanted ps qs
  callers_agree v [] [] over = tt
  callers_agree v (p ∷ ps) (q ∷ qs) over = (caller_agrees v p q over.0, callers_agree p.unit ps qs over.1)
  callers_agree v [] (q ∷ qs) over = absurd over
  callers_agree v (p ∷ ps) [] over = absurd over

  -- and all frames agree
  controls_agree : (c c' : Control) → Abreast R 0 c c' → ControlsAgree shared unit_wanted c c'
  controls_agree (Running u f ps) (Running v g qs) on = (
    on.unit,
    record {
      place = on.frames.beside.same;
      values = λ x. subst (λ (w : ℕ → ℕ → ℕ). AgreeBelow (w f.place x) (f.values x) (g.values x)) (wanted_is u on.frames.lt) (on.frames.beside.agree x);
    },
    callers_agree u ps qs on.callers,
  )
  controls_agree (Ended result) (Ended result') on = sym on
  controls_agree (Stopped kind) (Stopped kind') on = sym on
  controls_agree _ _ on = absurd on

  pub runs_agree : (inputs : List ℤ) (n : ℕ) → AreInputs (graph_machines graphs) inputs → StatesAgree shared unit_wanted (machines_run (graph_machines graphs) inputs n) (machines_run (graph_machines middles) inputs n)
  runs_agree inputs n are =
      let on = runs_beside inputs n are in
      record { printed = on.printed; counted = on.counted; depth = on.depth; control = controls_agree (machines_run (graph_machines graphs) inputs n).control (machines_run (graph_machines middles) inputs n).control on.control }
