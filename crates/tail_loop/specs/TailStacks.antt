-- Self tail calls as loops keep a program of graphs: each stack of the result is the source's without the frames that
-- wait at self tail calls. For proofs only.
use Rattle.std.proofs.Common.{◌≡◌, ◌⊎◌, inl, inr, ℕ, suc, ◌+◌, ◌<◌, ◌≤◌, List, [], ◌∷◌, length, map, flat_map, slice_get, get_or, ℤ, Option, Some, None, refl, sym, ap, ◌∙◌, subst, arith, le_refl}
use Rattle.std.specs.Prelude.{max}
use Rattle.std.proofs.lemmas.Bool.{cases_eq}
use Rattle.std.proofs.lemmas.Option.{slice_get_within, slice_get-get_or}
use Rattle.mir_base.specs.declared.instructions.Operand.{Operand}
use Rattle.mir_base.specs.BelowLaws.{all_below_right}
use Rattle.mir_base.specs.EqualValues.{with_other, with_same}
use Rattle.mir_base.specs.Frames.{Answer, CallEntry, Code, Frame, first_frame, Continues, Calls, Returns, Values, all_zero, resumed, shared_values, with_first, with_value}
use Rattle.mir_base.specs.Runs.{Caller, Control, Running, Ended, returned}
use Rattle.mir_base.specs.Shapes.{into_vars, operand_vars}
use Rattle.mir_base.specs.SharedLaws.{shared_equal, shared_long}
use Rattle.mir_base.specs.Units.{at, operand_value}
use Rattle.flow_graph.specs.declared.nodes.Node.{Node}
use Rattle.flow_graph.specs.declared.nodes.Node.TheVariants.{Start, Call}
use Rattle.flow_graph.specs.Graphs.{GraphShape, succs_of}
use Rattle.graph_edit.specs.InsertionRuns.{values_after}
use Rattle.flow_graph.specs.MachineLaws.{first_shared}
use Rattle.flow_graph.specs.Machines.{node_transition, received_from}
use Rattle.flow_graph.specs.Numbering.{IsIn}
use Rattle.flow_graph.specs.Plans.{start_succ}
use Rattle.mir_sim.specs.Machines.{MachinesKeep, codes_in}
use Rattle.mir_sim.specs.StackLaws.{leads_nowhere, leads_silently, leads_step, leads_trans, stacks_keep}
use Rattle.mir_sim.specs.StackSimulations.{Abreast, StepsLead, MeetsAgain, Stack}
use Rattle.program_pass.specs.Chains.{stood}
use Rattle.program_pass.specs.ChainLaws.{StandsAt, gone_on, skips_silently, stands_moves, stands_silently, stood_kept, stood_long, stood_stands}
use Rattle.program_pass.specs.GraphPrograms.{IsGraphProgram, graph_numbered, graph_machines, shared_in}
use Rattle.program_pass.specs.GraphProgramLaws.{Agree, answers_long, called_exists, node_together, onward_agree, resumed_agree}
use Rattle.tail_loop.specs.LoopValues.{loop_plain, loop_values}
use Rattle.program_pass.specs.StepLaws.{OneStepEach, steps_meet}
use Rattle.tail_loop.specs.Tails.{AreLooped, IsTailCall, Loops, ReturnsNext, loop_assignments}
use Rattle.flow_graph.specs.MemberLaws.{in_or_not, place_of_member}

-- ---- the nodes with loops

module _ (graph : GraphShape) (unit : ℕ) where
  -- all nodes stay but these calls
  looped_kept : (calls : List ℕ) (nodes looped : List Node) → AreLooped graph unit calls nodes looped → (m : ℕ)
      → m < length nodes → (IsIn m calls → ⊥) → slice_get looped m ≡ slice_get nodes m
  looped_kept [] nodes looped are m lt out = ap (λ l. slice_get l m) are
  looped_kept (n ∷ calls) nodes looped are m lt out =
      let puts = loop_assignments graph.shared (length graph.vars) graph.received are.0 in
      let end = start_succ (slice_get graph.nodes 0) in
      looped_kept calls (stood nodes n puts end) looped are.2 m (omega (arith, lt, stood_long nodes n puts end)) (λ there. out (inr there))
      ∙ stood_kept nodes n puts end m (λ same. out (inl (sym same))) lt

  -- a self tail call whose assignments stand in its place
  record Stands (looped : List Node) (n : ℕ) : Type 0 where
    operands : List Operand
    call : IsTailCall graph.shared graph.nodes unit n operands
    fresh : ℕ
    stands : StandsAt looped n fresh (loop_assignments graph.shared (length graph.vars) graph.received operands) (start_succ (slice_get graph.nodes 0))

  -- none of the numbers is one of those after it
  abbrev Apart : List ℕ → Type 0
  Apart [] = Unit {0}
  Apart (n ∷ calls) = (IsIn n calls → ⊥) × Apart calls

  -- the assignments of each of these calls stand in its place
  looped_stands : (calls : List ℕ) (nodes looped : List Node) → Apart calls
      → ((n : ℕ) → IsIn n calls → n < length nodes) → AreLooped graph unit calls nodes looped → (n : ℕ) → IsIn n calls
      → Stands looped n
  looped_stands [] nodes looped apart within are n there = absurd there
  looped_stands (m ∷ calls) nodes looped apart within are n (inl same) =
      let puts = loop_assignments graph.shared (length graph.vars) graph.received are.0 in
      let end = start_succ (slice_get graph.nodes 0) in
      let lt : m < length nodes = within m (inl refl) in
      let more = stood_long nodes m puts end in
      subst (Stands looped) same (record {
        operands = are.0;
        call = are.1;
        fresh = length nodes;
        stands = stands_moves (stood nodes m puts end) looped m (length nodes) puts end
            (looped_kept calls (stood nodes m puts end) looped are.2 m (omega (arith, lt, more)) apart.0)
            (λ k ge lt'. looped_kept calls (stood nodes m puts end) looped are.2 k lt' (λ there. let low = within k (inr there) in absurd (omega (arith, low, ge))))
            (stood_stands nodes m puts end lt);
      })
  looped_stands (m ∷ calls) nodes looped apart within are n (inr there) =
      let puts = loop_assignments graph.shared (length graph.vars) graph.received are.0 in
      let end = start_succ (slice_get graph.nodes 0) in
      looped_stands calls (stood nodes m puts end) looped apart.1 (λ k there'. let lt = within k (inr there') in omega (arith, lt, stood_long nodes m puts end)) are.2 n there

  -- numbers in order are apart
  ordered_apart : (calls : List ℕ) → ((i j m n : ℕ) → i < j → slice_get calls i ≡ Some m → slice_get calls j ≡ Some n → m < n) → Apart calls
  ordered_apart [] ordered = tt
  ordered_apart (x ∷ calls) ordered = (
    λ there. let r = place_of_member x calls there in let lt = ordered 0 (suc r.0) x x (omega arith) refl r.1 in absurd (omega (arith, lt)),
    ordered_apart calls (λ i j m n lt. ordered (suc i) (suc j) m n (omega (arith, lt))),
  )

module _ (graphs looped : List GraphShape) (program : IsGraphProgram graphs) (loops : (u : ℕ) → u < length graphs → Loops (graph_numbered graphs u) u (graph_numbered looped u)) where
  abbrev codes : ℕ → Code
  codes = codes_in (graph_machines graphs)

  abbrev codes' : ℕ → Code
  codes' = codes_in (graph_machines looped)

  -- frames of the unit of this number agree
  abbrev AgreeIn : ℕ → Frame → Frame → Type 0
  AgreeIn u f g = Agree (length (graph_numbered graphs u).vars) (length (graph_numbered graphs u).nodes) f g

  -- ---- stacks

  -- a caller that stands in both stacks
  record SameCaller (p q : Caller) : Type 0 where
    there : p.unit < length graphs
    unit : q.unit ≡ p.unit
    into : q.into ≡ p.into
    frames : AgreeIn p.unit p.frame q.frame

  -- a caller that waits at a self tail call: it returns what it is answered
  record Waits (p : Caller) : Type 0 where
    variable : ℕ
    into : p.into ≡ Some variable
    there : p.unit < length graphs
    own : (graph_numbered graphs p.unit).shared ≤ variable
    next : ReturnsNext (graph_numbered graphs p.unit).nodes p.frame.place variable

  -- the second callers are the first without those that wait at a self tail call
  abbrev Over : List Caller → List Caller → Type 0
  Over [] [] = Unit {0}
  Over [] (q ∷ qs) = ⊥
  Over (p ∷ ps) [] = Waits p × Over ps []
  Over (p ∷ ps) (q ∷ qs) = (SameCaller p q × Over ps qs) ⊎ (Waits p × Over ps (q ∷ qs))

  -- one more caller that waits stands above where the rest does
  over_waits : (p : Caller) (ps qs : List Caller) → Waits p → Over ps qs → Over (p ∷ ps) qs
  over_waits p ps [] waits over = (waits, over)
  over_waits p ps (q ∷ qs) waits over = inr (waits, over)

  -- the second stack is no higher
  no_higher : (ps qs : List Caller) → Over ps qs → length qs ≤ length ps
  no_higher [] [] over = omega arith
  no_higher [] (q ∷ qs) over = absurd over
  no_higher (p ∷ ps) [] over = omega arith
  no_higher (p ∷ ps) (q ∷ qs) (inl both) = omega (arith, no_higher ps qs both.1)
  no_higher (p ∷ ps) (q ∷ qs) (inr waits) = omega (arith, no_higher ps (q ∷ qs) waits.1)

  -- the running frames agree, and the second callers are the first without those that wait
  record Related (z : ℕ) (from from' : Stack) : Type 0 where
    there : from.unit < length graphs
    unit : from'.unit ≡ from.unit
    frames : AgreeIn from.unit from.frame from'.frame
    callers : Over from.callers from'.callers

  -- ---- returns

  -- an answer that the first side hands back goes on until a caller that stands in both, or the end
  record Unwound (answer : Answer) (ps qs : List Caller) : Type 0 where
    steps : ℕ
    to : Control
    leads : StepsLead codes steps (returned answer ps) to [] 0 0
    abreast : Abreast Related 0 to (returned answer qs)

  -- how many globals there are
  abbrev shared : ℕ
  shared = shared_in graphs

  -- the globals that were handed back to one that waits are those that it hands back
  globals_back : (answer : Answer) (x : ℕ) (values : Values) → length answer.globals ≡ shared → shared ≤ x
      → shared_values shared (with_value x answer.value (with_first answer.globals values)) ≡ answer.globals
  globals_back answer x values long own =
      shared_equal shared shared (with_value x answer.value (with_first answer.globals values)) (with_first answer.globals values) (le_refl shared) (λ y lt. with_other x y answer.value (with_first answer.globals values) (λ same. omega (arith, same, lt, own)))
      ∙ first_shared shared answer.globals values long

  -- one that waits hands the answer on
  waiting_returns : (answer : Answer) (p : Caller) (ps : List Caller) → length answer.globals ≡ shared → Waits p
      → (k : ℕ) × StepsLead codes k (returned answer (p ∷ ps)) (returned answer ps) [] 0 0
  waiting_returns answer p ps long waits =
      let graph = graph_numbered graphs p.unit in
      let alike : graph.shared ≡ shared = program.globals p.unit waits.there in
      let x = waits.variable in
      let back : Frame = resumed (Some x) answer p.frame in
      let there : Frame = at waits.next.there back in
      let silent = skips_silently graph.shared graph.received graph.nodes waits.next.skips.count p.frame.place waits.next.there back refl waits.next.skips.skips in
      let first = leads_silently codes p.unit waits.next.skips.count back there 0 ps silent in
      let globals : shared_values graph.shared there.values ≡ answer.globals = ap (λ n. shared_values n there.values) alike ∙ globals_back answer x p.frame.values long (let own = waits.own in omega (arith, own, alike)) in
      let value : record { value = there.values x; globals = shared_values graph.shared there.values } ≡ answer = ap (λ v. record { value = v; globals = shared_values graph.shared there.values }) (with_same x answer.value (with_first answer.globals p.frame.values)) ∙ ap (λ zs. record { value = answer.value; globals = zs }) globals in
      let is : codes p.unit there ≡ Returns answer = ap (λ o. node_transition graph.shared graph.received o there) waits.next.returns ∙ ap Returns value in
      let last = leads_step codes p.unit there ps (Returns answer) is in
      let all = leads_trans codes waits.next.skips.count 1 (Running p.unit back ps) (Running p.unit there ps) (returned answer ps) [] [] 0 0 0 0 first last in (
        waits.next.skips.count + 1,
        subst (λ i. StepsLead codes (waits.next.skips.count + 1) (Running p.unit (resumed i answer p.frame) ps) (returned answer ps) [] 0 0) (sym waits.into) all,
      )

  -- after one that waits
  unwound_more : (answer : Answer) (p : Caller) (ps qs : List Caller) → length answer.globals ≡ shared → Waits p
      → Unwound answer ps qs → Unwound answer (p ∷ ps) qs
  unwound_more answer p ps qs long waits u =
      let first = waiting_returns answer p ps long waits in
      record {
        steps = first.0 + u.steps;
        to = u.to;
        leads = leads_trans codes first.0 u.steps (returned answer (p ∷ ps)) (returned answer ps) u.to [] [] 0 0 0 0 first.1 u.leads;
        abreast = u.abreast;
      }

  unwound : (answer : Answer) (ps qs : List Caller) → length answer.globals ≡ shared → Over ps qs → Unwound answer ps qs
  unwound answer [] [] long over = record { steps = 0; to = Ended answer.value; leads = leads_nowhere codes (Ended answer.value); abreast = refl }
  unwound answer [] (q ∷ qs) long over = absurd over
  unwound answer (p ∷ ps) [] long over = unwound_more answer p ps [] long over.0 (unwound answer ps [] long over.1)
  unwound answer (p ∷ ps) (q ∷ qs) long (inl both) = record {
    steps = 0;
    to = returned answer (p ∷ ps);
    leads = leads_nowhere codes (returned answer (p ∷ ps));
    abreast = record {
      there = both.0.there;
      unit = both.0.unit;
      frames = subst (λ i. AgreeIn p.unit (resumed p.into answer p.frame) (resumed i answer q.frame)) (sym both.0.into)
          (resumed_agree (length (graph_numbered graphs p.unit).vars) (length (graph_numbered graphs p.unit).nodes) p.into answer p.frame q.frame both.0.frames);
      callers = both.1;
    };
  }
  unwound answer (p ∷ ps) (q ∷ qs) long (inr waits) = unwound_more answer p ps (q ∷ qs) long waits.0 (unwound answer ps (q ∷ qs) long waits.1)

  -- ---- one step of each side

  -- frames that a call enters agree
  entered_agree : (u : ℕ) (entry : CallEntry) → u < length graphs → AgreeIn u (first_frame entry) (first_frame entry)
  entered_agree u entry lt =
      let start = (program.are u lt).start in
      record { place = refl; within = slice_get_within (graph_numbered graphs u).nodes 0 (Start start.0) start.1; values = λ x lt'. refl; arguments = λ none. refl }

  -- what the rule for one step of each asks for
  can_step : OneStepEach codes shared Related (λ u. u < length graphs) AgreeIn Over
  can_step = record {
    no_higher = no_higher;
    related = λ u f g ps qs lt agree over. record { there = lt; unit = refl; frames = agree; callers = over };
    called = λ u called entry into f g ps qs lt lt' agree over. record { there = lt'; unit = refl; frames = entered_agree called entry lt'; callers = inl (record { there = lt; unit = refl; into = refl; frames = agree }, over) };
    answered = λ answer ps qs long over. let u = unwound answer ps qs long over in (u.steps, u.to, u.leads, u.abreast);
  }

  -- ---- a self tail call

  -- the call and the receives of the new frame stand for the assignments
  tail_meets : (z u : ℕ) (f g : Frame) (ps qs : List Caller) → (lt : u < length graphs) → Over ps qs → AgreeIn u f g → IsIn f.place (loops u lt).calls
      → MeetsAgain Related codes codes' z (record { unit = u; frame = f; callers = ps }) (record { unit = u; frame = g; callers = qs })
  tail_meets z u f g ps qs lt over agree there =
      let graph = graph_numbered graphs u in
      let loop = loops u lt in
      let calls_within = λ (n : ℕ) (is : IsIn n loop.calls). let c = loop.are_calls.are n is in slice_get_within graph.nodes n (Call (Some c.1.into) u c.0 c.1.next) c.1.is in
      let stood_there = looped_stands graph u loop.calls graph.nodes (graph_numbered looped u).nodes (ordered_apart graph u loop.calls loop.are_calls.ordered) calls_within loop.are_looped f.place there in
      let operands = stood_there.operands in
      let call = stood_there.call in
      let can = program.are u lt in
      let least = (program.shares u lt).count in
      let start = can.start in
      let after = can.succs 0 0 start.0 (ap (λ o. slice_get (succs_of o) 0) start.1) in
      let arguments : List ℤ = map (operand_value f.values) operands in
      let entry : CallEntry = record { arguments = arguments; globals = shared_values graph.shared f.values } in
      let waiting : Caller = record { unit = u; into = Some call.into; frame = at call.next f } in
      let received_frame : Frame = record { place = start.0; arguments = arguments; values = received_from 0 graph.received arguments (with_first (shared_values graph.shared f.values) all_zero) } in
      let is : codes u f ≡ Calls u entry (Some call.into) (at call.next f) = ap (λ o. node_transition graph.shared graph.received o f) call.is in
      let globals : shared_values graph.shared (with_first entry.globals all_zero) ≡ entry.globals = first_shared graph.shared entry.globals all_zero (shared_long graph.shared f.values) in
      let is0 : codes u (first_frame entry) ≡ Continues 0 received_frame = ap (λ o. node_transition graph.shared graph.received o (first_frame entry)) start.1
      ∙ ap (λ zs. Continues 0 (record { place = start.0; arguments = arguments; values = received_from 0 graph.received arguments (with_first zs all_zero) })) globals in
      let two = leads_trans codes 1 1 (Running u f ps) (Running u (first_frame entry) (waiting ∷ ps)) (Running u received_frame (waiting ∷ ps)) [] [] 0 0 (suc (suc (length ps))) 0
      (leads_step codes u f ps (Calls u entry (Some call.into) (at call.next f)) is) (leads_step codes u (first_frame entry) (waiting ∷ ps) (Continues 0 received_frame) is0) in
      let looped_u = graph_numbered looped u in
      let puts = loop_assignments graph.shared (length graph.vars) graph.received operands in
      let to_start : start_succ (slice_get graph.nodes 0) ≡ start.0 = ap start_succ start.1 in
      let stands = subst (StandsAt looped_u.nodes f.place stood_there.fresh puts) to_start stood_there.stands in
      let run = stands_silently looped_u.shared looped_u.received looped_u.nodes f.place stood_there.fresh puts start.0 stands (loop_plain graph.shared (length graph.vars) graph.received operands) g agree.place in
      let there' : Frame = gone_on start.0 (values_after puts g.values) g in
      let below = can.below f.place (Call (Some call.into) u operands call.next) call.is in
      let fits = program.calls u lt u (length operands) (record { number = f.place; node = Call (Some call.into) u operands call.next; here = call.is; calls = refl }) in
      let equal = loop_values graph.shared (length graph.vars) graph.received operands f.values g.values can.received_below (all_below_right (length graph.vars) (into_vars (Some call.into)) (flat_map operand_vars operands) below) fits.1 agree.values in
      record {
        steps = 1 + 1;
        steps' = run.0;
        to = Running u received_frame (waiting ∷ ps);
        to' = Running u there' qs;
        prints = [];
        counted = 0;
        counted' = 0;
        frames = max (suc (suc (length ps))) 0;
        frames' = 0;
        leads = two;
        leads' = leads_silently codes' u run.0 g there' 0 qs run.2;
        cheaper = le_refl 0;
        shallower = omega arith;
        measure = 0;
        abreast = record {
          there = lt;
          unit = refl;
          frames = onward_agree graph.shared (length graph.vars) least graph.received (length graph.nodes) start.0 received_frame there' after.0 after.1 refl refl (λ x lt'. sym (equal x lt'));
          callers = over_waits waiting ps qs (record { variable = call.into; into = refl; there = lt; own = call.own; next = call.returned }) over;
        };
        moves = inl (omega arith);
        moves' = inl run.1;
      }

  -- ---- any step

  -- a node that stays
  node_meets : (z u : ℕ) (f g : Frame) (ps qs : List Caller) (o : Option Node) → (lt : u < length graphs) → Over ps qs
      → AgreeIn u f g → slice_get (graph_numbered graphs u).nodes f.place ≡ o → (IsIn f.place (loops u lt).calls → ⊥)
      → MeetsAgain Related codes codes' z (record { unit = u; frame = f; callers = ps }) (record { unit = u; frame = g; callers = qs })
  node_meets z u f g ps qs None lt over agree here out = absurd (past (slice_get-get_or (graph_numbered graphs u).nodes f.place (Start 0) agree.within))
    where
      past : slice_get (graph_numbered graphs u).nodes f.place ≡ Some (get_or (graph_numbered graphs u).nodes f.place (Start 0)) → ⊥
      past e = let both : None ≡ Some (get_or (graph_numbered graphs u).nodes f.place (Start 0)) = sym here ∙ e in cc
  node_meets z u f g ps qs (Some node) lt over agree here out =
      let graph = graph_numbered graphs u in
      let looped_u = graph_numbered looped u in
      let can = program.are u lt in
      let kept : slice_get looped_u.nodes g.place ≡ Some node = ap (slice_get looped_u.nodes) agree.place ∙ looped_kept graph u (loops u lt).calls graph.nodes looped_u.nodes (loops u lt).are_looped f.place agree.within out ∙ here in
      let is : codes u f ≡ node_transition graph.shared graph.received (Some node) f = ap (λ o. node_transition graph.shared graph.received o f) here in
      let is' : codes' u g ≡ node_transition graph.shared graph.received (Some node) g = ap (λ o. node_transition looped_u.shared looped_u.received o g) kept
      ∙ ap (λ n. node_transition n looped_u.received (Some node) g) (loops u lt).shared ∙ ap (λ r. node_transition graph.shared r (Some node) g) (loops u lt).received in
      steps_meet codes codes' shared Related (λ v. v < length graphs) AgreeIn Over can_step z u f g ps qs (node_transition graph.shared graph.received (Some node) f) (node_transition graph.shared graph.received (Some node) g) lt over is is'
      (node_together graph.shared (length graph.vars) (program.shares u lt).count graph.received (length graph.nodes) node f g
      (λ slot s edge. can.succs f.place slot s (ap (λ o. slice_get (succs_of o) slot) here ∙ edge))
      (can.below f.place node here)
      (λ s start. can.only f.place s (here ∙ ap Some start))
      agree)
      (called_exists graphs graph (program.calls u lt) graph.shared graph.received node f.place f here)
      (λ answer returns. answers_long graph.shared graph.received node f answer returns ∙ program.globals u lt)

  -- related stacks meet again
  meets : (z : ℕ) (from from' : Stack) → Related z from from' → MeetsAgain Related codes codes' z from from'
  meets z from from' r =
      let same : record { unit = from.unit; frame = from'.frame; callers = from'.callers } ≡ from' = ap (λ v. record { unit = v; frame = from'.frame; callers = from'.callers }) (sym r.unit) in
      subst (MeetsAgain Related codes codes' z from) same (elim (in_or_not from.frame.place (loops from.unit r.there).calls) [
        | inl there ↦ tail_meets z from.unit from.frame from'.frame from.callers from'.callers r.there r.callers r.frames there
        | inr out ↦ node_meets z from.unit from.frame from'.frame from.callers from'.callers (slice_get (graph_numbered graphs from.unit).nodes from.frame.place) r.there r.callers r.frames refl out
      ])

  -- the program with loops is the same, evaluates no more operators and is never deeper
  pub loops_keep : MachinesKeep (graph_machines graphs) (graph_machines looped)
  loops_keep = stacks_keep (graph_machines graphs) (graph_machines looped) Related (record {
    receives = ap (λ (l : List ℕ). length l) (sym (loops 0 program.some).received);
    shared = sym (loops 0 program.some).shared;
    starts = λ entry is zero. (0, record { there = program.some; unit = refl; frames = entered_agree 0 entry program.some; callers = tt });
    meets = meets;
  })
