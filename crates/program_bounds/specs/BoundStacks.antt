-- Law: the program of the rewritten graphs goes step by step with the program of the graphs. Frames are equal, of units
-- that are entered, and what is known where they stand holds of their values. Those that wait go on so, whatever answers
-- they get of which what is known of what the called unit hands back holds. For proofs only.
use Rattle.std.proofs.Common.{◌≡◌, ℕ, zero, suc, ◌<◌, ◌≤◌, inl, List, [], ◌∷◌, length, map, replicate, slice_get, slice_index_or, ℤ, pos, Option, Some, refl, sym, ap, ◌∙◌, subst, arith, le_refl}
use Rattle.std.proofs.lemmas.Option.{slice_get_within}
use Rattle.mir_base.specs.declared.instructions.Operand.{Operand}
use Rattle.mir_base.specs.Frames.{Answer, CallEntry, Code, Frame, first_frame, resumed, Transition, Continues, Prints, Calls, Returns, Traps}
use Rattle.mir_base.specs.Runs.{AreNumbers, Caller, Running, returned}
use Rattle.mir_base.specs.Simulations.{HandsOver}
use Rattle.mir_base.specs.UnitRuns.{IsCallAnswer, IsEntry}
use Rattle.flow_graph.specs.declared.nodes.Node.TheVariants.{Call, Return}
use Rattle.flow_graph.specs.Graphs.{GraphShape}
use Rattle.flow_graph.specs.MachineLaws.{graph_hands}
use Rattle.flow_graph.specs.Machines.{graph_code}
use Rattle.fix_solve.specs.Pointwise.{Pointwise}
use Rattle.mir_sim.specs.Machines.{MachinesKeep, codes_in}
use Rattle.mir_sim.specs.StackLaws.{control_after, counted_by, frames_by, leads_step, printed_by, stacks_keep}
use Rattle.mir_sim.specs.StackSimulations.{Abreast, MeetsAgain, Stack, StepsLead}
use Rattle.program_pass.specs.GraphPrograms.{IsGraphProgram, graph_machines, graph_numbered, shared_in}
use Rattle.bounds.specs.declared.facts.Fact.{Fact}
use Rattle.bounds.specs.BoundRules.{bound_rules}
use Rattle.bounds.specs.BoundRuleLaws.{bound_laws}
use Rattle.bounds.specs.Facts.{BelowFact, Bounds}
use Rattle.cond_flow.specs.Becoming.{nodes_become}
use Rattle.cond_flow.specs.Handing.{AlikeWhere, AnswerHolds, IsClosed, IsHandedBack, IsHandedOver, Together, answer_values, entry_values, handed, values_in}
use Rattle.cond_flow.specs.Passing.{first_known, passed_along}
use Rattle.cond_flow.specs.PassingLaws.{below_at}
use Rattle.cond_flow.specs.Rules.{AreHeld, LawfulRules}
use Rattle.cond_flow.specs.Solutions.{AreStates}
use Rattle.cond_flow.specs.States.{BelowState, NodeState, Unreached, Knows}
use Rattle.cond_flow.specs.StepLaws.{entered, steps}
use Rattle.cond_flow.specs.WithinLaws.{laws_within}
use Rattle.program_bounds.specs.Facts.{ProgramFacts, around, facts_in, row_at, rules_at}

-- the laws of the rules
pub laws_at : (known : ProgramFacts) (u : ℕ) → LawfulRules BelowFact Bounds (rules_at known u)
laws_at known u = laws_within (around known u) bound_laws

-- what is below a state that is known is below a list
pub above_known : (facts : List Fact) (s : NodeState Fact) → BelowState BelowFact (Knows facts) s → (others : List Fact) × (s ≡ Knows others) × Pointwise BelowFact facts others
above_known facts (Unreached n) p = absurd p
above_known facts (Knows others) p = (others, refl, p)

-- the facts that a unit hands back
back_is : (rows : List (NodeState Fact)) (v : ℕ) (facts : List Fact) → row_at rows v ≡ Knows facts → slice_index_or (map facts_in rows) v [] ≡ facts
back_is [] v facts is = cc
back_is (row ∷ rows) zero facts is = ap facts_in is
back_is (row ∷ rows) (suc v) facts is = back_is rows v facts is

-- what holds where less is known, and by any rules of bounds
held_up : (known : ProgramFacts) (u v : ℕ) (facts others : List Fact) (zs : List ℤ) → Pointwise BelowFact facts others → AreHeld Bounds (rules_at known u) facts (values_in zs) → AreHeld Bounds (rules_at known v) others (values_in zs)
held_up known u v facts others zs p held = record { each = λ x. bound_laws.sound.up _ _ (values_in zs x) (below_at bound_laws.order bound_laws.rising facts others x p) (held.each x) }

-- a graph and what it is rewritten to, by states that hold what is known; where the unit is entered, what it hands over
-- and back is known
pub record Sides (known : ProgramFacts) (u : ℕ) (graph middle : GraphShape) : Type 0 where
  pub states : ℕ → NodeState Fact
  pub are : AreStates BelowFact (passed_along (rules_at known u) graph.shared graph.received) (first_known (rules_at known u) graph.shared (length graph.vars)) graph.nodes states
  pub nodes : middle.nodes ≡ nodes_become (rules_at known u) states graph.nodes
  pub shared : middle.shared ≡ graph.shared
  pub received : middle.received ≡ graph.received
  pub calls : (own : List Fact) → row_at known.entries u ≡ Knows own
      → (n : ℕ) (into : Option ℕ) (v : ℕ) (operands : List Operand) (next : ℕ) (facts : List Fact)
      → slice_get graph.nodes n ≡ Some (Call into v operands next) → states n ≡ Knows facts
      → BelowState BelowFact (Knows (handed bound_rules graph.shared operands facts)) (row_at known.entries v)
  pub returns : (own : List Fact) → row_at known.entries u ≡ Knows own
      → (n : ℕ) (a : Operand) (facts : List Fact)
      → slice_get graph.nodes n ≡ Some (Return a) → states n ≡ Knows facts
      → BelowState BelowFact (Knows (handed bound_rules graph.shared (a ∷ []) facts)) (row_at known.backs u)

module _ (graphs middles : List GraphShape) (program : IsGraphProgram graphs) (known : ProgramFacts) (sides : (u : ℕ) → u < length graphs → Sides known u (graph_numbered graphs u) (graph_numbered middles u)) (first : (entry : CallEntry) → IsEntry (graph_machines graphs 0) entry → entry.globals ≡ replicate (graph_machines graphs 0).shared (pos 0) → (facts : List Fact) × (row_at known.entries 0 ≡ Knows facts) × AreHeld Bounds bound_rules facts (values_in (entry_values entry))) where
  abbrev pub codes : ℕ → Code
  codes = codes_in (graph_machines graphs)

  abbrev pub codes' : ℕ → Code
  codes' = codes_in (graph_machines middles)

  -- how many globals there are
  abbrev pub shared : ℕ
  shared = shared_in graphs

  -- equal frames of a unit that is entered, of which holds what is known
  pub record InUnit (u : ℕ) (f g : Frame) : Type 0 where
    pub lt : u < length graphs
    pub own : List Fact
    pub is_entered : row_at known.entries u ≡ Knows own
    pub together : Together Bounds (rules_at known u) (graph_numbered graphs u).shared (graph_numbered graphs u).nodes (sides u lt).states f g

  -- two callers wait for the answer of the unit v
  pub record Waits (v : ℕ) (p q : Caller) : Type 0 where
    pub unit : q.unit ≡ p.unit
    pub goes_on : (a : Answer) → IsCallAnswer shared a → AnswerHolds Bounds (rules_at known p.unit) v a → InUnit p.unit (resumed p.into a p.frame) (resumed q.into a q.frame)

  -- below a frame of the unit v
  abbrev pub Over : ℕ → List Caller → List Caller → Type 0
  Over v [] [] = Unit {0}
  Over v (p ∷ ps) (q ∷ qs) = Waits v p q × Over p.unit ps qs
  Over v _ _ = ⊥

  -- they are as many
  as_high : (v : ℕ) (ps qs : List Caller) → Over v ps qs → length qs ≡ length ps
  as_high v [] [] over = refl
  as_high v (p ∷ ps) (q ∷ qs) over = ap suc (as_high p.unit ps qs over.1)
  as_high v [] (q ∷ qs) over = absurd over
  as_high v (p ∷ ps) [] over = absurd over

  -- stacks of such frames
  pub record Related (z : ℕ) (from from' : Stack) : Type 0 where
    pub unit : from'.unit ≡ from.unit
    pub frames : InUnit from.unit from.frame from'.frame
    pub callers : Over from.unit from.callers from'.callers

  -- One step of each side, by these transitions: they print the same, the second evaluates no more operators, they make
  -- as many frames, and they lead to where the two are abreast
  pub record StepsMeet (ps qs : List Caller) (u : ℕ) (t t' : Transition) : Type 0 where
    pub prints : printed_by t' ≡ printed_by t
    pub cheaper : counted_by t' ≤ counted_by t
    pub as_deep : frames_by qs t' ≡ frames_by ps t
    pub abreast : Abreast Related 0 (control_after u ps t) (control_after u qs t')

  -- a unit is entered with what is known there
  enters : (u : ℕ) (lt : u < length graphs) (facts : List Fact) (entry : CallEntry) → row_at known.entries u ≡ Knows facts → length entry.globals ≡ (graph_numbered graphs u).shared → AreNumbers entry.globals → AreNumbers entry.arguments → AreHeld Bounds (rules_at known u) facts (values_in (entry_values entry)) → InUnit u (first_frame entry) (first_frame entry)
  enters u lt facts entry is long globals arguments held =
      let graph = graph_numbered graphs u in
      record {
        lt = lt;
        own = facts;
        is_entered = is;
        together = entered (laws_at known u) graph.shared graph.received graph.nodes (length graph.vars) (sides u lt).states (sides u lt).are entry long globals arguments
            (subst (λ s. AreHeld Bounds (rules_at known u) (facts_in s) (values_in (entry_values entry))) (sym is) held);
      }

  -- ---- one step of each side

  module _ (u : ℕ) (lt : u < length graphs) (own : List Fact) (is_entered : row_at known.entries u ≡ Knows own) (f g : Frame) (ps qs : List Caller) (over : Over u ps qs) where
    abbrev graph : GraphShape
    graph = graph_numbered graphs u

    abbrev side : Sides known u (graph_numbered graphs u) (graph_numbered middles u)
    side = sides u lt

    abbrev Tied : Frame → Frame → Type 0
    Tied = Together Bounds (rules_at known u) (graph_numbered graphs u).shared (graph_numbered graphs u).nodes (sides u lt).states

    -- how the steps are alike
    abbrev AlikeHere : Transition → Transition → Type 0
    AlikeHere = AlikeWhere (IsHandedOver Bounds (rules_at known u) graph.shared graph.nodes side.states f.place) (λ answer. f.place < length graph.nodes → IsHandedBack Bounds (rules_at known u) graph.shared graph.nodes side.states f.place answer) (AnswerHolds Bounds (rules_at known u)) Tied

    -- the graph has as many globals as the program
    alike : graph.shared ≡ shared
    alike = program.globals u lt

    -- what is known of what the unit hands back holds of its answer
    back_holds : (w : ℕ) (a : Answer) → IsHandedBack Bounds (rules_at known u) graph.shared graph.nodes side.states f.place a → AnswerHolds Bounds (rules_at known w) u a
    back_holds w a back =
        let above = above_known _ _ (side.returns own is_entered f.place back.operand back.known back.here back.state) in
        subst (λ l. AreHeld Bounds (rules_at known w) l (values_in (answer_values a))) (sym (back_is known.backs u above.0 above.1))
        (held_up known u w _ above.0 (answer_values a) above.2 back.holds_of)

    -- an answer leads to where the two are abreast
    answered : (a : Answer) → IsHandedBack Bounds (rules_at known u) graph.shared graph.nodes side.states f.place a → (ps qs : List Caller) → Over u ps qs → Abreast Related 0 (returned a ps) (returned a qs)
    answered a back [] [] over = refl
    answered a back (p ∷ ps) (q ∷ qs) over = record { unit = over.0.unit; frames = over.0.goes_on a (subst (λ n. IsCallAnswer n a) alike back.is_answer) (back_holds p.unit a back); callers = over.1 }
    answered a back [] (q ∷ qs) over = absurd over
    answered a back (p ∷ ps) [] over = absurd over

    steps_meet : f.place < length graph.nodes → (t t' : Transition) → AlikeHere t t' → HandsOver graph.shared t → StepsMeet ps qs u t t'
    steps_meet there (Continues n next) (Continues m next') both hands = record {
      prints = refl;
      cheaper = both.0;
      as_deep = refl;
      abreast = record { unit = refl; frames = record { lt = lt; own = own; is_entered = is_entered; together = both.1 }; callers = over };
    }
    steps_meet there (Prints v next) (Prints w next') both hands = record {
      prints = ap (λ a. a ∷ []) (sym both.0);
      cheaper = le_refl 0;
      as_deep = refl;
      abreast = record { unit = refl; frames = record { lt = lt; own = own; is_entered = is_entered; together = both.1 }; callers = over };
    }
    steps_meet there (Calls called entry into next) (Calls called' entry' into' next') both hands =
        let over_here = both.2 in
        let fits = program.calls u lt called (length over_here.operands) (record { number = f.place; node = Call over_here.into called over_here.operands over_here.next; here = over_here.here; calls = refl }) in
        let above = above_known _ _ (side.calls own is_entered f.place over_here.into called over_here.operands over_here.next over_here.known over_here.here over_here.state) in
        let callee_shared : length entry.globals ≡ (graph_numbered graphs called).shared = over_here.globals.long ∙ alike ∙ sym (program.globals called fits.0) in
        let in_called : InUnit called (first_frame entry) (first_frame entry) = enters called fits.0 above.0 entry above.1 callee_shared over_here.globals.numbers over_here.numbers (held_up known u called _ above.0 (entry_values entry) above.2 over_here.holds_of) in
        record {
          prints = refl;
          cheaper = le_refl 0;
          as_deep = ap (λ n. suc (suc n)) (as_high u ps qs over);
          abreast = record {
            unit = sym both.0;
            frames = subst (λ e. InUnit called (first_frame entry) (first_frame e)) both.1 in_called;
            callers = (
              record {
                unit = refl;
                goes_on = λ a one holds. record {
                  lt = lt;
                  own = own;
                  is_entered = is_entered;
                  together = both.3 a (subst (λ n. IsCallAnswer n a) (sym (hands ∙ alike)) one) holds;
                };
              },
              over,
            );
          };
        }
    steps_meet there (Returns answer) (Returns answer') both hands = record {
      prints = refl;
      cheaper = le_refl 0;
      as_deep = refl;
      abreast = subst (λ a. Abreast Related 0 (returned answer ps) (returned a qs)) both.0 (answered answer (both.1 there) ps qs over);
    }
    steps_meet there (Traps kind n) (Traps kind' m) both hands = record { prints = refl; cheaper = both.1; as_deep = refl; abreast = both.0 }
    steps_meet there _ _ both hands = absurd both

    -- there is a node, and each edge leads to one
    closed : IsClosed graph.nodes
    closed =
        let can = program.are u lt in
        record { some = (let start = slice_get_within graph.nodes 0 _ can.start.1 in omega (arith, start)); within = λ m slot s edge. (can.succs m slot s edge).1 }

    -- one step from such frames
    pub one_step : Together Bounds (rules_at known u) (graph_numbered graphs u).shared (graph_numbered graphs u).nodes (sides u lt).states f g → StepsMeet ps qs u (codes u f) (codes' u g)
    one_step tied =
        let middle = graph_numbered middles u in
        let rewritten : codes' u g ≡ graph_code graph.shared graph.received (nodes_become (rules_at known u) side.states graph.nodes) g = ap (λ n. graph_code n middle.received middle.nodes g) side.shared ∙ ap (λ r. graph_code graph.shared r middle.nodes g) side.received ∙ ap (λ l. graph_code graph.shared graph.received l g) side.nodes in
        subst (StepsMeet ps qs u (codes u f)) (sym rewritten)
        (steps_meet (tied.there closed) (graph_code graph.shared graph.received graph.nodes f) _ (steps (laws_at known u) graph.shared graph.received graph.nodes (length graph.vars) side.states side.are f g tied)
        (graph_hands graph.shared graph.received graph.nodes f))

  -- from stacks that are related
  related_step : (z : ℕ) (from from' : Stack) → Related z from from' → StepsMeet from.callers from'.callers from.unit (codes from.unit from.frame) (codes' from.unit from'.frame)
  related_step z from from' r = one_step from.unit r.frames.lt r.frames.own r.frames.is_entered from.frame from'.frame from.callers from'.callers r.callers r.frames.together

  -- related stacks meet again
  meets : (z : ℕ) (from from' : Stack) → Related z from from' → MeetsAgain Related codes codes' z from from'
  meets z from from' r =
      let t = codes from.unit from.frame in
      let t' = codes' from.unit from'.frame in
      let one = related_step z from from' r in
      let same : record { unit = from.unit; frame = from'.frame; callers = from'.callers } ≡ from' = ap (λ v. record { unit = v; frame = from'.frame; callers = from'.callers }) (sym r.unit) in
      subst (MeetsAgain Related codes codes' z from) same (record {
        steps = 1;
        steps' = 1;
        to = control_after from.unit from.callers t;
        to' = control_after from.unit from'.callers t';
        prints = printed_by t;
        counted = counted_by t;
        counted' = counted_by t';
        frames = frames_by from.callers t;
        frames' = frames_by from'.callers t';
        leads = leads_step codes from.unit from.frame from.callers t refl;
        leads' = subst (λ l. StepsLead codes' 1 (Running from.unit from'.frame from'.callers) (control_after from.unit from'.callers t') l (counted_by t') (frames_by from'.callers t')) one.prints (leads_step codes' from.unit from'.frame from'.callers t' refl);
        cheaper = one.cheaper;
        shallower = omega (arith, one.as_deep);
        measure = 0;
        abreast = one.abreast;
        moves = inl (omega arith);
        moves' = inl (omega arith);
      })

  -- the program of the rewritten graphs is the same, evaluates no more operators and is never deeper
  pub bounded_keep : MachinesKeep (graph_machines graphs) (graph_machines middles)
  bounded_keep =
      let side = sides 0 program.some in
      stacks_keep (graph_machines graphs) (graph_machines middles) Related (record {
        receives = ap (λ (l : List ℕ). length l) (sym side.received);
        shared = sym side.shared;
        starts = λ entry is zeros.
            let told = first entry is zeros in
            (0, record { unit = refl; frames = enters 0 program.some told.0 entry told.1 is.globals.long is.globals.numbers is.numbers (record { each = told.2.each }); callers = tt });
        meets = meets;
      })
