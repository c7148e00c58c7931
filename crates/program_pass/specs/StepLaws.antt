-- Law: two programs of graphs, of which the second does at a node what the first does, meet again after one step of
-- each, whatever else a relation of their stacks says of the callers. For proofs only.
use Rattle.std.proofs.Common.{◌≡◌, inl, ℕ, suc, ◌+◌, ◌≤◌, List, [], ◌∷◌, length, Option, refl, ap, ◌∙◌, arith, le_refl}
use Rattle.mir_base.specs.Frames.{Answer, CallEntry, Code, Frame, first_frame, Transition, Continues, Prints, Calls, Returns, Traps}
use Rattle.mir_base.specs.Runs.{Caller, Control, Running, Stopped, returned}
use Rattle.mir_sim.specs.StackLaws.{leads_step, leads_trans}
use Rattle.mir_sim.specs.StackSimulations.{Abreast, StepsLead, MeetsAgain, StackRelation}
use Rattle.program_pass.specs.GraphProgramLaws.{Together}

-- what a relation of stacks is asked for: callers that are related, and what an answer, a step and a call make of them
pub record OneStepEach (codes : ℕ → Code) (shared : ℕ) (R : StackRelation) (Exists : ℕ → Type 0)
    (Frames : ℕ → Frame → Frame → Type 0)
    (Callers : List Caller → List Caller → Type 0) : Type 0 where
  -- the second stack is no higher
  pub no_higher : (ps qs : List Caller) → Callers ps qs → length qs ≤ length ps
  -- frames that agree in one unit, over related callers, are related
  pub related : (u : ℕ) (f g : Frame) (ps qs : List Caller) → Exists u → Frames u f g
      → Callers ps qs
      → R 0 (record { unit = u; frame = f; callers = ps })
      (record { unit = u; frame = g; callers = qs })
  -- frames that a call enters, over callers that go on from frames that agree, are related
  pub called : (u called : ℕ) (entry : CallEntry) (into : Option ℕ) (f g : Frame)
      (ps qs : List Caller)
      → Exists u
      → Exists called → Frames u f g → Callers ps qs
      → R 0 (record {
        unit = called;
        frame = first_frame entry;
        callers = record { unit = u; into = into; frame = f } ∷ ps;
      })
      (record {
        unit = called;
        frame = first_frame entry;
        callers = record { unit = u; into = into; frame = g } ∷ qs;
      })
  -- an answer that the first side hands back, with so many globals, leads to where the two are
  -- abreast
  pub answered : (answer : Answer) (ps qs : List Caller) → length answer.globals ≡ shared
      → Callers ps qs
      → (k : ℕ) × (to : Control) × StepsLead codes k (returned answer ps) to [] 0 0
      × Abreast R 0 to (returned answer qs)

module _ (codes codes' : ℕ → Code) (shared : ℕ) (R : StackRelation) (Exists : ℕ → Type 0) (Frames : ℕ → Frame → Frame → Type 0) (Callers : List Caller → List Caller → Type 0) (can : OneStepEach codes shared R Exists Frames Callers) where
  -- where the two do the same at agreeing frames, they meet again
  pub steps_meet : (z u : ℕ) (f g : Frame) (ps qs : List Caller) (t t' : Transition) → Exists u → Callers ps qs
      → codes u f ≡ t → codes' u g ≡ t' → Together (Frames u) t t'
      → ((called : ℕ) (entry : CallEntry) (into : Option ℕ) (next : Frame) → t ≡ Calls called entry into next → Exists called)
      → ((answer : Answer) → t ≡ Returns answer → length answer.globals ≡ shared)
      → MeetsAgain R codes codes' z (record { unit = u; frame = f; callers = ps }) (record { unit = u; frame = g; callers = qs })
  steps_meet z u f g ps qs (Continues n next) (Continues m next') lt over is is' both calls answers = record {
    steps = 1;
    steps' = 1;
    to = Running u next ps;
    to' = Running u next' qs;
    prints = [];
    counted = n;
    counted' = m;
    frames = 0;
    frames' = 0;
    leads = leads_step codes u f ps (Continues n next) is;
    leads' = leads_step codes' u g qs (Continues m next') is';
    cheaper = omega (arith, both.0);
    shallower = le_refl 0;
    measure = 0;
    abreast = can.related u next next' ps qs lt both.1 over;
    moves = inl (omega arith);
    moves' = inl (omega arith);
  }
  steps_meet z u f g ps qs (Prints v next) (Prints w next') lt over is is' both calls answers = record {
    steps = 1;
    steps' = 1;
    to = Running u next ps;
    to' = Running u next' qs;
    prints = v ∷ [];
    counted = 0;
    counted' = 0;
    frames = 0;
    frames' = 0;
    leads = leads_step codes u f ps (Prints v next) is;
    leads' = leads_step codes' u g qs (Prints v next') (is' ∙ ap (λ a. Prints a next') both.0);
    cheaper = le_refl 0;
    shallower = le_refl 0;
    measure = 0;
    abreast = can.related u next next' ps qs lt both.1 over;
    moves = inl (omega arith);
    moves' = inl (omega arith);
  }
  steps_meet z u f g ps qs (Calls called entry into next) (Calls called' entry' into' next') lt over is is' both calls answers =
      let same : codes' u g ≡ Calls called entry into next' = is' ∙ ap (λ a. Calls a entry' into' next') both.0 ∙ ap (λ a. Calls called a into' next') both.1 ∙ ap (λ a. Calls called entry a next') both.2 in
      record {
        steps = 1;
        steps' = 1;
        to = Running called (first_frame entry) (record { unit = u; into = into; frame = next } ∷ ps);
        to' = Running called (first_frame entry) (record { unit = u; into = into; frame = next' } ∷ qs);
        prints = [];
        counted = 0;
        counted' = 0;
        frames = suc (suc (length ps));
        frames' = suc (suc (length qs));
        leads = leads_step codes u f ps (Calls called entry into next) is;
        leads' = leads_step codes' u g qs (Calls called entry into next') same;
        cheaper = le_refl 0;
        shallower = omega (arith, can.no_higher ps qs over);
        measure = 0;
        abreast = can.called u called entry into next next' ps qs lt (calls called entry into next refl) both.3 over;
        moves = inl (omega arith);
        moves' = inl (omega arith);
      }
  steps_meet z u f g ps qs (Returns answer) (Returns answer') lt over is is' both calls answers =
      let back = can.answered answer ps qs (answers answer refl) over in
      record {
        steps = 1 + back.0;
        steps' = 1;
        to = back.1;
        to' = returned answer qs;
        prints = [];
        counted = 0;
        counted' = 0;
        frames = 0;
        frames' = 0;
        leads = leads_trans codes 1 back.0 (Running u f ps) (returned answer ps) back.1 [] [] 0 0 0 0 (leads_step codes u f ps (Returns answer) is) back.2;
        leads' = leads_step codes' u g qs (Returns answer) (is' ∙ ap Returns both);
        cheaper = le_refl 0;
        shallower = le_refl 0;
        measure = 0;
        abreast = back.3;
        moves = inl (omega arith);
        moves' = inl (omega arith);
      }
  steps_meet z u f g ps qs (Traps kind n) (Traps kind' m) lt over is is' both calls answers = record {
    steps = 1;
    steps' = 1;
    to = Stopped kind;
    to' = Stopped kind;
    prints = [];
    counted = n;
    counted' = m;
    frames = 0;
    frames' = 0;
    leads = leads_step codes u f ps (Traps kind n) is;
    leads' = leads_step codes' u g qs (Traps kind m) (is' ∙ ap (λ a. Traps a m) both.0);
    cheaper = omega (arith, both.1);
    shallower = le_refl 0;
    measure = 0;
    abreast = refl;
    moves = inl (omega arith);
    moves' = inl (omega arith);
  }
  steps_meet z u f g ps qs _ _ lt over is is' both calls answers = absurd both
