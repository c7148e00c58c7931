-- The laws of the rule for stacks: what leads from one control to another, and that programs whose stacks simulate do
-- the same, the second with no more evaluations and no more frames. For proofs only, of the crates above too.
use Rattle.std.proofs.Common.{◌≡◌, ◌⊎◌, inl, inr, ℕ, zero, suc, ◌+◌, ◌-◌, ◌≤◌, ◌<◌, List, [], ◌∷◌, ◌++◌, length, ℤ, refl, sym, ap, ◌∙◌, subst, arith, append-nil, append_assoc, add_comm, le_refl, pos, replicate, FitsSigned, w64}
use Rattle.std.proofs.lemmas.List.{length-replicate}
use Rattle.std.proofs.lemmas.List.Elements.{All-nil, All-cons}
use Rattle.std.specs.Prelude.{max}
use Rattle.mir_base.specs.Frames.{Code, Frame, first_frame, Transition, Continues, Prints, Calls, Returns, Traps}
use Rattle.mir_base.specs.Runs.{AreNumbers, Caller, Control, Running, Ended, Stopped, State, first_entry, first_state, returned, state_after, step, step_at, steps, IsPrefix, IsMatched, IsOverAs}
use Rattle.mir_base.specs.NumberLaws.{zero_fits}
use Rattle.mir_base.specs.RunLaws.{steps_add}
use Rattle.mir_base.specs.SilentLaws.{prefix_trans}
use Rattle.mir_base.specs.Simulations.{Silently}
use Rattle.mir_base.specs.UnitRuns.{AreGlobals, IsEntry}
use Rattle.mir_sim.specs.Machines.{AreInputs, Machines, MachinesCheaper, MachinesFollow, MachinesKeep, MachinesShallower, codes_in, machines_run}
use Rattle.mir_sim.specs.StackSimulations.{Abreast, StepsLead, MeetsAgain, Stack, StackRelation, StacksSimulate, running_of, state_with}

-- ---- what leads from one control to another

-- what a transition of the running frame leads to
abbrev pub control_after : ℕ → List Caller → Transition → Control
control_after u callers (Continues counted next) = Running u next callers
control_after u callers (Prints v next) = Running u next callers
control_after u callers (Calls called entry into next) =
    Running called (first_frame entry) (record { unit = u; into = into; frame = next } ∷ callers)
control_after u callers (Returns answer) = returned answer callers
control_after u callers (Traps kind counted) = Stopped kind

-- what a transition prints
abbrev pub printed_by : Transition → List ℤ
printed_by (Continues counted next) = []
printed_by (Prints v next) = v ∷ []
printed_by (Calls called entry into next) = []
printed_by (Returns answer) = []
printed_by (Traps kind counted) = []

-- how many evaluations a transition counts
abbrev pub counted_by : Transition → ℕ
counted_by (Continues counted next) = counted
counted_by (Prints v next) = 0
counted_by (Calls called entry into next) = 0
counted_by (Returns answer) = 0
counted_by (Traps kind counted) = counted

-- how many frames there are once a transition has called, where there are these callers
abbrev pub frames_by : List Caller → Transition → ℕ
frames_by callers (Continues counted next) = 0
frames_by callers (Prints v next) = 0
frames_by callers (Calls called entry into next) = suc (suc (length callers))
frames_by callers (Returns answer) = 0
frames_by callers (Traps kind counted) = 0

-- two states of equal parts
same_state : (p q : List ℤ) (c d : Control) (m n i j : ℕ) → p ≡ q → c ≡ d → m ≡ n → i ≡ j → state_with p c m i ≡ state_with q d n j
same_state p q c d m n i j e f g h =
    ap (λ x. state_with x c m i) e ∙ ap (λ x. state_with q x m i) f ∙ ap (λ x. state_with q d x i) g ∙ ap (state_with q d n) h

-- no step
pub leads_nowhere : (codes : ℕ → Code) (c : Control) → StepsLead codes 0 c c [] 0 0
leads_nowhere codes c printed before depth = same_state printed (printed ++ []) c c before (before + 0) depth (max depth 0) (sym (append-nil printed)) refl (omega arith) (omega arith)

-- steps that lead from a to b, and then steps from b to c, lead from a to c
pub leads_trans : (codes : ℕ → Code) (j k : ℕ) (a b c : Control) (p q : List ℤ) (m n x y : ℕ)
    → StepsLead codes j a b p m x → StepsLead codes k b c q n y
    → StepsLead codes (j + k) a c (p ++ q) (m + n) (max x y)
leads_trans codes j k a b c p q m n x y first then printed before depth =
    steps_add codes j k (state_with printed a before depth)
    ∙ ap (steps codes k) (first printed before depth)
    ∙ then (printed ++ p) (before + m) (max depth x)
    ∙ same_state ((printed ++ p) ++ q) (printed ++ (p ++ q)) c c ((before + m) + n) (before + (m + n)) (max (max depth x) y) (max depth (max x y)) (append_assoc printed p q) refl (omega arith) (omega arith)

-- what a transition makes of a state
after_is : (u : ℕ) (f : Frame) (callers : List Caller) (t : Transition) (printed : List ℤ) (before depth : ℕ)
    → state_after u callers t (state_with printed (Running u f callers) before depth) ≡ state_with (printed ++ printed_by t) (control_after u callers t) (before + counted_by t) (max depth (frames_by callers t))
after_is u f callers (Continues counted next) printed before depth = same_state printed (printed ++ []) _ _ (before + counted) (before + counted) depth (max depth 0) (sym (append-nil printed)) refl refl (omega arith)
after_is u f callers (Prints v next) printed before depth = same_state (printed ++ v ∷ []) (printed ++ v ∷ []) _ _ before (before + 0) depth (max depth 0) refl refl (omega arith) (omega arith)
after_is u f callers (Calls called entry into next) printed before depth = same_state printed (printed ++ []) _ _ before (before + 0) _ _ (sym (append-nil printed)) refl (omega arith) refl
after_is u f callers (Returns answer) printed before depth = same_state printed (printed ++ []) _ _ before (before + 0) depth (max depth 0) (sym (append-nil printed)) refl (omega arith) (omega arith)
after_is u f callers (Traps kind counted) printed before depth = same_state printed (printed ++ []) _ _ (before + counted) (before + counted) depth (max depth 0) (sym (append-nil printed)) refl refl (omega arith)

-- one step
pub leads_step : (codes : ℕ → Code) (u : ℕ) (f : Frame) (callers : List Caller) (t : Transition) → codes u f ≡ t
    → StepsLead codes 1 (Running u f callers) (control_after u callers t) (printed_by t) (counted_by t) (frames_by callers t)
leads_step codes u f callers t is printed before depth =
    ap (λ t'. state_after u callers t' (state_with printed (Running u f callers) before depth)) is ∙ after_is u f callers t printed before depth

-- silent steps of the running frame
pub leads_silently : (codes : ℕ → Code) (u k : ℕ) (f g : Frame) (n : ℕ) (callers : List Caller)
    → Silently (codes u) k f g n → StepsLead codes k (Running u f callers) (Running u g callers) [] n 0
leads_silently codes u zero f g n callers s = subst (λ m. StepsLead codes 0 (Running u f callers) (Running u g callers) [] m 0) (sym s.1) (subst (λ h. StepsLead codes 0 (Running u f callers) (Running u h callers) [] 0 0) s.0 (leads_nowhere codes (Running u f callers)))
leads_silently codes u (suc k) f g n callers s =
    let one = leads_step codes u f callers (Continues s.1 s.0) s.3 in
    let others = leads_silently codes u k s.0 g s.2 callers s.4 in
    let all = leads_trans codes 1 k (Running u f callers) (Running u s.0 callers) (Running u g callers) [] [] s.1 s.2 0 0 one others in
    let count : 1 + k ≡ suc k = omega arith in
    subst (λ m. StepsLead codes (suc k) (Running u f callers) (Running u g callers) [] m 0) (sym s.5)
    (subst (λ j. StepsLead codes j (Running u f callers) (Running u g callers) [] (s.1 + s.2) 0) count all)

-- ---- what any run does

-- one step takes nothing back
one_grows : (u : ℕ) (callers : List Caller) (t : Transition) (s : State) → IsPrefix s.printed (state_after u callers t s).printed
one_grows u callers (Continues counted next) s = ([], sym (append-nil s.printed))
one_grows u callers (Prints v next) s = (v ∷ [], refl)
one_grows u callers (Calls called entry into next) s = ([], sym (append-nil s.printed))
one_grows u callers (Returns answer) s = ([], sym (append-nil s.printed))
one_grows u callers (Traps kind counted) s = ([], sym (append-nil s.printed))

-- nor does one step of any control
step_grows : (codes : ℕ → Code) (c : Control) (s : State) → IsPrefix s.printed (step_at codes c s).printed
step_grows codes (Running u f callers) s = one_grows u callers (codes u f) s
step_grows codes (Ended result) s = ([], sym (append-nil s.printed))
step_grows codes (Stopped kind) s = ([], sym (append-nil s.printed))

-- what was printed stays
pub steps_grow : (codes : ℕ → Code) (k : ℕ) (s : State) → IsPrefix s.printed (steps codes k s).printed
steps_grow codes zero s = ([], sym (append-nil s.printed))
steps_grow codes (suc k) s = prefix_trans s.printed (step codes s).printed (steps codes k (step codes s)).printed (step_grows codes s.control s) (steps_grow codes k (step codes s))

-- the depth never falls: by one step
one_deepens : (u : ℕ) (callers : List Caller) (t : Transition) (s : State) → s.depth ≤ (state_after u callers t s).depth
one_deepens u callers (Continues counted next) s = le_refl s.depth
one_deepens u callers (Prints v next) s = le_refl s.depth
one_deepens u callers (Calls called entry into next) s = omega arith
one_deepens u callers (Returns answer) s = le_refl s.depth
one_deepens u callers (Traps kind counted) s = le_refl s.depth

-- nor by one step of any control
step_deepens : (codes : ℕ → Code) (c : Control) (s : State) → s.depth ≤ (step_at codes c s).depth
step_deepens codes (Running u f callers) s = one_deepens u callers (codes u f) s
step_deepens codes (Ended result) s = le_refl s.depth
step_deepens codes (Stopped kind) s = le_refl s.depth

-- the depth never falls
pub steps_deepen : (codes : ℕ → Code) (k : ℕ) (s : State) → s.depth ≤ (steps codes k s).depth
steps_deepen codes zero s = le_refl s.depth
steps_deepen codes (suc k) s = omega (arith, step_deepens codes s.control s, steps_deepen codes k (step codes s))

-- the run is over
abbrev pub IsFinished : Control → Type 0
IsFinished (Running u f callers) = ⊥
IsFinished (Ended result) = Unit {0}
IsFinished (Stopped kind) = Unit {0}

-- a step from there
over_step : (codes : ℕ → Code) (c : Control) (s : State) → IsFinished c → step_at codes c s ≡ s
over_step codes (Running u f callers) s over = absurd over
over_step codes (Ended result) s over = refl
over_step codes (Stopped kind) s over = refl

-- a run that is over stays as it is
pub over_stays : (codes : ℕ → Code) (k : ℕ) (s : State) → IsFinished s.control → steps codes k s ≡ s
over_stays codes zero s over = refl
over_stays codes (suc k) s over =
    let same : step codes s ≡ s = over_step codes s.control s over in
    ap (steps codes k) same ∙ over_stays codes k s over

-- of two numbers of steps after which a run is over, each leads to the same state
pub one_over : (codes : ℕ → Code) (k m : ℕ) (s : State) → IsFinished (steps codes k s).control
    → IsFinished (steps codes m s).control → steps codes k s ≡ steps codes m s
one_over codes k m s over over' =
    let one : steps codes (k + m) s ≡ steps codes k s = steps_add codes k m s ∙ over_stays codes m (steps codes k s) over in
    let two : steps codes (m + k) s ≡ steps codes m s = steps_add codes m k s ∙ over_stays codes k (steps codes m s) over' in
    sym one ∙ ap (λ n. steps codes n s) (add_comm k m) ∙ two

-- ---- as many steps of one side as are wanted

-- states that are related again after so many steps of each side, of which the first takes some or the measure falls
abbrev Onward : (ℕ → Code) → (ℕ → Code) → (ℕ → State → State → Type 0) → ℕ → State → State → Type 0
Onward codes codes' A z s t = (j : ℕ) × (k : ℕ) × (z' : ℕ)
    × A z' (steps codes j s) (steps codes' k t) × ((1 ≤ j) ⊎ (z' < z))

-- states that are related again after at least n steps of the first side
abbrev Reached : (ℕ → Code) → (ℕ → Code) → (ℕ → State → State → Type 0) → ℕ → State → State → Type 0
Reached codes codes' A n s t = (j : ℕ) × (k : ℕ) × (z : ℕ) × (n ≤ j)
    × A z (steps codes j s) (steps codes' k t)

module _ (codes codes' : ℕ → Code) (A : ℕ → State → State → Type 0) (onward : (z : ℕ) (s t : State) → A z s t → Onward codes codes' A z s t) where
  -- after some steps of each, then as many more as are wanted
  reached_after : (n m j k : ℕ) (s t : State) → n ≤ j + m → Reached codes codes' A m (steps codes j s) (steps codes' k t) → Reached codes codes' A n s t
  reached_after n m j k s t enough r = (
    j + r.0,
    k + r.1,
    r.2,
    omega (arith, r.3),
    subst (λ x. A r.2 x (steps codes' (k + r.1) t)) (sym (steps_add codes j r.0 s)) (subst (λ y. A r.2 (steps codes r.0 (steps codes j s)) y) (sym (steps_add codes' k r.1 t)) r.4),
  )

  -- one step more than n, at each measure below b
  one_more : (n : ℕ) → ((z : ℕ) (s t : State) → A z s t → Reached codes codes' A n s t) → (b z : ℕ) (s t : State)
      → z < b → A z s t → Reached codes codes' A (suc n) s t
  one_more n ih zero z s t lt a = absurd (omega (arith, lt))
  one_more n ih (suc b) z s t lt a =
      let o = onward z s t a in
      elim o.4 [
        | inl some ↦ reached_after (suc n) n o.0 o.1 s t (omega (arith, some)) (ih o.2 (steps codes o.0 s) (steps codes' o.1 t) o.3)
        | inr falls ↦ reached_after (suc n) (suc n) o.0 o.1 s t (omega arith) (one_more n ih b o.2 (steps codes o.0 s) (steps codes' o.1 t) (omega (arith, falls, lt)) o.3)
      ]

  reached : (n z : ℕ) (s t : State) → A z s t → Reached codes codes' A n s t
  reached zero z s t a = (0, 0, z, omega arith, a)
  reached (suc n) z s t a = one_more n (reached n) (suc z) z s t (omega arith) a

-- ---- states that are abreast

module _ (R : StackRelation) (codes codes' : ℕ → Code) (meets : (z : ℕ) (from from' : Stack) → R z from from' → MeetsAgain R codes codes' z from from') where
  -- equal prints, no more evaluations and no more frames, and the controls abreast
  record AreAbreast (z : ℕ) (s t : State) : Type 0 where
    prints : s.printed ≡ t.printed
    cheaper : t.counted ≤ s.counted
    shallower : t.depth ≤ s.depth
    control : Abreast R z s.control t.control

  -- both sides go on
  record BothOnward (z : ℕ) (s t : State) : Type 0 where
    steps_on : ℕ
    steps_on' : ℕ
    measure : ℕ
    abreast : AreAbreast measure (steps codes steps_on s) (steps codes' steps_on' t)
    moves : (1 ≤ steps_on) ⊎ (measure < z)
    moves' : (1 ≤ steps_on') ⊎ (measure < z)

  running_on : (z : ℕ) (from from' : Stack) (p q : List ℤ) (m n d e : ℕ) → R z from from' → p ≡ q → n ≤ m → e ≤ d
      → BothOnward z (state_with p (running_of from) m d) (state_with q (running_of from') n e)
  running_on z from from' p q m n d e r prints cheaper shallower =
      let a = meets z from from' r in
      record {
        steps_on = a.steps;
        steps_on' = a.steps';
        measure = a.measure;
        abreast = subst (λ s. AreAbreast a.measure s (steps codes' a.steps' (state_with q (running_of from') n e))) (sym (a.leads p m d))
            (subst (λ t. AreAbreast a.measure (state_with (p ++ a.prints) a.to (m + a.counted) (max d a.frames)) t) (sym (a.leads' q n e))
            (record {
              prints = ap (λ l. l ++ a.prints) prints;
              cheaper = omega (arith, cheaper, a.cheaper);
              shallower = omega (arith, shallower, a.shallower);
              control = a.abreast;
            }));
        moves = a.moves;
        moves' = a.moves';
      }

  control_on : (z : ℕ) (c c' : Control) (p q : List ℤ) (m n d e : ℕ) → Abreast R z c c' → p ≡ q → n ≤ m → e ≤ d
      → BothOnward z (state_with p c m d) (state_with q c' n e)
  control_on z (Running u f ps) (Running v g qs) p q m n d e a prints cheaper shallower = running_on z (record { unit = u; frame = f; callers = ps }) (record { unit = v; frame = g; callers = qs }) p q m n d e a prints cheaper shallower
  control_on z (Ended r) (Ended r') p q m n d e a prints cheaper shallower = record {
    steps_on = 1;
    steps_on' = 1;
    measure = z;
    abreast = record { prints = prints; cheaper = cheaper; shallower = shallower; control = a };
    moves = inl (omega arith);
    moves' = inl (omega arith);
  }
  control_on z (Stopped k) (Stopped k') p q m n d e a prints cheaper shallower = record {
    steps_on = 1;
    steps_on' = 1;
    measure = z;
    abreast = record { prints = prints; cheaper = cheaper; shallower = shallower; control = a };
    moves = inl (omega arith);
    moves' = inl (omega arith);
  }
  control_on z _ _ p q m n d e a prints cheaper shallower = absurd a

  both_on : (z : ℕ) (s t : State) → AreAbreast z s t → BothOnward z s t
  both_on z s t a = control_on z s.control t.control s.printed t.printed s.counted t.counted s.depth t.depth a.control a.prints a.cheaper a.shallower

  first_on : (z : ℕ) (s t : State) → AreAbreast z s t → Onward codes codes' AreAbreast z s t
  first_on z s t a = let o = both_on z s t a in (o.steps_on, o.steps_on', o.measure, o.abreast, o.moves)

  second_on : (z : ℕ) (t s : State) → AreAbreast z s t → Onward codes' codes (λ z' t' s'. AreAbreast z' s' t') z t s
  second_on z t s a = let o = both_on z s t a in (o.steps_on', o.steps_on, o.measure, o.abreast, o.moves')

  -- from two states that are abreast, after at least n steps of the first run: states that are abreast again
  by_first : (n z : ℕ) (s t : State) → AreAbreast z s t → Reached codes codes' AreAbreast n s t
  by_first = reached codes codes' AreAbreast first_on

  -- from two states that are abreast, after at least n steps of the second run: states that are abreast again
  by_second : (n z : ℕ) (s t : State) → AreAbreast z s t → Reached codes' codes (λ z' t' s'. AreAbreast z' s' t') n t s
  by_second n z s t a = reached codes' codes (λ z' t' s'. AreAbreast z' s' t') second_on n z t s a

-- ---- controls that are abreast

-- where the first is over, so is the second, with the same result or trap
abreast_over : (R : StackRelation) (z : ℕ) (c c' : Control) → Abreast R z c c' → IsFinished c → c' ≡ c
abreast_over R z (Running u f ps) c' a over = absurd over
abreast_over R z (Ended r) (Ended r') a over = ap Ended (sym a)
abreast_over R z (Ended r) (Running u f ps) a over = absurd a
abreast_over R z (Ended r) (Stopped k) a over = absurd a
abreast_over R z (Stopped k) (Stopped k') a over = ap Stopped (sym a)
abreast_over R z (Stopped k) (Running u f ps) a over = absurd a
abreast_over R z (Stopped k) (Ended r) a over = absurd a

-- and the other way round
over_abreast : (R : StackRelation) (z : ℕ) (c c' : Control) → Abreast R z c c' → IsFinished c' → c ≡ c'
over_abreast R z (Running u f ps) (Running v g qs) a over = absurd over
over_abreast R z (Running u f ps) (Ended r) a over = absurd a
over_abreast R z (Running u f ps) (Stopped k) a over = absurd a
over_abreast R z (Ended r) (Ended r') a over = ap Ended a
over_abreast R z (Ended r) (Running u f ps) a over = absurd a
over_abreast R z (Ended r) (Stopped k) a over = absurd a
over_abreast R z (Stopped k) (Stopped k') a over = ap Stopped a
over_abreast R z (Stopped k) (Running u f ps) a over = absurd a
over_abreast R z (Stopped k) (Ended r) a over = absurd a

-- ---- a state that has come at least as far matches

-- a run that comes later matches what the first run has, where both have then printed the same and are over alike
over_as : (s t : State) (c : Control) → s.control ≡ c → (IsFinished c → (t.control ≡ c) × (t.printed ≡ s.printed)) → IsOverAs s t c
over_as s t (Running u f callers) is matched = tt
over_as s t (Ended r) is matched = matched tt
over_as s t (Stopped k) is matched = matched tt

-- where the first has gone on to a state whose prints and end are those of the second
matched_by : (codes : ℕ → Code) (n j : ℕ) (s t : State) → n ≤ j → (steps codes j s).printed ≡ t.printed
    → (IsFinished (steps codes j s).control → t.control ≡ (steps codes j s).control) → IsMatched (steps codes n s) t
matched_by codes n j s t le prints over =
    let sum : n + (j - n) ≡ j = omega (arith, le) in
    let on : steps codes (j - n) (steps codes n s) ≡ steps codes j s = sym (steps_add codes n (j - n) s) ∙ ap (λ k. steps codes k s) sum in
    record {
      prints = subst (IsPrefix (steps codes n s).printed) (ap (λ x. x.printed) on ∙ prints) (steps_grow codes (j - n) (steps codes n s));
      over = over_as (steps codes n s) t (steps codes n s).control refl (λ is.
          let same : steps codes n s ≡ steps codes j s = sym (over_stays codes (j - n) (steps codes n s) is) ∙ on in (
            over (subst (λ x. IsFinished x.control) same is) ∙ ap (λ x. x.control) (sym same),
            sym prints ∙ ap (λ x. x.printed) (sym same),
          ));
    }

-- ---- the start

-- globals that are 0 are signed 64-bit numbers
pub zeros_fit : (shared : ℕ) → AreGlobals shared (replicate shared (pos 0))
zeros_fit shared = record { long = length-replicate shared (pos 0); numbers = zeros shared }
  where
    zeros : (n : ℕ) → AreNumbers (replicate n (pos 0))
    zeros zero = All-nil (FitsSigned w64)
    zeros (suc n) = All-cons (FitsSigned w64) (pos 0) (replicate n (pos 0)) zero_fits (zeros n)

-- what the first unit is entered with at the start of a run may be handed over to it
pub first_enters : (machines : Machines) (inputs : List ℤ) → AreInputs machines inputs → IsEntry (machines 0) (first_entry (machines 0).shared inputs)
first_enters machines inputs are = record { long = are.long; numbers = are.numbers; globals = zeros_fit (machines 0).shared }

-- ---- the law

module _ (first second : Machines) (R : StackRelation) (simulate : StacksSimulate first second R) where
  abbrev Alike : ℕ → State → State → Type 0
  Alike = AreAbreast R (codes_in first) (codes_in second) simulate.meets

  -- what the program of these machines begins with
  abbrev first_of : Machines → List ℤ → State
  first_of machines inputs = first_state (machines 0).shared inputs

  -- the two runs are abreast at the start
  start : (inputs : List ℤ) → AreInputs first inputs → (z : ℕ) × Alike z (first_of first inputs) (first_of second inputs)
  start inputs are =
      let r = simulate.starts (first_entry (first 0).shared inputs) (first_enters first inputs are) refl in
      let both : Alike r.0 (first_of first inputs) (first_state (first 0).shared inputs) = record { prints = refl; cheaper = le_refl 0; shallower = le_refl 1; control = r.1 } in
      (r.0, subst (λ n. Alike r.0 (first_of first inputs) (first_state n inputs)) simulate.shared both)

  -- the inputs of the second are inputs of the first
  theirs : (inputs : List ℤ) → AreInputs second inputs → AreInputs first inputs
  theirs inputs are = record { long = are.long ∙ sym simulate.receives; numbers = are.numbers }

  -- at least n steps of the first run, or of the second
  far : (inputs : List ℤ) → AreInputs first inputs → (n : ℕ)
      → Reached (codes_in first) (codes_in second) Alike n (first_of first inputs) (first_of second inputs)
  far inputs are n = let a = start inputs are in by_first R (codes_in first) (codes_in second) simulate.meets n a.0 (first_of first inputs) (first_of second inputs) a.1

  far' : (inputs : List ℤ) → AreInputs first inputs → (n : ℕ)
      → Reached (codes_in second) (codes_in first) (λ z t s. Alike z s t) n (first_of second inputs) (first_of first inputs)
  far' inputs are n = let a = start inputs are in by_second R (codes_in first) (codes_in second) simulate.meets n a.0 (first_of first inputs) (first_of second inputs) a.1

  forth : MachinesFollow first second
  forth = record {
    follows = λ inputs are n.
        let r = far inputs are n in
        (r.1, matched_by (codes_in first) n r.0 (first_of first inputs) (machines_run second inputs r.1) r.3 r.4.prints (abreast_over R r.2 (machines_run first inputs r.0).control (machines_run second inputs r.1).control r.4.control));
  }

  back : MachinesFollow second first
  back = record {
    follows = λ inputs are n.
        let r = far' inputs (theirs inputs are) n in
        (r.1, matched_by (codes_in second) n r.0 (first_of second inputs) (machines_run first inputs r.1) r.3 (sym r.4.prints) (over_abreast R r.2 (machines_run first inputs r.1).control (machines_run second inputs r.0).control r.4.control));
  }

  -- both have ended: the first's last state is abreast of some state of the second, which is its last
  cheaper : MachinesCheaper first second
  cheaper = record {
    cheaper = λ inputs are n m v w ends ends'.
        let r = far inputs are n in
        let s = machines_run first inputs n in
        let over : IsFinished (machines_run first inputs n).control = subst IsFinished (sym ends) tt in
        let sum : n + (r.0 - n) ≡ r.0 = omega (arith, r.3) in
        let same : machines_run first inputs r.0 ≡ s = sym (ap (λ k. machines_run first inputs k) sum) ∙ steps_add (codes_in first) n (r.0 - n) (first_of first inputs) ∙ over_stays (codes_in first) (r.0 - n) s over in
        let over_j : IsFinished (machines_run first inputs r.0).control = subst (λ x. IsFinished x.control) (sym same) over in
        let alike = abreast_over R r.2 (machines_run first inputs r.0).control (machines_run second inputs r.1).control r.4.control over_j in
        let over_k : IsFinished (machines_run second inputs r.1).control = subst IsFinished (sym alike) over_j in
        let last : machines_run second inputs r.1 ≡ machines_run second inputs m = one_over (codes_in second) r.1 m (first_of second inputs) over_k (subst IsFinished (sym ends') tt) in
        subst (λ x. (machines_run second inputs m).counted ≤ x.counted) same (subst (λ x. x.counted ≤ (machines_run first inputs r.0).counted) last r.4.cheaper);
  }

  shallower : MachinesShallower first second
  shallower = record {
    shallower = λ inputs are n.
        let r = far' inputs are n in
        let sum : n + (r.0 - n) ≡ r.0 = omega (arith, r.3) in
        let on : machines_run second inputs r.0 ≡ steps (codes_in second) (r.0 - n) (machines_run second inputs n) = sym (ap (λ k. machines_run second inputs k) sum) ∙ steps_add (codes_in second) n (r.0 - n) (first_of second inputs) in
        let deep = steps_deepen (codes_in second) (r.0 - n) (machines_run second inputs n) in
        let depths : (machines_run second inputs r.0).depth ≡ (steps (codes_in second) (r.0 - n) (machines_run second inputs n)).depth = ap (λ x. x.depth) on in
        (r.1, omega (arith, deep, depths, r.4.shallower));
  }

  -- the second program is the same, evaluates no more operators and is never deeper
  pub stacks_keep : MachinesKeep first second
  stacks_keep = record { same = record { inputs = simulate.receives; forth = forth; back = back }; cheaper = cheaper; shallower = shallower }
