-- One stack of frames follows another, where each frame of the one follows the frame of the other at the same height.
-- For proofs only.
use Rattle.std.proofs.Common.{◌≡◌, ℕ, zero, suc, ◌+◌, ◌≤◌, List, [], ◌∷◌, length, ℤ, Option, refl, sym, ap, ◌∙◌, subst, arith, add-zero}
use Rattle.std.specs.Prelude.{max}
use Rattle.mir_base.specs.declared.operators.Trap.{Trap}
use Rattle.mir_base.specs.Frames.{CallEntry, Answer, Frame, first_frame, resumed, Transition, Continues, Prints, Calls, Returns, Traps, Code}
use Rattle.mir_base.specs.Runs.{Caller, Control, Running, Ended, Stopped, State, returned, state_after, step, steps}
use Rattle.mir_base.specs.UnitRuns.{Printed, Called, Returned, Trapped, IsCallAnswer}
use Rattle.mir_base.specs.Simulations.{Silently}
use Rattle.mir_base.specs.RunLaws.{steps_add}
use Rattle.mir_base.specs.FrameLaws.{FrameFits, resumed_fits}
use Rattle.mir_sim.specs.FollowLaws.{Shows, catches_up, pair_on_left, pair_on_right, pair_after_prints, pair_after_call, pair_at_return, Pair}

-- ---- the only transitions that show an event

-- only a print shows a printed value
shows_print : (v : ℤ) (t : Transition) → Shows (Printed v) t → (next : Frame) × (t ≡ Prints v next)
shows_print v (Continues n next) s = absurd s
shows_print v (Prints w next) s = (next, cc)
shows_print v (Calls u entry into next) s = cc
shows_print v (Returns answer) s = cc
shows_print v (Traps kind n) s = cc

-- only a call shows a call
shows_call : (u : ℕ) (entry : CallEntry) (t : Transition) → Shows (Called u entry) t → (into : Option ℕ) × (next : Frame) × (t ≡ Calls u entry into next)
shows_call u entry (Continues n next) s = absurd s
shows_call u entry (Prints w next) s = cc
shows_call u entry (Calls u' entry' into next) s = (into, next, cc)
shows_call u entry (Returns answer) s = cc
shows_call u entry (Traps kind n) s = cc

-- only a return shows an answer
shows_return : (answer : Answer) (t : Transition) → Shows (Returned answer) t → t ≡ Returns answer
shows_return answer (Continues n next) s = absurd s
shows_return answer (Prints w next) s = cc
shows_return answer (Calls u entry into next) s = cc
shows_return answer (Returns w) s = cc
shows_return answer (Traps kind n) s = cc

-- a transition that shows a trap is one that traps, by this kind
shows_trap : (kind : Trap) (t : Transition) → Shows (Trapped kind) t → (n : ℕ) × (t ≡ Traps kind n)
shows_trap kind (Continues n next) s = absurd s
shows_trap kind (Prints w next) s = cc
shows_trap kind (Calls u entry into next) s = cc
shows_trap kind (Returns answer) s = cc
shows_trap kind (Traps l n) s = (n, cc)

-- ---- two stacks that match

-- what holds after a transition, where there are so many globals: values stay signed 64-bit numbers, and only what may
-- be called is called
abbrev pub FitsAfter : ℕ → (ℕ → CallEntry → Type 0) → Transition → Type 0
FitsAfter shared Callable (Continues n next) = FrameFits next
FitsAfter shared Callable (Prints v next) = FrameFits next
FitsAfter shared Callable (Calls u entry into next) = Callable u entry × FrameFits next
FitsAfter shared Callable (Returns answer) = IsCallAnswer shared answer
FitsAfter shared Callable (Traps kind n) = Unit {0}

-- Two frames in stacks that have counted E and E' in all, without the frames above: what the two frames counted of that
-- (`own`), what the others below did (`others`), and that these match
pub record Layer (E E' : ℕ) (Below : ℕ → ℕ → Type 0) (Here : ℕ → ℕ → Type 0) : Type 0 where
  pub own : ℕ
  pub own' : ℕ
  pub others : ℕ
  pub others' : ℕ
  pub sum : E ≡ others + own
  pub sum' : E' ≡ others' + own'
  pub here : Here own own'
  pub below : Below others others'

-- what is above the frames below changes, and with it what the two frames on top counted
above : {E E' F F' : ℕ} {Below Here Here' : ℕ → ℕ → Type 0} (m : Layer E E' Below Here) (own own' : ℕ)
    → F ≡ m.others + own → F' ≡ m.others' + own' → Here' own own' → Layer F F' Below Here'
above m own own' sum sum' here = record { own = own; own' = own'; others = m.others; others' = m.others'; sum = sum; sum' = sum'; here = here; below = m.below }

-- two frames of which the second follows the first
pub record Standing (shared : ℕ) (Q : Type 0) (c d : Code) (f g : Frame) (x y : ℕ) : Type 0 where
  pub pair : Pair shared Q c d x y f g
  pub fits : FrameFits f

-- two callers, of which the second follows the first with every answer
pub record Waiting (shared : ℕ) (Q : Type 0) (codes codes' : ℕ → Code) (p q : Caller)
    (x y : ℕ) : Type 0 where
  pub goes_on : (answer : Answer) → IsCallAnswer shared answer
      → Pair shared Q (codes p.unit) (codes' q.unit) x y (resumed p.into answer p.frame)
      (resumed q.into answer q.frame)
  pub fits : FrameFits p.frame

-- each caller follows the one of the same height
abbrev pub MatchCallers : (shared : ℕ) (Q : Type 0) (codes codes' : ℕ → Code) → List Caller
    → List Caller → ℕ → ℕ → Type 0
MatchCallers shared Q codes codes' [] [] E E' = Q → E' ≤ E
MatchCallers shared Q codes codes' (p ∷ ps) (q ∷ qs) E E' =
    Layer E E' (MatchCallers shared Q codes codes' ps qs) (Waiting shared Q codes codes' p q)
MatchCallers shared Q codes codes' _ _ E E' = ⊥

-- and so does the running frame
abbrev pub MatchRunning : (shared : ℕ) (Q : Type 0) (codes codes' : ℕ → Code) → ℕ → Frame
    → List Caller → ℕ → Frame → List Caller → ℕ → ℕ → Type 0
MatchRunning shared Q codes codes' u f ps u' g qs E E' = Layer E E'
    (MatchCallers shared Q codes codes' ps qs) (Standing shared Q (codes u) (codes' u') f g)

-- the runs stand alike
abbrev pub MatchControl : (shared : ℕ) (Q : Type 0) (codes codes' : ℕ → Code) → Control → Control
    → ℕ → ℕ → Type 0
MatchControl shared Q codes codes' (Running u f ps) (Running u' g qs) E E' =
    MatchRunning shared Q codes codes' u f ps u' g qs E E'
MatchControl shared Q codes codes' (Ended v) (Ended w) E E' = (v ≡ w) × (Q → E' ≤ E)
MatchControl shared Q codes codes' (Stopped k) (Stopped l) E E' = k ≡ l
MatchControl shared Q codes codes' _ _ E E' = ⊥

-- equal prints, as many frames at most, and matching stacks
pub record MatchState (shared : ℕ) (Q : Type 0) (codes codes' : ℕ → Code)
    (s t : State) : Type 0 where
  pub prints : s.printed ≡ t.printed
  pub depth : s.depth ≡ t.depth
  pub control : MatchControl shared Q codes codes' s.control t.control s.counted t.counted

-- ---- steps of a stack

-- the state of these four parts
abbrev state : List ℤ → Control → ℕ → ℕ → State
state printed control counted
    depth = record { printed = printed; control = control; counted = counted; depth = depth }

-- silent steps of the running frame
silent_steps : (codes : ℕ → Code) (u k : ℕ) (g h : Frame) (n : ℕ) → Silently (codes u) k g h n
    → (printed : List ℤ) (callers : List Caller) (counted depth : ℕ)
    → steps codes k (state printed (Running u g callers) counted depth) ≡ state printed (Running u h callers) (counted + n) depth
silent_steps codes u zero g h n s printed callers counted depth = rw (s.0, s.1, add-zero counted)
silent_steps codes u (suc k) g h n s printed callers counted depth =
    let first : step codes (state printed (Running u g callers) counted depth) ≡ state printed (Running u s.0 callers) (counted + s.1) depth = ap (λ t. state_after u callers t (state printed (Running u g callers) counted depth)) s.3 in
    let rest = silent_steps codes u k s.0 h s.2 s.4 printed callers (counted + s.1) depth in
    let sum : (counted + s.1) + s.2 ≡ counted + n = omega (arith, s.5) in
    ap (steps codes k) first ∙ rest ∙ ap (λ c. state printed (Running u h callers) c depth) sum

-- silent steps, and then a transition
then_step : (codes : ℕ → Code) (u k : ℕ) (g h : Frame) (n : ℕ) → Silently (codes u) k g h n → (t : Transition)
    → codes u h ≡ t → (printed : List ℤ) (callers : List Caller) (counted depth : ℕ)
    → steps codes (k + 1) (state printed (Running u g callers) counted depth) ≡ state_after u callers t (state printed (Running u h callers) (counted + n) depth)
then_step codes u k g h n s t is printed callers counted depth =
    steps_add codes k 1 _ ∙ ap (steps codes 1) (silent_steps codes u k g h n s printed callers counted depth) ∙ ap (λ t'. state_after u callers t' (state printed (Running u h callers) (counted + n) depth)) is

module _ (shared : ℕ) (Q : Type 0) (codes codes' : ℕ → Code) (Callable : ℕ → CallEntry → Type 0)
    (keeps : (u : ℕ) (f : Frame) → FrameFits f → FitsAfter shared Callable (codes u f))
    (enters : (u : ℕ) (entry : CallEntry) → Callable u entry → Standing shared Q (codes u) (codes' u) (first_frame entry) (first_frame entry) 0 0) where
  -- what a frame that returns leaves to its callers
  more_counted : (ps qs : List Caller) (A A' a b : ℕ) → (Q → b ≤ a) → MatchCallers shared Q codes codes' ps qs A A'
      → MatchCallers shared Q codes codes' ps qs (A + a) (A' + b)
  more_counted [] [] A A' a b h m = λ q. omega (arith, h q, m q)
  more_counted [] (q ∷ qs) A A' a b h m = absurd m
  more_counted (p ∷ ps) [] A A' a b h m = absurd m
  more_counted (p ∷ ps) (q ∷ qs) A A' a b h m =
      record {
        own = m.own;
        own' = m.own';
        others = m.others + a;
        others' = m.others' + b;
        sum = omega (arith, m.sum);
        sum' = omega (arith, m.sum');
        here = m.here;
        below = more_counted ps qs m.others m.others' a b h m.below;
      }

  -- matching stacks are equally high
  same_height : (ps qs : List Caller) (A A' : ℕ) → MatchCallers shared Q codes codes' ps qs A A' → length ps ≡ length qs
  same_height [] [] A A' m = refl
  same_height [] (q ∷ qs) A A' m = absurd m
  same_height (p ∷ ps) [] A A' m = absurd m
  same_height (p ∷ ps) (q ∷ qs) A A' m = ap suc (same_height ps qs m.others m.others' m.below)

  returns_alike : (answer : Answer) → IsCallAnswer shared answer → (ps qs : List Caller) (E E' : ℕ)
      → MatchCallers shared Q codes codes' ps qs E E'
      → MatchControl shared Q codes codes' (returned answer ps) (returned answer qs) E E'
  returns_alike answer is [] [] E E' m = (refl, m)
  returns_alike answer is [] (q ∷ qs) E E' m = absurd m
  returns_alike answer is (p ∷ ps) [] E E' m = absurd m
  returns_alike answer is (p ∷ ps) (q ∷ qs) E E' m = above m m.own m.own' m.sum m.sum' (record { pair = m.here.goes_on answer is; fits = resumed_fits shared p.into answer p.frame is m.here.fits })

  -- where the second frame comes, after silent steps, to a transition that leads to a matching state, so does the
  -- second stack, with one step more
  matches_after : (s : State) (printed : List ℤ) (u k : ℕ) (g h : Frame) (n : ℕ) (qs : List Caller) (E D : ℕ) (t : Transition)
      → Silently (codes' u) k g h n → codes' u h ≡ t
      → MatchState shared Q codes codes' s (state_after u qs t (state printed (Running u h qs) (E + n) D))
      → (j : ℕ) × MatchState shared Q codes codes' s (steps codes' j (state printed (Running u g qs) E D))
  matches_after s printed u k g h n qs E D t silent is done = (k + 1, subst (MatchState shared Q codes codes' s) (sym (then_step codes' u k g h n silent t is printed qs E D)) done)

  -- one step of the first stack: some number of steps of the second match it
  one_transition : (printed : List ℤ) (u : ℕ) (f : Frame) (ps : List Caller) (u' : ℕ) (g : Frame) (qs : List Caller) (E E' D : ℕ) (t : Transition)
      → codes u f ≡ t → MatchRunning shared Q codes codes' u f ps u' g qs E E'
      → (k : ℕ) × MatchState shared Q codes codes' (state_after u ps t (state printed (Running u f ps) E D)) (steps codes' k (state printed (Running u' g qs) E' D))
  one_transition printed u f ps u' g qs E E' D (Continues n next) is m =
      let kept = subst (FitsAfter shared Callable) is (keeps u f m.here.fits) in (
        0,
        record {
          prints = refl;
          depth = refl;
          control = above m (m.own + n) m.own' (omega (arith, m.sum)) m.sum' (record { pair = pair_on_left shared Q (codes u) (codes' u') m.own m.own' f next g n is m.here.pair; fits = kept });
        },
      )
  one_transition printed u f ps u' g qs E E' D (Prints v next) is m =
      let kept = subst (FitsAfter shared Callable) is (keeps u f m.here.fits) in
      let c = catches_up shared (codes u) (codes' u') f g (Printed v) (Prints v next) is refl m.here.pair.follows in
      let w = shows_print v (codes' u' c.h) c.shows in
      let caught = pair_on_right shared Q (codes u) (codes' u') m.own m.own' f g c.h c.k c.n c.silent m.here.pair in
      matches_after (state_after u ps (Prints v next) (state printed (Running u f ps) E D)) printed u' c.k g c.h c.n qs E' D (Prints v w.0) c.silent w.1 (
      record {
        prints = refl;
        depth = refl;
        control = above m m.own (m.own' + c.n) m.sum (omega (arith, m.sum')) (record { pair = pair_after_prints shared Q (codes u) (codes' u') m.own (m.own' + c.n) f next c.h w.0 v is w.1 caught; fits = kept });
      }
      )
  one_transition printed u f ps u' g qs E E' D (Calls called entry into next) is m =
      let kept = subst (FitsAfter shared Callable) is (keeps u f m.here.fits) in
      let c = catches_up shared (codes u) (codes' u') f g (Called called entry) (Calls called entry into next) is refl m.here.pair.follows in
      let s = shows_call called entry (codes' u' c.h) c.shows in
      let caught = pair_on_right shared Q (codes u) (codes' u') m.own m.own' f g c.h c.k c.n c.silent m.here.pair in
      matches_after (state_after u ps (Calls called entry into next) (state printed (Running u f ps) E D)) printed u' c.k g c.h c.n qs E' D (Calls called entry s.0 s.1) c.silent s.2 (
      record {
        prints = refl;
        depth = ap (λ n. max D (suc (suc n))) (same_height ps qs m.others m.others' m.below);
        control = record {
          own = 0;
          own' = 0;
          others = E;
          others' = E' + c.n;
          sum = sym (add-zero E);
          sum' = sym (add-zero (E' + c.n));
          here = enters called entry kept.0;
          below = above m m.own (m.own' + c.n) m.sum (omega (arith, m.sum')) (record {
            goes_on = λ answer fits. pair_after_call shared Q (codes u) (codes' u') m.own (m.own' + c.n) f next c.h s.1 called entry into s.0 is s.2 caught answer fits;
            fits = kept.1;
          });
        };
      }
      )
  one_transition printed u f ps u' g qs E E' D (Returns answer) is m =
      let kept = subst (FitsAfter shared Callable) is (keeps u f m.here.fits) in
      let c = catches_up shared (codes u) (codes' u') f g (Returned answer) (Returns answer) is refl m.here.pair.follows in
      let w = shows_return answer (codes' u' c.h) c.shows in
      let caught = pair_on_right shared Q (codes u) (codes' u') m.own m.own' f g c.h c.k c.n c.silent m.here.pair in
      let less = pair_at_return shared Q (codes u) (codes' u') m.own (m.own' + c.n) f c.h answer is w caught in
      let below = more_counted ps qs m.others m.others' m.own (m.own' + c.n) less m.below in
      let sum' : m.others' + (m.own' + c.n) ≡ E' + c.n = omega (arith, m.sum') in
      let below' = subst (λ e'. MatchCallers shared Q codes codes' ps qs E e') sum' (subst (λ e. MatchCallers shared Q codes codes' ps qs e (m.others' + (m.own' + c.n))) (sym m.sum) below) in
      matches_after (state_after u ps (Returns answer) (state printed (Running u f ps) E D)) printed u' c.k g c.h c.n qs E' D (Returns answer) c.silent w (
      record { prints = refl; depth = refl; control = returns_alike answer kept ps qs E (E' + c.n) below' }
      )
  one_transition printed u f ps u' g qs E E' D (Traps kind n) is m =
      let c = catches_up shared (codes u) (codes' u') f g (Trapped kind) (Traps kind n) is refl m.here.pair.follows in
      let w = shows_trap kind (codes' u' c.h) c.shows in
      matches_after (state_after u ps (Traps kind n) (state printed (Running u f ps) E D)) printed u' c.k g c.h c.n qs E' D (Traps kind w.0) c.silent w.1 (
      record { prints = refl; depth = refl; control = refl }
      )

  one_control : (printed : List ℤ) (cs ct : Control) (E E' D : ℕ) → MatchControl shared Q codes codes' cs ct E E'
      → (k : ℕ) × MatchState shared Q codes codes' (step codes (state printed cs E D)) (steps codes' k (state printed ct E' D))
  one_control printed (Running u f ps) (Running u' g qs) E E' D m = one_transition printed u f ps u' g qs E E' D (codes u f) refl m
  one_control printed (Ended v) (Ended w) E E' D m = (0, record { prints = refl; depth = refl; control = m })
  one_control printed (Stopped k) (Stopped l) E E' D m = (0, record { prints = refl; depth = refl; control = m })
  one_control printed _ _ E E' D m = absurd m

  one_step : (s t : State) → MatchState shared Q codes codes' s t → (k : ℕ) × MatchState shared Q codes codes' (step codes s) (steps codes' k t)
  one_step s t m =
      let r = one_control s.printed s.control t.control s.counted t.counted s.depth m.control in (
        r.0,
        subst (λ d. MatchState shared Q codes codes' (step codes s) (steps codes' r.0 (state t.printed t.control t.counted d))) m.depth
            (subst (λ p. MatchState shared Q codes codes' (step codes s) (steps codes' r.0 (state p t.control t.counted s.depth))) m.prints r.1),
      )

  pub all_steps : (n : ℕ) (s t : State) → MatchState shared Q codes codes' s t → (k : ℕ) × MatchState shared Q codes codes' (steps codes n s) (steps codes' k t)
  all_steps zero s t m = (0, m)
  all_steps (suc n) s t m =
      let r = one_step s t m in
      let rest = all_steps n (step codes s) (steps codes' r.0 t) r.1 in
      (r.0 + rest.0, subst (MatchState shared Q codes codes' (steps codes (suc n) s)) (sym (steps_add codes' r.0 rest.0 t)) rest.1)
