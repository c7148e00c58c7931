-- From units to programs: where the machines of each number do the same, so do the programs of these machines, and they
-- are equally deep. For proofs only, of the crates above too.
use Rattle.std.proofs.Common.{◌≡◌, ℕ, ◌≤◌, ◌<◌, List, [], ℤ, refl, sym, ap, ◌∙◌, subst, arith, append-nil}
use Rattle.mir_base.specs.Frames.{Answer, CallEntry, Code, Frame, first_frame}
use Rattle.mir_base.specs.FrameLaws.{FrameFits, first_fits}
use Rattle.mir_base.specs.Runs.{Control, Running, Ended, Stopped, State, first_entry, first_state, IsOverAs, steps}
use Rattle.mir_base.specs.UnitRuns.{AreAnswers, IsEntry, UnitCheaper, UnitFollows, UnitSame}
use Rattle.mir_sim.specs.Machines.{AreInputs, Machines, MachinesCheaper, MachinesFollow, MachinesKeep, MachinesShallower, codes_in, machines_run}
use Rattle.mir_sim.specs.PairedLaws.{FitsAfter, MatchControl, MatchState, Standing, all_steps}
use Rattle.mir_sim.specs.StackLaws.{IsFinished, first_enters, one_over}

-- the unit is one of so many, it has as many globals as the first, and this may be handed over to it
pub record Callable (units : ℕ) (machines : Machines) (u : ℕ) (entry : CallEntry) : Type 0 where
  pub there : u < units
  pub shared_is : (machines u).shared ≡ (machines 0).shared
  pub entry_is : IsEntry (machines u) entry

-- where the values of a frame are signed 64-bit numbers, they stay so, calls are of these units and hand over what they
-- receive, and calls and returns hand over the globals, which are those of the first unit
abbrev pub CallsFit : ℕ → Machines → Type 0
CallsFit units machines = (u : ℕ) (frame : Frame) → FrameFits frame
    → FitsAfter (machines 0).shared (Callable units machines) ((machines u).code frame)

-- the machines of each number do the same
abbrev pub EachSame : ℕ → Machines → Machines → Type 0
EachSame units first second = (u : ℕ) → u < units → UnitSame (first u) (second u)

-- the second of each number evaluates no more operators
abbrev pub EachCheaper : ℕ → Machines → Machines → Type 0
EachCheaper units first second = (u : ℕ) → u < units → UnitCheaper (first u) (second u)

-- the second of each number does whatever the first does
abbrev pub EachFollows : ℕ → Machines → Machines → Type 0
EachFollows units first second = (u : ℕ) → u < units → UnitFollows (first u) (second u)

-- a call starts both machines with the same arguments and no cost
enters : (Q : Type 0) (units : ℕ) (first second : Machines) → EachFollows units first second
    → (Q → EachCheaper units first second) → (u : ℕ) (entry : CallEntry) → Callable units first u entry
    → Standing (first 0).shared Q (codes_in first u) (codes_in second u) (first_frame entry) (first_frame entry) 0 0
enters Q units first second each cheap u entry c = record {
  pair = record {
    follows = record { by = λ answers are n. (each u c.there).follows entry answers c.entry_is (theirs answers are) n };
    cheaper = record { by = λ q answers are n m ends ends'. omega (arith, (cheap q u c.there).cheaper entry answers c.entry_is (theirs answers are) n m ends ends') };
  };
  fits = first_fits entry c.entry_is.numbers c.entry_is.globals.numbers;
}
  where
    theirs : (answers : List Answer) → AreAnswers (first 0).shared answers → AreAnswers (first u).shared answers
    theirs answers are = subst (λ n. AreAnswers n answers) (sym c.shared_is) are

-- after each number of steps of the first, some number of steps of the second matches
matched : (Q : Type 0) (units : ℕ) (first second : Machines) → 0 < units → (first 0).shared ≡ (second 0).shared
    → CallsFit units first → EachFollows units first second → (Q → EachCheaper units first second) → (inputs : List ℤ)
    → AreInputs first inputs → (n : ℕ)
    → (m : ℕ) × MatchState (first 0).shared Q (codes_in first) (codes_in second) (machines_run first inputs n) (machines_run second inputs m)
matched Q units first second some alike fit each cheap inputs are n =
    let shared : ℕ = (first 0).shared in
    let standing = enters Q units first second each cheap 0 (first_entry shared inputs) (record { there = some; shared_is = refl; entry_is = first_enters first inputs are }) in
    let start : MatchState (first 0).shared Q (codes_in first) (codes_in second) (first_state (first 0).shared inputs) (first_state (first 0).shared inputs) =
    record {
      prints = refl;
      depth = refl;
      control = record { own = 0; own' = 0; others = 0; others' = 0; sum = refl; sum' = refl; here = standing; below = λ q. omega arith };
    } in
    let r = all_steps shared Q (codes_in first) (codes_in second) (Callable units first) fit (enters Q units first second each cheap) n (first_state shared inputs) (first_state shared inputs) start in
    (r.0, subst (λ k. MatchState shared Q (codes_in first) (codes_in second) (machines_run first inputs n) (steps (codes_in second) r.0 (first_state k inputs))) alike r.1)

-- ---- the same

-- where the first run is over, the second is over in the same way
over_as : (shared : ℕ) (Q : Type 0) (codes codes' : ℕ → Code) (s t : State) (c d : Control) (E E' : ℕ) → t.control ≡ d
    → s.printed ≡ t.printed → MatchControl shared Q codes codes' c d E E' → IsOverAs s t c
over_as shared Q codes codes' s t (Running u f ps) d E E' is same m = tt
over_as shared Q codes codes' s t (Ended v) (Ended w) E E' is same m = (is ∙ ap Ended (sym m.0), sym same)
over_as shared Q codes codes' s t (Stopped k) (Stopped l) E E' is same m = (is ∙ ap Stopped (sym m), sym same)
over_as shared Q codes codes' s t _ _ E E' is same m = absurd m

-- the second program does whatever the first does
pub lifts_follow : (units : ℕ) (first second : Machines) → 0 < units → (first 0).shared ≡ (second 0).shared
    → CallsFit units first → EachFollows units first second → MachinesFollow first second
lifts_follow units first second some alike fit each =
    record {
      follows = λ inputs are n.
          let r = matched ⊥ units first second some alike fit each (λ q. absurd q) inputs are n in
          let s = machines_run first inputs n in
          let t = machines_run second inputs r.0 in (
            r.0,
            record {
              prints = ([], sym r.1.prints ∙ sym (append-nil s.printed));
              over = over_as (first 0).shared ⊥ (codes_in first) (codes_in second) s t s.control t.control s.counted t.counted refl r.1.prints r.1.control;
            },
          );
    }

-- ---- no more evaluations

-- where the first run ended, the second one ended with the same answer, at no greater cost
ends_cheaper : (shared : ℕ) (Q : Type 0) (codes codes' : ℕ → Code) (v : ℤ) (c d : Control) (E E' : ℕ) → c ≡ Ended v
    → Q → MatchControl shared Q codes codes' c d E E' → (d ≡ Ended v) × (E' ≤ E)
ends_cheaper shared Q codes codes' v (Running u f ps) d E E' is q m = cc
ends_cheaper shared Q codes codes' v (Stopped k) d E E' is q m = cc
ends_cheaper shared Q codes codes' v (Ended w) (Ended x) E E' is q m = (ap Ended (sym m.0) ∙ is, m.1 q)
ends_cheaper shared Q codes codes' v (Ended w) _ E E' is q m = absurd m

-- the second program evaluates no more operators
pub lifts_cheaper : (units : ℕ) (first second : Machines) → 0 < units → (first 0).shared ≡ (second 0).shared
    → CallsFit units first → EachFollows units first second → EachCheaper units first second
    → MachinesCheaper first second
lifts_cheaper units first second some alike fit each cheap =
    record {
      cheaper = λ inputs are n m v w ends ends'.
          let r = matched (Unit {0}) units first second some alike fit each (λ q. cheap) inputs are n in
          let s = machines_run first inputs n in
          let t = machines_run second inputs r.0 in
          let e = ends_cheaper (first 0).shared (Unit {0}) (codes_in first) (codes_in second) v s.control t.control s.counted t.counted ends tt r.1.control in
          let same : machines_run second inputs r.0 ≡ machines_run second inputs m = one_over (codes_in second) r.0 m (first_state (second 0).shared inputs) (subst IsFinished (sym e.0) tt) (subst IsFinished (sym ends') tt) in
          subst (λ x. x.counted ≤ s.counted) same e.1;
    }

-- ---- as deep

-- where the first does whatever the second does, the second is never deeper: its frames are those of the first
pub lifts_shallower : (units : ℕ) (first second : Machines) → 0 < units → (second 0).receives ≡ (first 0).receives
    → (second 0).shared ≡ (first 0).shared → CallsFit units second → EachFollows units second first
    → MachinesShallower first second
lifts_shallower units first second some receives alike fit each =
    record {
      shallower = λ inputs are n.
          let r = matched ⊥ units second first some alike fit each (λ q. absurd q) inputs (record { long = are.long ∙ sym receives; numbers = are.numbers }) n in
          (r.0, omega (arith, r.1.depth));
    }

-- ---- all three

-- the second program is the same, evaluates no more operators and is never deeper
pub lifts_keep : (units : ℕ) (first second : Machines) → 0 < units → CallsFit units first → CallsFit units second
    → EachSame units first second → EachCheaper units first second → MachinesKeep first second
lifts_keep units first second some fit fit' same cheap = record {
  same = record {
    inputs = (same 0 some).receives;
    forth = lifts_follow units first second some (same 0 some).shared fit (λ u lt. (same u lt).forth);
    back = lifts_follow units second first some (sym (same 0 some).shared) fit' (λ u lt. (same u lt).back);
  };
  cheaper = lifts_cheaper units first second some (same 0 some).shared fit (λ u lt. (same u lt).forth) cheap;
  shallower = lifts_shallower units first second some (sym (same 0 some).receives) (sym (same 0 some).shared) fit' (λ u lt. (same u lt).back);
}
