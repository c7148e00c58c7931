-- The rule by which a rewriting of a whole program is shown to keep what the program does, where calls come or go so
-- that the units are not compared one by one: one relation between the stacks of the two sides, which holds at the
-- start and which both sides keep up, some steps of the one for some steps of the other. For proofs only, of the crates
-- above too.
use Rattle.std.specs.Prelude.{◌≡◌, ◌⊎◌, ℕ, ◌+◌, ◌≤◌, ◌<◌, max, List, [], ◌++◌, replicate, ℤ, pos}
use Rattle.mir_base.specs.Frames.{CallEntry, Code, Frame, first_frame}
use Rattle.mir_base.specs.Runs.{Caller, Control, Running, Ended, Stopped, State, steps}
use Rattle.mir_base.specs.UnitRuns.{IsEntry}
use Rattle.mir_sim.specs.Machines.{Machines, codes_in}

-- ---- stacks

-- the frames of a run that is not over: the running one, of this unit, and the callers, the latest first
pub record Stack : Type 0 where
  pub unit : ℕ
  pub frame : Frame
  pub callers : List Caller

-- the run whose frames these are is not over
abbrev pub running_of : Stack → Control
running_of stack = Running stack.unit stack.frame stack.callers

-- the one frame of the first unit, which is entered so
abbrev pub first_stack : CallEntry → Stack
first_stack entry = record { unit = 0; frame = first_frame entry; callers = [] }

-- a state of these
abbrev pub state_with : List ℤ → Control → ℕ → ℕ → State
state_with printed control counted
    depth = record { printed = printed; control = control; counted = counted; depth = depth }

-- So many steps lead from the one control to the other, whatever was printed and counted before and however deep the
-- run was: they print these values, count so many evaluations, and their calls make at most so many frames
abbrev pub StepsLead : (ℕ → Code) → ℕ → Control → Control → List ℤ → ℕ → ℕ → Type 0
StepsLead codes k from to prints counted frames = (printed : List ℤ) (before depth : ℕ)
    → steps codes k (state_with printed from before depth)
    ≡ state_with (printed ++ prints) to (before + counted) (max depth frames)

-- ---- the rule

-- a relation of a stack of the first side and a stack of the second, at a measure
abbrev pub StackRelation : Type 1
StackRelation = ℕ → Stack → Stack → Type 0

-- the relation, or both runs are over in the same way
abbrev pub Abreast : StackRelation → ℕ → Control → Control → Type 0
Abreast R z (Running u f ps) (Running v g qs) = R z (record { unit = u; frame = f; callers = ps })
    (record { unit = v; frame = g; callers = qs })
Abreast R z (Ended result) (Ended result') = result ≡ result'
Abreast R z (Stopped kind) (Stopped kind') = kind ≡ kind'
Abreast R z _ _ = ⊥

-- Some steps of the first side and some of the second lead to where the two are abreast again. They print the same, and
-- those of the second count no more evaluations and make no more frames. A side takes at least one step, or the measure
-- falls, so that neither can take none for ever
pub record MeetsAgain (R : StackRelation) (codes codes' : ℕ → Code) (z : ℕ)
    (from from' : Stack) : Type 0 where
  pub steps : ℕ
  pub steps' : ℕ
  pub to : Control
  pub to' : Control
  pub prints : List ℤ
  pub counted : ℕ
  pub counted' : ℕ
  pub frames : ℕ
  pub frames' : ℕ
  pub leads : StepsLead codes steps (running_of from) to prints counted frames
  pub leads' : StepsLead codes' steps' (running_of from') to' prints counted' frames'
  pub cheaper : counted' ≤ counted
  pub shallower : frames' ≤ frames
  pub measure : ℕ
  pub abreast : Abreast R measure to to'
  pub moves : (1 ≤ steps) ⊎ (measure < z)
  pub moves' : (1 ≤ steps') ⊎ (measure < z)

-- The rule: R holds at the start, where each global is 0, and related stacks meet again. It shows that the second
-- program is the same as the first, evaluates no more operators and is never deeper (`stacks_keep`)
pub record StacksSimulate (first second : Machines) (R : StackRelation) : Type 0 where
  pub receives : (first 0).receives ≡ (second 0).receives
  pub shared : (first 0).shared ≡ (second 0).shared
  pub starts : (entry : CallEntry) → IsEntry (first 0) entry
      → entry.globals ≡ replicate (first 0).shared (pos 0)
      → (measure : ℕ) × R measure (first_stack entry) (first_stack entry)
  pub meets : (z : ℕ) (from from' : Stack) → R z from from'
      → MeetsAgain R (codes_in first) (codes_in second) z from from'
