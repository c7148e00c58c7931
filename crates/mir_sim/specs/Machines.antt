-- Programs of machines, one for each unit: the units themselves, or their graphs. Their runs, and when one does the
-- same as another, evaluates no more operators and is never deeper. Cited by contracts, and by proofs of the crates
-- above.
use Rattle.std.specs.Prelude.{◌≡◌, ℕ, ◌≤◌, List, length, ℤ}
use Rattle.mir_base.specs.Shapes.{ProgramShape}
use Rattle.mir_base.specs.Frames.{Code}
use Rattle.mir_base.specs.Runs.{AreNumbers, Ended, IsMatched, State, first_state, inputs_of, run, steps}
use Rattle.mir_base.specs.UnitRuns.{Machine}

-- for all inputs and every number of steps of the second, the second has then had at most as many frames as the first
-- has had after some number of steps
pub record Shallower (first second : ProgramShape) : Type 0 where
  pub shallower : (inputs : List ℤ) → length inputs ≡ inputs_of first → AreNumbers inputs → (n : ℕ)
      → (m : ℕ)
      × ((run second inputs n).depth ≤ (run first inputs m).depth)

-- ---- programs of machines

-- the machine of each unit, by number
abbrev pub Machines : Type 0
Machines = ℕ → Machine

-- what each unit does, by number
abbrev pub codes_in : Machines → ℕ → Code
codes_in machines unit = (machines unit).code

-- the state after n steps, or at the end if that comes first; there are as many globals as the first machine has, and
-- each begins at 0
abbrev pub machines_run : Machines → List ℤ → ℕ → State
machines_run machines inputs n =
    steps (codes_in machines) n (first_state (machines 0).shared inputs)

-- as many inputs as the first unit receives, each of them a signed 64-bit number
pub record AreInputs (machines : Machines) (inputs : List ℤ) : Type 0 where
  pub long : length inputs ≡ (machines 0).receives
  pub numbers : AreNumbers inputs

-- for all inputs and every number of steps of the first, some number of steps of the second matches
pub record MachinesFollow (first second : Machines) : Type 0 where
  pub follows : (inputs : List ℤ) → AreInputs first inputs → (n : ℕ) → (m : ℕ)
      × IsMatched (machines_run first inputs n) (machines_run second inputs m)

-- the two take equally many inputs, and on all of them print the same, end the same, raise the same trap or run on
-- alike
pub record MachinesSame (first second : Machines) : Type 0 where
  pub inputs : (first 0).receives ≡ (second 0).receives
  pub forth : MachinesFollow first second
  pub back : MachinesFollow second first

-- on all inputs on which both end, the second has counted at most as many evaluations as the first
pub record MachinesCheaper (first second : Machines) : Type 0 where
  pub cheaper : (inputs : List ℤ) → AreInputs first inputs → (n m : ℕ) (v w : ℤ)
      → (machines_run first inputs n).control ≡ Ended v → (machines_run second inputs m).control
      ≡ Ended w
      → (machines_run second inputs m).counted ≤ (machines_run first inputs n).counted

-- the second never has more frames than the first has had at some time
pub record MachinesShallower (first second : Machines) : Type 0 where
  pub shallower : (inputs : List ℤ) → AreInputs first inputs → (n : ℕ) → (m : ℕ)
      × ((machines_run second inputs n).depth ≤ (machines_run first inputs m).depth)

-- the second does the same as the first, evaluates no more, and is never deeper
pub record MachinesKeep (first second : Machines) : Type 0 where
  pub same : MachinesSame first second
  pub cheaper : MachinesCheaper first second
  pub shallower : MachinesShallower first second
