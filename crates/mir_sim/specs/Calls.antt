-- Which units call which, by their instructions, and how many frames a run has. Cited by contracts.
use Rattle.std.specs.Prelude.{◌≡◌, ℕ, ◌<◌, ◌≤◌, ℤ, List, length, Option, Some, slice_get}
use Rattle.mir_base.specs.declared.instructions.Inst.TheVariants.{Call}
use Rattle.mir_base.specs.declared.instructions.Operand.{Operand}
use Rattle.mir_base.specs.Shapes.{ProgramShape, body_at}
use Rattle.mir_base.specs.Runs.{run}

-- in this unit of the program some instruction calls that unit
pub record HasCall (program : ProgramShape) (unit called : ℕ) : Type 0 where
  pub place : ℕ
  pub into : Option ℕ
  pub operands : List Operand
  pub at : slice_get (body_at program.units unit) place ≡ Some (Call into called operands)

-- each unit calls units of higher numbers alone
abbrev pub CallsHigher : ProgramShape → Type 0
CallsHigher program = (unit called : ℕ) → HasCall program unit called → unit < called

-- the second's unit of each number calls no unit that the first's does not
abbrev pub CallsNoMore : ProgramShape → ProgramShape → Type 0
CallsNoMore first second = (unit called : ℕ) → HasCall second unit called
    → HasCall first unit called

-- no run ever has more frames than the program has units
abbrev pub HasFewFrames : ProgramShape → Type 0
HasFewFrames program = (inputs : List ℤ) (steps : ℕ)
    → (run program inputs steps).depth ≤ length program.units
