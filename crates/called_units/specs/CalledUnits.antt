-- The units of a program that calls lead to from the first, and the program of these alone. Cited by contracts.
use Rattle.std.specs.Prelude.{◌≡◌, ℕ, ◌<◌, ◌↔◌, Bool, true, List, length, map, slice_get, Some}
use Rattle.mir_base.specs.declared.instructions.Inst.{Inst}
use Rattle.mir_base.specs.declared.instructions.Inst.TheVariants.{Receive, Assign, Goto, If, TrapIf, Call, Print, Return}
use Rattle.mir_base.specs.Shapes.{ProgramShape, UnitShape}
use Rattle.mir_sim.specs.Calls.{HasCall}
use Rattle.flow_graph.specs.Retained.{marked, marked_below}

-- calls lead to the unit from the first one, as no call at all leads to the first
pub data IsCalled (program : ProgramShape) : ℕ → Type 0 where
  at_first : IsCalled program 0
  by_call : (unit called : ℕ) → IsCalled program unit → HasCall program unit called
      → IsCalled program called

-- the marks of these units
pub record MarkCalled (program : ProgramShape) (marks : List Bool) : Type 0 where
  pub long : length marks ≡ length program.units
  pub exact : (u : ℕ) → u < length program.units
      → (slice_get marks u ≡ Some true) ↔ IsCalled program u

-- the instruction with another number of the unit that it calls
abbrev pub redirected_call : (ℕ → ℕ) → Inst → Inst
redirected_call to (Receive x) = Receive x
redirected_call to (Assign x rhs) = Assign x rhs
redirected_call to (Goto place) = Goto place
redirected_call to (If test place) = If test place
redirected_call to (TrapIf test number) = TrapIf test number
redirected_call to (Call into unit operands) = Call into (to unit) operands
redirected_call to (Print a) = Print a
redirected_call to (Return a) = Return a

-- the unit with other numbers in its calls
abbrev pub with_calls : (ℕ → ℕ) → UnitShape → UnitShape
with_calls to unit = record unit { body = map (redirected_call to) unit.body }

-- the marked units in their order, with their new numbers in calls; the globals stay
abbrev pub only_marked : List Bool → ProgramShape → ProgramShape
only_marked marks program =
    record {
      globals = program.globals;
      units = map (with_calls (marked_below marks)) (marked marks program.units);
    }

-- the program of the units that calls lead to
pub record HasCalledUnits (source target : ProgramShape) : Type 0 where
  pub marks : List Bool
  pub are_marks : MarkCalled source marks
  pub is : target ≡ only_marked marks source
