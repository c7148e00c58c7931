-- What a walk over the units that calls lead to keeps: marks, and a stack of the marked units whose calls have yet to be
-- followed. Cited by contracts of src/called.rt alone.
use Rattle.std.specs.Prelude.{◌≡◌, ◌⊎◌, ℕ, ◌<◌, true, Bool, List, length, slice_get, Option, Some}
use Rattle.mir_base.specs.declared.instructions.Inst.{Inst}
use Rattle.mir_base.specs.declared.instructions.Inst.TheVariants.{Call}
use Rattle.mir_base.specs.declared.instructions.Operand.{Operand}
use Rattle.mir_base.specs.Shapes.{ProgramShape}
use Rattle.mir_sim.specs.Calls.{HasCall}
use Rattle.flow_graph.specs.Numbering.{is_in}
use Rattle.called_units.specs.CalledUnits.{IsCalled}

-- a marked unit is on the stack, or is the one at hand, or the units that it calls are marked
pub record FollowsCalls (program : ProgramShape) (marks : List Bool) (stack : List ℕ)
    (at_hand : Option ℕ) : Type 0 where
  pub long : length marks ≡ length program.units
  pub sound : (u : ℕ) → slice_get marks u ≡ Some true → IsCalled program u
  pub first_marked : slice_get marks 0 ≡ Some true
  pub stacked : (u : ℕ) → is_in u stack ≡ true → slice_get marks u ≡ Some true
  pub closed : (u : ℕ) → slice_get marks u ≡ Some true → (is_in u stack ≡ true) ⊎ (at_hand ≡ Some u)
      ⊎ ((called : ℕ) → HasCall program u called → slice_get marks called ≡ Some true)

-- of the first so many instructions of a body each call is of a marked unit
abbrev pub CallsMarked : List Inst → ℕ → List Bool → Type 0
CallsMarked body count marks = (place called : ℕ) (into : Option ℕ) (operands : List Operand)
    → place < count
    → slice_get body place ≡ Some (Call into called operands) → slice_get marks called ≡ Some true
