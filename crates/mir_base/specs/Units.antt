-- What one step of a unit does: the instruction at the place of the frame, or the return of 0 at the place of `end`.
-- Cited by contracts.
use Rattle.std.specs.Prelude.{ℕ, ◌+◌, Bool, not, List, map, slice_get, ℤ, pos, Option, Some, None, slice_index_or, if◌then◌else◌}
use Rattle.std.specs.Ordering.{int_eq}
use Rattle.mir_base.specs.declared.instructions.Operand.{Operand}
use Rattle.mir_base.specs.declared.instructions.Operand.TheVariants.{Var, Const}
use Rattle.mir_base.specs.declared.instructions.Rhs.{Rhs}
use Rattle.mir_base.specs.declared.instructions.Rhs.TheVariants.{Plain, Unary, Binary}
use Rattle.mir_base.specs.declared.instructions.Test.{Test}
use Rattle.mir_base.specs.declared.instructions.Test.TheVariants.{Rel, Holds, Fails}
use Rattle.mir_base.specs.declared.operators.Trap.TheVariants.{ZeroDivisor, Raised}
use Rattle.mir_base.specs.declared.instructions.Inst.{Inst}
use Rattle.mir_base.specs.declared.instructions.Inst.TheVariants.{Receive, Assign, Goto, If, TrapIf, Call, Print, Return}
use Rattle.mir_base.specs.Numbers.{wrapped, relation_holds, traps, value_of_op, value_of_un_op}
use Rattle.mir_base.specs.Frames.{Values, with_value, shared_values, Frame, Transition, Continues, Prints, Calls, Returns, Traps, Code}

-- the value of an operand; a constant is read as a signed 64-bit number, which it is in every program
abbrev pub operand_value : Values → Operand → ℤ
operand_value values (Var x) = values x
operand_value values (Const c) = wrapped c

-- the test of a conditional jump or of a trap instruction
abbrev pub test_holds : Values → Test → Bool
test_holds values (Rel op a b) = relation_holds op (operand_value values a) (operand_value values b)
test_holds values (Holds a) = not (int_eq (operand_value values a) (pos 0))
test_holds values (Fails a) = int_eq (operand_value values a) (pos 0)

-- the frame at another place
abbrev pub at : ℕ → Frame → Frame
at place frame = record frame { place = place }

-- and besides with another value of a variable
abbrev pub assigned : ℕ → ℤ → ℕ → Frame → Frame
assigned x v place frame = record frame { place = place; values = with_value x v frame.values }

-- an assignment, which goes on at `place`
abbrev pub assign_transition : ℕ → Rhs → ℕ → Frame → Transition
assign_transition x (Plain a) place frame =
    Continues 0 (assigned x (operand_value frame.values a) place frame)
assign_transition x (Unary op a) place frame =
    Continues 1 (assigned x (value_of_un_op op (operand_value frame.values a)) place frame)
assign_transition x (Binary op a b) place frame =
    if traps op (operand_value frame.values b) then Traps ZeroDivisor 1
    else Continues 1
    (assigned x (value_of_op op (operand_value frame.values a) (operand_value frame.values b)) place
    frame)

-- a trap instruction, which goes on at `place` where its test does not hold
abbrev pub guard_transition : Test → ℕ → ℕ → Frame → Transition
guard_transition test number place frame =
    if test_holds frame.values test then Traps (Raised number) 0 else Continues 0 (at place frame)

-- what is handed back with this value, where the first so many variables are shared
abbrev pub answered : ℕ → ℤ → Frame → Transition
answered shared v frame =
    Returns (record { value = v; globals = shared_values shared frame.values })

-- one instruction, or the end where there is none, of a unit whose first so many variables are shared. Receives stand
-- first, so receive number i is at place i
abbrev pub inst_transition : ℕ → Option Inst → Frame → Transition
inst_transition shared None frame = answered shared (pos 0) frame
inst_transition shared (Some (Receive x)) frame =
    Continues 0
    (assigned x (slice_index_or frame.arguments frame.place (pos 0)) (frame.place + 1) frame)
inst_transition shared (Some (Assign x rhs)) frame = assign_transition x rhs (frame.place + 1) frame
inst_transition shared (Some (Goto place)) frame = Continues 0 (at place frame)
inst_transition shared (Some (If test place)) frame =
    Continues 0 (at (if test_holds frame.values test then place else frame.place + 1) frame)
inst_transition shared (Some (TrapIf test number)) frame =
    guard_transition test number (frame.place + 1) frame
inst_transition shared (Some (Call into unit operands)) frame =
    Calls unit (record {
      arguments = map (operand_value frame.values) operands;
      globals = shared_values shared frame.values;
    }) into
    (at (frame.place + 1) frame)
inst_transition shared (Some (Print a)) frame =
    Prints (operand_value frame.values a) (at (frame.place + 1) frame)
inst_transition shared (Some (Return a)) frame =
    answered shared (operand_value frame.values a) frame

-- what a body does at a frame, where the first so many variables are shared
abbrev pub body_code : ℕ → List Inst → Code
body_code shared body frame = inst_transition shared (slice_get body frame.place) frame
