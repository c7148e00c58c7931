-- What the types of a program say of its names and numbers. Cited by the contracts of private functions.
use Rattle.std.specs.Prelude.{◌+◌, ◌^◌, ◌<◌, length, FitsSigned}
use Rattle.std.specs.List.{All}
use Rattle.std.specs.Int.{w64}
use Rattle.mir_base.specs.declared.instructions.Operand.{Operand}
use Rattle.mir_base.specs.declared.instructions.Operand.TheVariants.{Var, Const}
use Rattle.mir_base.specs.declared.instructions.Rhs.{Rhs}
use Rattle.mir_base.specs.declared.instructions.Rhs.TheVariants.{Plain, Unary, Binary}
use Rattle.mir_base.specs.declared.instructions.Test.{Test}
use Rattle.mir_base.specs.declared.instructions.Test.TheVariants.{Rel, Holds, Fails}
use Rattle.mir_base.specs.declared.instructions.Inst.{Inst}
use Rattle.mir_base.specs.declared.instructions.Inst.TheVariants.{Receive, Assign, Goto, If, TrapIf, Call, Print, Return}
use Rattle.mir_base.specs.Names.{IsName}
use Rattle.mir_base.specs.Shapes.{UnitShape, ProgramShape, AllBelow, inst_vars, IsTidy, IsProgram}

-- a constant is a number of 64 bits with a sign
abbrev pub OperandWellTyped : Operand → Type 0
OperandWellTyped (Var x) = Unit {0}
OperandWellTyped (Const z) = FitsSigned w64 z

-- each constant of a right side is one
abbrev pub RhsWellTyped : Rhs → Type 0
RhsWellTyped (Plain a) = OperandWellTyped a
RhsWellTyped (Unary op a) = OperandWellTyped a
RhsWellTyped (Binary op a b) = OperandWellTyped a × OperandWellTyped b

-- each constant of a test is one
abbrev pub TestWellTyped : Test → Type 0
TestWellTyped (Rel op a b) = OperandWellTyped a × OperandWellTyped b
TestWellTyped (Holds a) = OperandWellTyped a
TestWellTyped (Fails a) = OperandWellTyped a

-- each constant of an instruction is one, and the number of a trap is one of 8 bits
abbrev pub InstWellTyped : Inst → Type 0
InstWellTyped (Receive x) = Unit {0}
InstWellTyped (Assign x rhs) = RhsWellTyped rhs
InstWellTyped (Goto place) = Unit {0}
InstWellTyped (If test place) = TestWellTyped test
InstWellTyped (TrapIf test number) = TestWellTyped test × (number < 2 ^ 8)
InstWellTyped (Call into unit operands) = All OperandWellTyped operands
InstWellTyped (Print a) = OperandWellTyped a
InstWellTyped (Return a) = OperandWellTyped a

-- names are spelled as names, the unit is tidy, constants are numbers of 64 bits, and so is the number of labels
pub record UnitWellTyped (unit : UnitShape) : Type 0 where
  pub name : IsName unit.name
  pub vars : All IsName unit.vars
  pub tidy : IsTidy unit.shared unit.vars unit.body
  pub below : All (λ inst. AllBelow (length unit.vars) (inst_vars inst)) unit.body
  pub numbers : All InstWellTyped unit.body
  pub few : length unit.body + 1 < 2 ^ 64

-- its units fit together and have its globals, whose names are spelled as such, and each is well typed
pub record ProgramWellTyped (program : ProgramShape) : Type 0 where
  pub fits : IsProgram program.globals program.units
  pub globals : All IsName program.globals
  pub units : All UnitWellTyped program.units
