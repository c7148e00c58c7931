-- What program a raw program stands for: names become numbers, and labels become places. Cited by contracts.
use Rattle.std.specs.Prelude.{◌≡◌, ℕ, pos, List, [], ◌∷◌, ◌++◌, length, slice_get, Option, None, Some, Any}
use Rattle.mir_base.specs.declared.instructions.Operand.{Operand}
use Rattle.mir_base.specs.declared.instructions.Operand.TheVariants.{Var, Const}
use Rattle.mir_base.specs.declared.instructions.Rhs.{Rhs}
use Rattle.mir_base.specs.declared.instructions.Rhs.TheVariants.{Plain, Unary, Binary}
use Rattle.mir_base.specs.declared.instructions.Test.{Test}
use Rattle.mir_base.specs.declared.instructions.Test.TheVariants.{Rel, Holds, Fails}
use Rattle.mir_base.specs.declared.instructions.Inst.{Inst}
use Rattle.mir_base.specs.declared.instructions.Inst.TheVariants.{Receive, Assign, Goto, If, TrapIf, Call, Print, Return}
use Rattle.mir_base.specs.Shapes.{UnitShape, ProgramShape}
use Rattle.mir_parse.specs.declared.raw.RawOperand.{RawOperand}
use Rattle.mir_parse.specs.declared.raw.RawOperand.TheVariants.{Var as RawVar, Const as RawConst}
use Rattle.mir_parse.specs.declared.raw.RawRhs.{RawRhs}
use Rattle.mir_parse.specs.declared.raw.RawRhs.TheVariants.{Plain as RawPlain, Unary as RawUnary, Binary as RawBinary}
use Rattle.mir_parse.specs.declared.raw.RawTest.{RawTest}
use Rattle.mir_parse.specs.declared.raw.RawTest.TheVariants.{Rel as RawRel, Holds as RawHolds, Fails as RawFails}
use Rattle.mir_parse.specs.declared.raw.RawForm.{RawForm}
use Rattle.mir_parse.specs.declared.raw.RawForm.TheVariants.{Receive as RawReceive, Assign as RawAssign, Goto as RawGoto, If as RawIf, TrapIf as RawTrapIf, Call as RawCall, Print as RawPrint, Return as RawReturn}
use Rattle.mir_parse.specs.declared.raw.RawLabel.{RawLabel}
use Rattle.mir_parse.specs.declared.raw.Raw.{Raw}
use Rattle.mir_parse.specs.RawUnit.{RawUnitShape}
use Rattle.mir_valid.specs.Variables.{body_names, FirstNames}
use Rattle.mir_valid.specs.Rules.{unit_names, global_names}

-- the lists are equally long, and each item of the first stands for the item of the second at its place
abbrev pub EachStands : {A B : Type 0} → (A → B → Type 0) → List A → List B → Type 0
EachStands R [] [] = Unit {0}
EachStands R [] (y ∷ ys) = ⊥
EachStands R (x ∷ xs) [] = ⊥
EachStands R (x ∷ xs) (y ∷ ys) = R x y × EachStands R xs ys

-- what the names in a unit stand for: the units and the unit's variables by number, and its labels
pub record UnitNames : Type 0 where
  pub units : List (List ℕ)
  pub vars : List (List ℕ)
  pub labels : List RawLabel

-- x is the name with this number
abbrev pub IsNumber : List (List ℕ) → List ℕ → ℕ → Type 0
IsNumber names x number = slice_get names number ≡ Some x

-- some label with this name stands at this place
abbrev pub IsPlace : List RawLabel → List ℕ → ℕ → Type 0
IsPlace labels l place = Any (λ label. (label.name ≡ l) × (label.place ≡ place)) labels

-- an operand stands for the variable of its name, or for its number
abbrev pub OperandStands : List (List ℕ) → RawOperand → Operand → Type 0
OperandStands vars (RawVar x) (Var number) = IsNumber vars x number
OperandStands vars (RawConst z) (Const w) = w ≡ z
OperandStands vars raw a = ⊥

-- a right side stands for the same operator on what its operands stand for
abbrev pub RhsStands : List (List ℕ) → RawRhs → Rhs → Type 0
RhsStands vars (RawPlain a) (Plain b) = OperandStands vars a b
RhsStands vars (RawUnary raw_op a) (Unary op b) = (op ≡ raw_op) × OperandStands vars a b
RhsStands vars (RawBinary raw_op a b) (Binary op c d) = (op ≡ raw_op) × OperandStands vars a c
    × OperandStands vars b d
RhsStands vars raw rhs = ⊥

-- a test stands for the same relation of what its operands stand for
abbrev pub TestStands : List (List ℕ) → RawTest → Test → Type 0
TestStands vars (RawRel raw_op a b) (Rel op c d) = (op ≡ raw_op) × OperandStands vars a c
    × OperandStands vars b d
TestStands vars (RawHolds a) (Holds b) = OperandStands vars a b
TestStands vars (RawFails a) (Fails b) = OperandStands vars a b
TestStands vars raw test = ⊥

-- the variable for a call's result, if there is one
abbrev pub IntoStands : List (List ℕ) → Option (List ℕ) → Option ℕ → Type 0
IntoStands vars None None = Unit {0}
IntoStands vars (Some x) (Some number) = IsNumber vars x number
IntoStands vars raw into = ⊥

-- a `return` alone returns 0
abbrev pub ReturnStands : List (List ℕ) → Option RawOperand → Operand → Type 0
ReturnStands vars None a = a ≡ Const (pos 0)
ReturnStands vars (Some raw) a = OperandStands vars raw a

-- an instruction stands for the same one on numbers and places
abbrev pub FormStands : UnitNames → RawForm → Inst → Type 0
FormStands naming (RawReceive x) (Receive number) = IsNumber naming.vars x number
FormStands naming (RawAssign x raw_rhs) (Assign number rhs) = IsNumber naming.vars x number
    × RhsStands naming.vars raw_rhs rhs
FormStands naming (RawGoto l) (Goto place) = IsPlace naming.labels l place
FormStands naming (RawIf raw_test l) (If test place) = TestStands naming.vars raw_test test
    × IsPlace naming.labels l place
FormStands naming (RawTrapIf raw_test z) (TrapIf test n) = TestStands naming.vars raw_test test
    × (z ≡ pos n)
FormStands naming (RawCall raw_into f raw_operands) (Call into unit operands) =
    IntoStands naming.vars raw_into into × IsNumber naming.units f unit
    × EachStands (OperandStands naming.vars) raw_operands operands
FormStands naming (RawPrint raw) (Print a) = OperandStands naming.vars raw a
FormStands naming (RawReturn raw) (Return a) = ReturnStands naming.vars raw a
FormStands naming form inst = ⊥

-- a unit, among globals and units of these names: the globals are its first variables, and the others are numbered in
-- the order of their first occurrence
pub record UnitStands (globals units : List (List ℕ)) (raw : RawUnitShape)
    (unit : UnitShape) : Type 0 where
  pub name : unit.name ≡ raw.name
  pub shared : unit.shared ≡ length globals
  pub vars : FirstNames (globals ++ body_names raw.body) unit.vars
  pub body : EachStands
      (λ inst. FormStands (record { units = units; vars = unit.vars; labels = raw.labels })
      inst.form) raw.body
      unit.body

-- the raw units stand for these units; a unit's number is its place
abbrev pub UnitsStand : List (List ℕ) → List RawUnitShape → List UnitShape → Type 0
UnitsStand globals raw units = EachStands (UnitStands globals (unit_names raw)) raw units

-- a raw program stands for a program
pub record StandsFor (raw : Raw) (program : ProgramShape) : Type 0 where
  pub globals : program.globals ≡ global_names raw.globals
  pub units : UnitsStand (global_names raw.globals) raw.units program.units

-- a raw program stands for no program but this one
abbrev pub StandsForNoOther : Raw → ProgramShape → Type 0
StandsForNoOther raw program = (other : ProgramShape) → StandsFor raw other → other ≡ program

-- a raw program stands for one program at most
abbrev pub StandsForAtMostOne : Raw → Type 0
StandsForAtMostOne raw = (one other : ProgramShape) → StandsFor raw one → StandsFor raw other
    → one ≡ other
