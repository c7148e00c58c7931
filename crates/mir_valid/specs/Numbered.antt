-- The program that tables of names give: each name replaced by its number, each label by its place. Cited by the
-- contracts of private functions.
use Rattle.std.specs.Prelude.{◌≡◌, ℕ, ℤ, pos, unsigned_abs, List, [], ◌∷◌, ◌++◌, map, fold, length, Option, None, Some, if◌then◌else◌}
use Rattle.std.specs.Option.{option_map}
use Rattle.mir_base.specs.declared.instructions.Operand.{Operand}
use Rattle.mir_base.specs.declared.instructions.Operand.TheVariants.{Var, Const}
use Rattle.mir_base.specs.declared.instructions.Rhs.{Rhs}
use Rattle.mir_base.specs.declared.instructions.Rhs.TheVariants.{Plain, Unary, Binary}
use Rattle.mir_base.specs.declared.instructions.Test.{Test}
use Rattle.mir_base.specs.declared.instructions.Test.TheVariants.{Rel, Holds, Fails}
use Rattle.mir_base.specs.declared.instructions.Inst.{Inst}
use Rattle.mir_base.specs.declared.instructions.Inst.TheVariants.{Receive, Assign, Goto, If, TrapIf, Call, Print, Return}
use Rattle.mir_base.specs.Shapes.{UnitShape}
use Rattle.mir_parse.specs.declared.raw.RawOperand.{RawOperand}
use Rattle.mir_parse.specs.declared.raw.RawOperand.TheVariants.{Var as RawVar, Const as RawConst}
use Rattle.mir_parse.specs.declared.raw.RawRhs.{RawRhs}
use Rattle.mir_parse.specs.declared.raw.RawRhs.TheVariants.{Plain as RawPlain, Unary as RawUnary, Binary as RawBinary}
use Rattle.mir_parse.specs.declared.raw.RawTest.{RawTest}
use Rattle.mir_parse.specs.declared.raw.RawTest.TheVariants.{Rel as RawRel, Holds as RawHolds, Fails as RawFails}
use Rattle.mir_parse.specs.declared.raw.RawForm.{RawForm}
use Rattle.mir_parse.specs.declared.raw.RawForm.TheVariants.{Receive as RawReceive, Assign as RawAssign, Goto as RawGoto, If as RawIf, TrapIf as RawTrapIf, Call as RawCall, Print as RawPrint, Return as RawReturn}
use Rattle.mir_parse.specs.declared.raw.RawInst.{RawInst}
use Rattle.mir_parse.specs.declared.raw.RawLabel.{RawLabel}
use Rattle.mir_parse.specs.declared.raw.RawGlobal.{RawGlobal}
use Rattle.mir_parse.specs.RawUnit.{RawUnitShape}
use Rattle.mir_valid.specs.Names.{NameEntry, has_name}
use Rattle.mir_valid.specs.NameTables.{number_or_zero, entries_from, table_of}
use Rattle.mir_valid.specs.Variables.{body_names}
use Rattle.mir_valid.specs.Rules.{unit_names, global_names, is_bad_number}

-- the names after one more: it is added where it is new
abbrev pub with_name : List (List ℕ) → List ℕ → List (List ℕ)
with_name vars x = if has_name vars x then vars else vars ++ x ∷ []

-- the names `found` grew to these when the other names were added, each that was new
abbrev pub AddsNames : List (List ℕ) → List (List ℕ) → List (List ℕ) → Type 0
AddsNames found names vars = vars ≡ fold with_name found names

-- the names of the globals, each once
abbrev pub global_variables : List RawGlobal → List (List ℕ)
global_variables globals = fold with_name [] (global_names globals)

-- and then those of the body, each once, as one pass over the body finds them
abbrev pub variables_of : List RawGlobal → List RawInst → List (List ℕ)
variables_of globals body = fold with_name (global_variables globals) (body_names body)

-- the numbers of units and variables, and the places of labels
pub record Numbers : Type 0 where
  pub units : List NameEntry
  pub vars : List NameEntry
  pub labels : List NameEntry

-- an operand, with its variable numbered
abbrev pub numbered_operand : List NameEntry → RawOperand → Operand
numbered_operand vars (RawVar x) = Var (number_or_zero vars x)
numbered_operand vars (RawConst z) = Const z

-- the right side of an assignment, with its variables numbered
abbrev pub numbered_rhs : List NameEntry → RawRhs → Rhs
numbered_rhs vars (RawPlain a) = Plain (numbered_operand vars a)
numbered_rhs vars (RawUnary op a) = Unary op (numbered_operand vars a)
numbered_rhs vars (RawBinary op a b) = Binary op (numbered_operand vars a) (numbered_operand vars b)

-- a test, with its variables numbered
abbrev pub numbered_test : List NameEntry → RawTest → Test
numbered_test vars (RawRel op a b) = Rel op (numbered_operand vars a) (numbered_operand vars b)
numbered_test vars (RawHolds a) = Holds (numbered_operand vars a)
numbered_test vars (RawFails a) = Fails (numbered_operand vars a)

-- the variable for the result of a call, numbered
abbrev pub numbered_into : List NameEntry → Option (List ℕ) → Option ℕ
numbered_into vars into = option_map (number_or_zero vars) into

-- what a return gives: 0 where it names nothing
abbrev pub numbered_return : List NameEntry → Option RawOperand → Operand
numbered_return vars None = Const (pos 0)
numbered_return vars (Some a) = numbered_operand vars a

-- the number of a trap; 0 for one that none has
abbrev pub numbered_trap : ℤ → ℕ
numbered_trap z = if is_bad_number z then 0 else unsigned_abs z

-- an instruction, with its variables, its target and its callee numbered
abbrev pub numbered_form : Numbers → RawForm → Inst
numbered_form numbers (RawReceive x) = Receive (number_or_zero numbers.vars x)
numbered_form numbers (RawAssign x rhs) =
    Assign (number_or_zero numbers.vars x) (numbered_rhs numbers.vars rhs)
numbered_form numbers (RawGoto l) = Goto (number_or_zero numbers.labels l)
numbered_form numbers (RawIf test l) =
    If (numbered_test numbers.vars test) (number_or_zero numbers.labels l)
numbered_form numbers (RawTrapIf test z) =
    TrapIf (numbered_test numbers.vars test) (numbered_trap z)
numbered_form numbers (RawCall into f operands) =
    Call (numbered_into numbers.vars into) (number_or_zero numbers.units f)
    (map (numbered_operand numbers.vars) operands)
numbered_form numbers (RawPrint a) = Print (numbered_operand numbers.vars a)
numbered_form numbers (RawReturn a) = Return (numbered_return numbers.vars a)

-- the instructions of a unit, numbered
abbrev pub numbered_body : Numbers → List RawInst → List Inst
numbered_body numbers body = map (λ inst. numbered_form numbers inst.form) body

-- the labels with their places
abbrev pub label_places : List RawLabel → List NameEntry
label_places labels = map (λ label. (label.name, label.place)) labels

-- the units with their numbers
abbrev pub unit_numbers : List RawUnitShape → List NameEntry
unit_numbers units = table_of (entries_from 0 (unit_names units))

-- the numbers by which a unit is read, where the units have these
abbrev pub numbers_of : List RawGlobal → List NameEntry → RawUnitShape → Numbers
numbers_of globals units unit = record {
  units = units;
  vars = entries_from 0 (variables_of globals unit.body);
  labels = table_of (label_places unit.labels);
}

-- a unit, numbered
abbrev pub numbered_unit : List RawGlobal → List NameEntry → RawUnitShape → UnitShape
numbered_unit globals units unit = record {
  name = unit.name;
  shared = length globals;
  vars = variables_of globals unit.body;
  body = numbered_body (numbers_of globals units unit) unit.body;
}

-- the units, numbered
abbrev pub numbered_units : List RawGlobal → List RawUnitShape → List UnitShape
numbered_units globals units = map (numbered_unit globals (unit_numbers units)) units
