-- The raw program that the canonical text of a program spells: names in place of numbers, and `L1`, `L2` in place of
-- places.
use Rattle.std.proofs.Common.{ℕ, suc, ◌+◌, pos, List, [], ◌∷◌, ◌++◌, map, length, Some, if◌then◌else◌}
use Rattle.std.specs.Option.{option_map}
use Rattle.mir_base.specs.declared.instructions.Operand.{Operand}
use Rattle.mir_base.specs.declared.instructions.Operand.TheVariants.{Var, Const}
use Rattle.mir_base.specs.declared.instructions.Rhs.{Rhs}
use Rattle.mir_base.specs.declared.instructions.Rhs.TheVariants.{Plain, Unary, Binary}
use Rattle.mir_base.specs.declared.instructions.Test.{Test}
use Rattle.mir_base.specs.declared.instructions.Test.TheVariants.{Rel, Holds, Fails}
use Rattle.mir_base.specs.declared.instructions.Inst.{Inst}
use Rattle.mir_base.specs.declared.instructions.Inst.TheVariants.{Receive, Assign, Goto, If, TrapIf, Call, Print, Return}
use Rattle.mir_base.specs.Shapes.{UnitShape}
use Rattle.mir_base.specs.Text.{is_target, label, Naming, var_text, called_text}
use Rattle.mir_parse.specs.declared.raw.RawOperand.{RawOperand}
use Rattle.mir_parse.specs.declared.raw.RawOperand.TheVariants.{Var as RawVar, Const as RawConst}
use Rattle.mir_parse.specs.declared.raw.RawRhs.{RawRhs}
use Rattle.mir_parse.specs.declared.raw.RawRhs.TheVariants.{Plain as RawPlain, Unary as RawUnary, Binary as RawBinary}
use Rattle.mir_parse.specs.declared.raw.RawTest.{RawTest}
use Rattle.mir_parse.specs.declared.raw.RawTest.TheVariants.{Rel as RawRel, Holds as RawHolds, Fails as RawFails}
use Rattle.mir_parse.specs.declared.raw.RawForm.{RawForm}
use Rattle.mir_parse.specs.declared.raw.RawForm.TheVariants.{Receive as RawReceive, Assign as RawAssign, Goto as RawGoto, If as RawIf, TrapIf as RawTrapIf, Call as RawCall, Print as RawPrint, Return as RawReturn}
use Rattle.mir_parse.specs.declared.raw.RawInst.{RawInst}
use Rattle.mir_parse.specs.declared.raw.RawLabel.{RawLabel}
use Rattle.mir_parse.specs.declared.raw.RawGlobal.{RawGlobal}
use Rattle.mir_parse.specs.RawUnit.{RawUnitShape}

-- an operand by names
abbrev pub raw_operand : Naming → Operand → RawOperand
raw_operand naming (Var x) = RawVar (var_text naming x)
raw_operand naming (Const z) = RawConst z

-- a right side by names
abbrev pub raw_rhs : Naming → Rhs → RawRhs
raw_rhs naming (Plain a) = RawPlain (raw_operand naming a)
raw_rhs naming (Unary op a) = RawUnary op (raw_operand naming a)
raw_rhs naming (Binary op a b) = RawBinary op (raw_operand naming a) (raw_operand naming b)

-- a test by names
abbrev pub raw_test : Naming → Test → RawTest
raw_test naming (Rel op a b) = RawRel op (raw_operand naming a) (raw_operand naming b)
raw_test naming (Holds a) = RawHolds (raw_operand naming a)
raw_test naming (Fails a) = RawFails (raw_operand naming a)

-- an instruction by names
abbrev pub raw_form : Naming → Inst → RawForm
raw_form naming (Receive x) = RawReceive (var_text naming x)
raw_form naming (Assign x rhs) = RawAssign (var_text naming x) (raw_rhs naming rhs)
raw_form naming (Goto place) = RawGoto (label naming.body place)
raw_form naming (If test place) = RawIf (raw_test naming test) (label naming.body place)
raw_form naming (TrapIf test number) = RawTrapIf (raw_test naming test) (pos number)
raw_form naming (Call into unit operands) = RawCall (option_map (var_text naming) into) (called_text naming unit) (map (raw_operand naming) operands)
raw_form naming (Print a) = RawPrint (raw_operand naming a)
raw_form naming (Return a) = RawReturn (Some (raw_operand naming a))

-- the instructions, of which the first stands on this line
abbrev pub raw_insts : Naming → ℕ → List Inst → List RawInst
raw_insts naming line [] = []
raw_insts naming line (inst ∷ insts) = record { line = line; form = raw_form naming inst } ∷ raw_insts naming (line + 1) insts

-- the label of a place, where it is jumped to
abbrev pub raw_label : List Inst → ℕ → ℕ → List RawLabel
raw_label body line place = if is_target body place then record { name = label body place; place = place; line = line } ∷ [] else []

-- the labels of this many places, of which the first stands on this line
abbrev pub raw_labels : List Inst → ℕ → ℕ → List Inst → List RawLabel
raw_labels body line place [] = raw_label body line place
raw_labels body line place (inst ∷ insts) = raw_label body line place ++ raw_labels body (line + 1) (suc place) insts

-- the names in a unit, among units of these names
abbrev pub unit_naming : List (List ℕ) → UnitShape → Naming
unit_naming units unit = record { units = units; vars = unit.vars; body = unit.body }

-- a unit, among units of these names, whose text begins on this line
abbrev pub raw_unit : List (List ℕ) → ℕ → UnitShape → RawUnitShape
raw_unit units line unit = record {
  name = unit.name;
  line = line;
  labels = raw_labels unit.body (line + 1) 0 unit.body;
  body = raw_insts (unit_naming units unit) (line + 1) unit.body;
}

-- the units, of which the first begins at this line
abbrev pub raw_units : List (List ℕ) → ℕ → List UnitShape → List RawUnitShape
raw_units names line [] = []
raw_units names line (unit ∷ units) = raw_unit names line unit ∷ raw_units names (line + 1 + length unit.body + 1) units

-- the global lines, of which the first stands on this line
abbrev pub raw_globals : ℕ → List (List ℕ) → List RawGlobal
raw_globals line [] = []
raw_globals line (name ∷ names) = record { name = name; line = line } ∷ raw_globals (line + 1) names
