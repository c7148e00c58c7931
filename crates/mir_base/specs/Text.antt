-- The canonical text of a program: for each global `global NAME`, and for each unit `NAME: begin`, a line for each
-- instruction, and `end`. Cited by contracts.
use Rattle.std.specs.Prelude.{ℕ, zero, suc, ◌+◌, Bool, false, if◌then◌else◌, List, [], ◌∷◌, ◌++◌, map, codes, decimal, length, nat_eq, slice_index_or, Option, Some, None}
use Rattle.std.specs.List.{flat_map, list_any, join_with_byte}
use Rattle.std.specs.Fmt.{signed_decimal}
pub use Rattle.mir_base.specs.Operators.{op_text, un_op_text, rel_op_text}
use Rattle.mir_base.specs.declared.instructions.Operand.{Operand}
use Rattle.mir_base.specs.declared.instructions.Operand.TheVariants.{Var, Const}
use Rattle.mir_base.specs.declared.instructions.Rhs.{Rhs}
use Rattle.mir_base.specs.declared.instructions.Rhs.TheVariants.{Plain, Unary, Binary}
use Rattle.mir_base.specs.declared.instructions.Test.{Test}
use Rattle.mir_base.specs.declared.instructions.Test.TheVariants.{Rel, Holds, Fails}
use Rattle.mir_base.specs.declared.instructions.Inst.{Inst}
use Rattle.mir_base.specs.declared.instructions.Inst.TheVariants.{Receive, Assign, Goto, If, TrapIf, Call, Print, Return}
use Rattle.mir_base.specs.Shapes.{UnitShape, ProgramShape}

-- ---- labels

-- the instruction jumps to this place
abbrev pub jumps_to : ℕ → Inst → Bool
jumps_to place (Receive x) = false
jumps_to place (Assign x rhs) = false
jumps_to place (Goto target) = nat_eq target place
jumps_to place (If test target) = nat_eq target place
jumps_to place (TrapIf test number) = false
jumps_to place (Call into unit operands) = false
jumps_to place (Print a) = false
jumps_to place (Return a) = false

-- some instruction of the body jumps to this place
abbrev pub is_target : List Inst → ℕ → Bool
is_target body place = list_any (jumps_to place) body

-- how many places below this one are jumped to
abbrev pub targets_below : List Inst → ℕ → ℕ
targets_below body zero = 0
targets_below body (suc place) = targets_below body place + (if is_target body place then 1 else 0)

-- the places that are jumped to are named `L1`, `L2` and so on, in ascending order
abbrev pub label : List Inst → ℕ → List ℕ
label body place = codes "L" ++ decimal (targets_below body place + 1)

-- what stands before the instruction at a place, or before `end`
abbrev pub label_before : List Inst → ℕ → List ℕ
label_before body place = if is_target body place then label body place ++ codes ": " else []

-- ---- instructions

-- what the numbers in an instruction stand for: the names of the units and of the unit's variables, and its body
pub record Naming : Type 0 where
  pub units : List (List ℕ)
  pub vars : List (List ℕ)
  pub body : List Inst

-- the name of a variable
abbrev pub var_text : Naming → ℕ → List ℕ
var_text naming x = slice_index_or naming.vars x []

-- the name of a unit
abbrev pub called_text : Naming → ℕ → List ℕ
called_text naming unit = slice_index_or naming.units unit []

-- `x`, or a number in decimal
abbrev pub operand_text : Naming → Operand → List ℕ
operand_text naming (Var x) = var_text naming x
operand_text naming (Const z) = signed_decimal z

-- `a`, `- a` or `a + b`
abbrev pub rhs_text : Naming → Rhs → List ℕ
rhs_text naming (Plain a) = operand_text naming a
rhs_text naming (Unary op a) = un_op_text op ++ codes " " ++ operand_text naming a
rhs_text naming (Binary op a b) =
    operand_text naming a ++ codes " " ++ op_text op ++ codes " " ++ operand_text naming b

-- `a < b`, `a` or `! a`
abbrev pub test_text : Naming → Test → List ℕ
test_text naming (Rel op a b) =
    operand_text naming a ++ codes " " ++ rel_op_text op ++ codes " " ++ operand_text naming b
test_text naming (Holds a) = operand_text naming a
test_text naming (Fails a) = codes "! " ++ operand_text naming a

-- `(a,int;b,int)`; 59 is the semicolon
abbrev pub args_text : Naming → List Operand → List ℕ
args_text naming operands =
    codes "(" ++ join_with_byte 59 (map (λ a. operand_text naming a ++ codes ",int") operands)
    ++ codes ")"

-- `call f,(a,int)` or `x <- f,(a,int)`
abbrev pub call_text : Naming → Option ℕ → ℕ → List Operand → List ℕ
call_text naming None unit operands =
    codes "call " ++ called_text naming unit ++ codes "," ++ args_text naming operands
call_text naming (Some x) unit operands =
    var_text naming x ++ codes " <- " ++ called_text naming unit ++ codes ","
    ++ args_text naming operands

-- the line of an instruction, without its label
abbrev pub inst_text : Naming → Inst → List ℕ
inst_text naming (Receive x) = codes "receive " ++ var_text naming x ++ codes "(val)"
inst_text naming (Assign x rhs) = var_text naming x ++ codes " <- " ++ rhs_text naming rhs
inst_text naming (Goto place) = codes "goto " ++ label naming.body place
inst_text naming (If test place) =
    codes "if " ++ test_text naming test ++ codes " goto " ++ label naming.body place
inst_text naming (TrapIf test number) =
    codes "if " ++ test_text naming test ++ codes " trap " ++ decimal number
inst_text naming (Call into unit operands) = call_text naming into unit operands
inst_text naming (Print a) = codes "print " ++ operand_text naming a
inst_text naming (Return a) = codes "return " ++ operand_text naming a

-- ---- programs

-- the lines of instructions, of which the first is at this place
abbrev pub lines_text : Naming → ℕ → List Inst → List ℕ
lines_text naming place [] = []
lines_text naming place (inst ∷ insts) =
    label_before naming.body place ++ inst_text naming inst ++ codes "\n"
    ++ lines_text naming (suc place) insts

-- a unit, among units of these names
abbrev pub unit_text : List (List ℕ) → UnitShape → List ℕ
unit_text units unit =
    let naming : Naming = record { units = units; vars = unit.vars; body = unit.body } in
    let last : List ℕ = label_before unit.body (length unit.body) ++ codes "end\n" in
    unit.name ++ codes ": begin\n" ++ lines_text naming 0 unit.body ++ last

-- `global g`
abbrev pub global_text : List ℕ → List ℕ
global_text name = codes "global " ++ name ++ codes "\n"

-- a line for each global, and the units, one after the other
abbrev pub canonical_text : ProgramShape → List ℕ
canonical_text program =
    flat_map global_text program.globals
    ++ flat_map (unit_text (map (λ unit. unit.name) program.units)) program.units
