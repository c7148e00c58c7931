-- The trial program of a number: each unit has sixty groups of instructions, which are drawn, and calls the next unit.
-- Cited by contracts.
use Rattle.std.specs.Prelude.{ℕ, zero, suc, pos, ◌+◌, ◌==◌, Bool, List, [], ◌∷◌, ◌++◌, length, codes, if◌then◌else◌, Some}
use Rattle.mir_base.specs.declared.instructions.Inst.{Inst}
use Rattle.mir_base.specs.declared.instructions.Inst.TheVariants.{Receive, Assign, If, Call, Print, Return}
use Rattle.mir_base.specs.declared.instructions.Operand.{Operand}
use Rattle.mir_base.specs.declared.instructions.Operand.TheVariants.{Var, Const}
use Rattle.mir_base.specs.declared.instructions.Rhs.{Rhs}
use Rattle.mir_base.specs.declared.instructions.Rhs.TheVariants.{Plain, Binary}
use Rattle.mir_base.specs.declared.instructions.Test.TheVariants.{Rel, Holds}
use Rattle.mir_base.specs.declared.operators.Op.{Op}
use Rattle.mir_base.specs.declared.operators.Op.TheVariants.{Add, Sub, Mul, Min, Max, And, Or, Xor}
use Rattle.mir_base.specs.declared.operators.RelOp.TheVariants.{Lt}
use Rattle.mir_base.specs.Names.{numbered_name}
use Rattle.mir_base.specs.Shapes.{UnitShape, ProgramShape}
use Rattle.flow_graph.specs.Tidied.{tidied_unit}
use Rattle.mir_trial.specs.Draws.{next, drawn}

-- ---- what the draws choose

-- the variables, by the numbers that they have here: `a` and `b` are 0 and 1, `v0` to `v5` are 2 to 7, and `c` is 8
abbrev pub variables : List (List ℕ)
variables =
    codes "a" ∷ codes "b" ∷ codes "v0" ∷ codes "v1" ∷ codes "v2" ∷ codes "v3" ∷ codes "v4"
    ∷ codes "v5" ∷ codes "c" ∷ []

-- `v0` to `v5`, by the state that the draw makes
abbrev pub variable : ℕ → ℕ
variable state = drawn 6 state + 2

-- `a` or `b`
abbrev pub parameter : ℕ → Operand
parameter state = Var (drawn 2 state)

-- the operator of a number below 8
abbrev pub operator_of : ℕ → Op
operator_of n =
    if n == 0 then Add else
    if n == 1 then Sub else
    if n == 2 then Mul else
    if n == 3 then Min else
    if n == 4 then Max else
    if n == 5 then And else
    if n == 6 then Or else Xor

-- ---- groups

-- instructions, and the state behind their draws
pub record Group : Type 0 where
  pub insts : List Inst
  pub state : ℕ

-- `V <- P o Q`, which draws V, P, o and Q from this state on
abbrev pub operation : ℕ → Inst
operation z =
    Assign (variable (next z))
    (Binary (operator_of (drawn 8 (next (next (next z))))) (parameter (next (next z)))
    (parameter (next (next (next (next z))))))

-- `a + b`
abbrev pub parameter_sum : Rhs
parameter_sum = Binary Add (Var 0) (Var 1)

-- `V <- P o Q`
abbrev pub plain_group : ℕ → Group
plain_group z = record { insts = operation z ∷ []; state = next (next (next (next z))) }

-- `if P goto T`, `V <- a + b`, `T: W <- a + b`, at this place
abbrev pub branch_group : ℕ → ℕ → Group
branch_group at z = record {
  insts = If (Holds (parameter (next z))) (at + 2) ∷ Assign (variable (next (next z))) parameter_sum
      ∷ Assign
      (variable (next (next (next z)))) parameter_sum ∷ [];
  state = next (next (next z));
}

-- `c <- 0`, `T: V <- P o Q`, `c <- c + 1`, `if c < 4 goto T`, at this place
abbrev pub loop_group : ℕ → ℕ → Group
loop_group at z = record {
  insts =
      Assign 8 (Plain (Const (pos 0))) ∷ operation z ∷ Assign 8 (Binary Add (Var 8) (Const (pos 1)))
      ∷ If (Rel Lt (Var 8) (Const (pos 4))) (at + 1) ∷ [];
  state = next (next (next (next z)));
}

-- `print V`
abbrev pub print_group : ℕ → Group
print_group z = record { insts = Print (Var (variable (next z))) ∷ []; state = next z }

-- the group of this kind
abbrev pub group_of : ℕ → ℕ → ℕ → Group
group_of kind at z =
    if kind == 0 then plain_group z else
    if kind == 1 then branch_group at z else
    if kind == 2 then loop_group at z else print_group z

-- the group at this place, whose first draw is its kind
abbrev pub group : ℕ → ℕ → Group
group at z = group_of (drawn 4 (next z)) at (next z)

-- so many groups, one after the other
unfoldable pub groups : ℕ → ℕ → ℕ → Group
groups zero at z = record { insts = []; state = z }
groups (suc count) at z =
    let first = group at z in
    let others = groups count (at + length first.insts) first.state in
    record { insts = first.insts ++ others.insts; state = others.state }

-- ---- units

-- the last unit has no call; unit number j calls unit number j + 1
abbrev pub call_of : ℕ → Bool → List Inst
call_of j last = if last then [] else (Call (Some 2) (suc j) (Var 3 ∷ Var 4 ∷ []) ∷ [])

-- the body of unit number j, before its variables are numbered in the order of their first occurrence
abbrev pub body_of : ℕ → Bool → ℕ → List Inst
body_of j last z =
    (Receive 0 ∷ Receive 1 ∷ []) ++ (groups 60 2 z).insts ++ call_of j last
    ++ (Print (Var 2) ∷ Return (Var 5) ∷ [])

-- `u` and the unit's number
abbrev pub name_of : ℕ → List ℕ
name_of = numbered_name (codes "u")

-- unit number j, whose draws begin at this state
abbrev pub unit_of : ℕ → Bool → ℕ → UnitShape
unit_of j last z = tidied_unit (name_of j) variables (body_of j last z)

-- so many units, from unit number j on
abbrev pub units_from : ℕ → ℕ → ℕ → List UnitShape
units_from zero j z = []
units_from (suc count) j z =
    unit_of j (count == 0) z ∷ units_from count (suc j) (groups 60 2 z).state

-- the program of a number with so many units
abbrev pub trial_program : ℕ → ℕ → ProgramShape
trial_program number count = record { globals = []; units = units_from count 0 number }
