-- Units and programs as contracts see them, and what is true of each. Cited by contracts.
use Rattle.std.specs.Prelude.{◌≡◌, ℕ, suc, ◌<◌, ◌≤◌, if◌then◌else◌, nat_lt, nat_eq, List, [], ◌∷◌, ◌++◌, length, take, flat_map, slice_get, Option, Some, None}
use Rattle.mir_base.specs.declared.instructions.Operand.{Operand}
use Rattle.mir_base.specs.declared.instructions.Operand.TheVariants.{Var, Const}
use Rattle.mir_base.specs.declared.instructions.Rhs.{Rhs}
use Rattle.mir_base.specs.declared.instructions.Rhs.TheVariants.{Plain, Unary, Binary}
use Rattle.mir_base.specs.declared.instructions.Test.{Test}
use Rattle.mir_base.specs.declared.instructions.Test.TheVariants.{Rel, Holds, Fails}
use Rattle.mir_base.specs.declared.instructions.Inst.{Inst}
use Rattle.mir_base.specs.declared.instructions.Inst.TheVariants.{Receive, Assign, Goto, If, TrapIf, Call, Print, Return}

-- a unit: its name, how many of its variables are globals, the names of its variables by number, the globals first, and
-- its instructions by place
pub record UnitShape : Type 0 where
  pub name : List ℕ
  pub shared : ℕ
  pub vars : List (List ℕ)
  pub body : List Inst

-- a program: the names of its globals, and its units by number, of which a run begins with the first
pub record ProgramShape : Type 0 where
  pub globals : List (List ℕ)
  pub units : List UnitShape

-- ---- tidy units

-- the variable of an operand, where it is one
abbrev pub operand_vars : Operand → List ℕ
operand_vars (Var x) = x ∷ []
operand_vars (Const c) = []

-- the variables of a right side, in the order of its text
abbrev pub rhs_vars : Rhs → List ℕ
rhs_vars (Plain a) = operand_vars a
rhs_vars (Unary op a) = operand_vars a
rhs_vars (Binary op a b) = operand_vars a ++ operand_vars b

-- the variables of a test, in the order of its text
abbrev pub test_vars : Test → List ℕ
test_vars (Rel op a b) = operand_vars a ++ operand_vars b
test_vars (Holds a) = operand_vars a
test_vars (Fails a) = operand_vars a

-- the variable that gets the answer of a call, where there is one
abbrev pub into_vars : Option ℕ → List ℕ
into_vars None = []
into_vars (Some x) = x ∷ []

-- the variables of an instruction, in the order of its text
abbrev pub inst_vars : Inst → List ℕ
inst_vars (Receive x) = x ∷ []
inst_vars (Assign x rhs) = x ∷ rhs_vars rhs
inst_vars (Goto place) = []
inst_vars (If test place) = test_vars test
inst_vars (TrapIf test number) = test_vars test
inst_vars (Call into unit operands) = into_vars into ++ flat_map operand_vars operands
inst_vars (Print a) = operand_vars a
inst_vars (Return a) = operand_vars a

-- each is below m
abbrev pub AllBelow : ℕ → List ℕ → Type 0
AllBelow m [] = Unit {0}
AllBelow m (x ∷ xs) = (x < m) × AllBelow m xs

-- each variable that is new after the first n is number n; how many there are in the end
abbrev pub numbered_from : ℕ → List ℕ → Option ℕ
numbered_from n [] = Some n
numbered_from n (x ∷ xs) =
    if nat_lt x n then numbered_from n xs
    else (if nat_eq x n then numbered_from (suc n) xs else None)

-- no item stands at two places
abbrev pub AllDiffer : {A : Type 0} → List A → Type 0
AllDiffer xs = (i j : ℕ) → i < length xs → j < length xs → slice_get xs i ≡ slice_get xs j → i ≡ j

-- the variables are the globals, which come first, and the others that occur in the body, numbered in the order in
-- which they first occur; all have distinct names
pub record IsTidy (shared : ℕ) (vars : List (List ℕ)) (body : List Inst) : Type 0 where
  pub numbered : numbered_from shared (flat_map inst_vars body) ≡ Some (length vars)
  pub differ : AllDiffer vars

-- ---- programs

-- how many receives stand first
abbrev pub receives_in : List Inst → ℕ
receives_in [] = 0
receives_in (Receive x ∷ insts) = suc (receives_in insts)
receives_in (_ ∷ insts) = 0

-- the body of the unit, and none where there is no unit
abbrev pub body_or_empty : Option UnitShape → List Inst
body_or_empty None = []
body_or_empty (Some unit) = unit.body

-- the body of the unit of this number; one that is not there is empty
abbrev pub body_at : List UnitShape → ℕ → List Inst
body_at units number = body_or_empty (slice_get units number)

-- the names of the units
abbrev pub names_of : List UnitShape → List (List ℕ)
names_of [] = []
names_of (unit ∷ units) = unit.name ∷ names_of units

-- a place to go to is at least the number of receives, and at most the length of the body
abbrev pub IsTarget : List Inst → ℕ → Type 0
IsTarget body place = (receives_in body ≤ place) × (place ≤ length body)

-- an instruction fits at its place in a body of a program
abbrev pub InstFits : List UnitShape → List Inst → ℕ → Inst → Type 0
InstFits units body place (Receive x) = place < receives_in body
InstFits units body place (Assign x rhs) = Unit {0}
InstFits units body place (Goto target) = IsTarget body target
InstFits units body place (If test target) = IsTarget body target
InstFits units body place (TrapIf test number) = Unit {0}
InstFits units body place (Call into called operands) = (called < length units)
    × (length operands ≡ receives_in (body_at units called))
InstFits units body place (Print a) = Unit {0}
InstFits units body place (Return a) = Unit {0}

-- each instruction fits at its place, and the receives name distinct variables
pub record BodyFits (units : List UnitShape) (body : List Inst) : Type 0 where
  pub insts : (place : ℕ) (inst : Inst) → slice_get body place ≡ Some inst
      → InstFits units body place inst
  pub received : (i j x : ℕ) → slice_get body i ≡ Some (Receive x)
      → slice_get body j ≡ Some (Receive x) → i ≡ j

-- the first variables of a unit are these globals, and no receive sets one of them
pub record SharesGlobals (globals : List (List ℕ)) (unit : UnitShape) : Type 0 where
  pub count : unit.shared ≡ length globals
  pub begin : take (length globals) unit.vars ≡ globals
  pub own : (place x : ℕ) → slice_get unit.body place ≡ Some (Receive x) → length globals ≤ x

-- there is a unit, the names of the units are distinct, each body fits, and each unit has the globals. Their names are
-- distinct, since those of a unit's variables are
pub record IsProgram (globals : List (List ℕ)) (units : List UnitShape) : Type 0 where
  pub some_unit : 0 < length units
  pub names : AllDiffer (names_of units)
  pub bodies : (u : ℕ) (unit : UnitShape) → slice_get units u ≡ Some unit → BodyFits units unit.body
  pub shares : (u : ℕ) (unit : UnitShape) → slice_get units u ≡ Some unit
      → SharesGlobals globals unit
