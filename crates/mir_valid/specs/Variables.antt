-- The variables of a body, in the order in which they first occur in its canonical text. Cited by contracts.
use Rattle.std.specs.Prelude.{ℕ, List, [], ◌∷◌, ◌++◌, flat_map, Option, None, Some, Contains}
use Rattle.mir_parse.specs.declared.raw.RawOperand.{RawOperand}
use Rattle.mir_parse.specs.declared.raw.RawOperand.TheVariants.{Var, Const}
use Rattle.mir_parse.specs.declared.raw.RawRhs.{RawRhs}
use Rattle.mir_parse.specs.declared.raw.RawRhs.TheVariants.{Plain, Unary, Binary}
use Rattle.mir_parse.specs.declared.raw.RawTest.{RawTest}
use Rattle.mir_parse.specs.declared.raw.RawTest.TheVariants.{Rel, Holds, Fails}
use Rattle.mir_parse.specs.declared.raw.RawForm.{RawForm}
use Rattle.mir_parse.specs.declared.raw.RawForm.TheVariants.{Receive, Assign, Goto, If, TrapIf, Call, Print, Return}
use Rattle.mir_parse.specs.declared.raw.RawInst.{RawInst}

-- the variables that occur, each as often as it does, in the order of the canonical text
abbrev pub operand_names : RawOperand → List (List ℕ)
operand_names (Var x) = x ∷ []
operand_names (Const z) = []

-- the variables of a right side, in order
abbrev pub rhs_names : RawRhs → List (List ℕ)
rhs_names (Plain a) = operand_names a
rhs_names (Unary op a) = operand_names a
rhs_names (Binary op a b) = operand_names a ++ operand_names b

-- the variables of a test, in order
abbrev pub test_names : RawTest → List (List ℕ)
test_names (Rel op a b) = operand_names a ++ operand_names b
test_names (Holds a) = operand_names a
test_names (Fails a) = operand_names a

-- the variable for the result of a call
abbrev pub into_names : Option (List ℕ) → List (List ℕ)
into_names None = []
into_names (Some x) = x ∷ []

-- the variable that is returned, where a variable is
abbrev pub returned_names : Option RawOperand → List (List ℕ)
returned_names None = []
returned_names (Some a) = operand_names a

-- the variables of an instruction, in the order of its canonical text
abbrev pub form_names : RawForm → List (List ℕ)
form_names (Receive x) = x ∷ []
form_names (Assign x rhs) = x ∷ rhs_names rhs
form_names (Goto l) = []
form_names (If test l) = test_names test
form_names (TrapIf test z) = test_names test
form_names (Call into f operands) = into_names into ++ flat_map operand_names operands
form_names (Print a) = operand_names a
form_names (Return a) = returned_names a

-- the variables of a body, in the order of its canonical text
abbrev pub body_names : List RawInst → List (List ℕ)
body_names body = flat_map (λ inst. form_names inst.form) body

-- the second list has each name of the first once, in the order of first occurrence
pub data FirstNames : List (List ℕ) → List (List ℕ) → Type 0 where
  none : FirstNames [] []
  -- the next name occurred before
  again : {names vars : List (List ℕ)} (x : List ℕ) → FirstNames names vars → Contains vars x
      → FirstNames (names ++ x ∷ []) vars
  -- the next name is new
  first : {names vars : List (List ℕ)} (x : List ℕ) → FirstNames names vars → (Contains vars x → ⊥)
      → FirstNames (names ++ x ∷ []) (vars ++ x ∷ [])
