-- Whether a number stands in a list, and variables numbered anew, in the order of their first occurrence. Cited by
-- contracts, those of the crates above too.
use Rattle.std.specs.Prelude.{ℕ, suc, Bool, false, if◌then◌else◌, nat_eq, ◌||◌, List, [], ◌∷◌, ◌++◌, map, flat_map, option_map, ◌≡◌, ◌⊎◌}
use Rattle.mir_base.specs.declared.instructions.Operand.{Operand}
use Rattle.mir_base.specs.declared.instructions.Operand.TheVariants.{Var, Const}
use Rattle.mir_base.specs.declared.instructions.Rhs.{Rhs}
use Rattle.mir_base.specs.declared.instructions.Rhs.TheVariants.{Plain, Unary, Binary}
use Rattle.mir_base.specs.declared.instructions.Test.{Test as Condition}
use Rattle.mir_base.specs.declared.instructions.Test.TheVariants.{Rel, Holds, Fails}
use Rattle.mir_base.specs.declared.instructions.Inst.{Inst}
use Rattle.mir_base.specs.declared.instructions.Inst.TheVariants as insts
use Rattle.mir_base.specs.Frames.{shared_vars}
use Rattle.mir_base.specs.Shapes.{inst_vars}

-- whether a number stands in a list
abbrev pub is_in : ℕ → List ℕ → Bool
is_in x [] = false
is_in x (y ∷ ys) = nat_eq y x || is_in x ys

-- the same as a fact by cases, where std's `Contains` has an index
abbrev pub IsIn : ℕ → List ℕ → Type 0
IsIn x [] = ⊥
IsIn x (y ∷ ys) = (y ≡ x) ⊎ IsIn x ys

-- the place of the first x in a list, and its length where there is none
abbrev pub first_index : List ℕ → ℕ → ℕ
first_index [] x = 0
first_index (y ∷ ys) x = if nat_eq y x then 0 else suc (first_index ys x)

-- a list of variables, and after it those of another list that are new, in the order of their first occurrence
abbrev pub seen_after : List ℕ → List ℕ → List ℕ
seen_after seen [] = seen
seen_after seen (x ∷ xs) =
    if is_in x seen then seen_after seen xs else seen_after (seen ++ x ∷ []) xs

-- the globals, and the other variables that occur in a body, in the order of their first occurrence in its text
abbrev pub seen_in : ℕ → List Inst → List ℕ
seen_in shared body = seen_after (shared_vars shared) (flat_map inst_vars body)

-- ---- with other numbers

-- an operand with its variable renumbered
abbrev pub renamed_operand : (ℕ → ℕ) → Operand → Operand
renamed_operand to (Var x) = Var (to x)
renamed_operand to (Const c) = Const c

-- a right side with its variables renumbered
abbrev pub renamed_rhs : (ℕ → ℕ) → Rhs → Rhs
renamed_rhs to (Plain a) = Plain (renamed_operand to a)
renamed_rhs to (Unary op a) = Unary op (renamed_operand to a)
renamed_rhs to (Binary op a b) = Binary op (renamed_operand to a) (renamed_operand to b)

-- a test with its variables renumbered
abbrev pub renamed_test : (ℕ → ℕ) → Condition → Condition
renamed_test to (Rel op a b) = Rel op (renamed_operand to a) (renamed_operand to b)
renamed_test to (Holds a) = Holds (renamed_operand to a)
renamed_test to (Fails a) = Fails (renamed_operand to a)

-- an instruction with its variables renumbered
abbrev pub renamed : (ℕ → ℕ) → Inst → Inst
renamed to (insts.Receive x) = insts.Receive (to x)
renamed to (insts.Assign x rhs) = insts.Assign (to x) (renamed_rhs to rhs)
renamed to (insts.Goto place) = insts.Goto place
renamed to (insts.If test place) = insts.If (renamed_test to test) place
renamed to (insts.Call into unit operands) =
    insts.Call (option_map to into) unit (map (renamed_operand to) operands)
renamed to (insts.Print a) = insts.Print (renamed_operand to a)
renamed to (insts.TrapIf test number) = insts.TrapIf (renamed_test to test) number
renamed to (insts.Return a) = insts.Return (renamed_operand to a)

-- the body with each variable numbered by its first occurrence, after the globals, which keep their numbers
abbrev pub renumbered : ℕ → List Inst → List Inst
renumbered shared body = map (renamed (first_index (seen_in shared body))) body
