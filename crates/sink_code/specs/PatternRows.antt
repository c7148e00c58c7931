-- Rows by nodes of a graph and patterns of a table: where each pattern occurs, is blocked, is delayed and is inserted.
-- Cited by contracts.
use Rattle.std.specs.Prelude.{◌≡◌, ◌<◌, ℕ, Bool, true, false, List, [], ◌∷◌, ◌++◌, length, flat_map, replicate, slice_get, Some}
use Rattle.mir_base.specs.declared.instructions.Rhs.{Rhs}
use Rattle.mir_base.specs.Frames.{shared_vars}
use Rattle.mir_base.specs.Shapes.{into_vars, operand_vars, rhs_vars, test_vars}
use Rattle.bit_rows.specs.Bits.{or_bits, row_of, with_row_by}
use Rattle.flow_graph.specs.declared.nodes.Node.{Node}
use Rattle.flow_graph.specs.declared.nodes.Node.TheVariants.{Start, Skip, Assign, Print, Guard, Call, Test, Return}
use Rattle.flow_graph.specs.Graphs.{GraphShape}
use Rattle.flow_graph.specs.Numbering.{is_in}
use Rattle.graph_edit.specs.Accesses.{assigns_of}
use Rattle.key_rows.specs.KeyRows.{AreKeyRows, AreKeyRowsWhere}
use Rattle.path_laws.specs.Paths.{AreRows, has_bit}
use Rattle.sink_code.specs.declared.patterns.Pattern.{Pattern}
use Rattle.sink_code.specs.declared.pattern_rows.ByVariable.{ByVariable}

-- one row for each node and one bit for each pattern: whether the test holds of the pattern at the node
abbrev pub ArePatternRows : GraphShape → List Pattern → (ℕ → Rhs → ℕ → Bool) → List (List Bool)
    → Type 0
ArePatternRows graph table holds rows =
    AreKeyRows (length graph.nodes) table (λ p. holds p.var p.rhs) rows

-- the same of a statement in place of a test
abbrev pub AreRowsTelling : GraphShape → List Pattern → (ℕ → Rhs → ℕ → Type 0) → List (List Bool)
    → Type 0
AreRowsTelling graph table Holds rows =
    AreKeyRowsWhere (length graph.nodes) table (λ p. Holds p.var p.rhs) rows

-- ---- blocked patterns, by variable

-- the variables that a pattern names
abbrev pub pattern_vars : Pattern → List ℕ
pattern_vars p = p.var ∷ rhs_vars p.rhs

-- of each variable below this number, the rows say which patterns have it among these variables of theirs
abbrev pub AreBitsByVariable : ℕ → List Pattern → (Pattern → List ℕ) → List (List Bool) → Type 0
AreBitsByVariable vars table of_pattern rows = (x k : ℕ) (p : Pattern) → x < vars
    → slice_get table k ≡ Some p → has_bit rows k x ≡ is_in x (of_pattern p)

-- the row with the rows of these variables joined to it
abbrev pub row_joined : List (List Bool) → List ℕ → List Bool → List Bool
row_joined rows [] row = row
row_joined rows (x ∷ xs) row = row_joined rows xs (or_bits row (row_of rows x))

-- the rows, where one has those of these variables joined to it
abbrev pub joined_at : List (List Bool) → List ℕ → ℕ → List (List Bool) → List (List Bool)
joined_at from [] row rows = rows
joined_at from (x ∷ xs) row rows = joined_at from xs row (with_row_by or_bits rows row from x)

-- the row is one of the rows, and as long as each of those that are joined to it
pub record FitsRowsOf (from : List (List Bool)) (row : ℕ) (rows : List (List Bool)) : Type 0 where
  pub within : row < length rows
  pub long : AreRows (length from) (length (row_of rows row)) from

-- the new rows are those, as many as before, and the row has as many bits as before
pub record JoinsRows (from : List (List Bool)) (vars : List ℕ) (row : ℕ)
    (old new : List (List Bool)) : Type 0 where
  pub rows : new ≡ joined_at from vars row old
  pub len : length new ≡ length old
  pub long : length (row_of new row) ≡ length (row_of old row)

-- where each variable has a row of the patterns that assign it, and one of those that name it, and so many are globals:
-- the row of the patterns that the node blocks
abbrev pub blocked_row : List (List Bool) → List (List Bool) → ℕ → ℕ → Node → List Bool
blocked_row assigning naming bits shared (Start next) = replicate bits true
blocked_row assigning naming bits shared (Skip next) = replicate bits false
blocked_row assigning naming bits shared (Assign x rhs next) =
    row_joined naming (x ∷ []) (row_joined assigning (rhs_vars rhs) (replicate bits false))
blocked_row assigning naming bits shared (Print a next) =
    row_joined assigning (operand_vars a) (replicate bits false)
blocked_row assigning naming bits shared (Guard test number next) =
    row_joined assigning (test_vars test) (replicate bits false)
blocked_row assigning naming bits shared (Call into unit operands next) =
    row_joined naming (shared_vars shared ++ into_vars into)
    (row_joined assigning (flat_map operand_vars operands) (replicate bits false))
blocked_row assigning naming bits shared (Test test taken other) =
    row_joined assigning (test_vars test) (replicate bits false)
blocked_row assigning naming bits shared (Return a) =
    row_joined assigning (shared_vars shared ++ operand_vars a) (replicate bits false)

-- each row is that of what its node blocks
abbrev pub AreBlockedRows : List (List Bool) → List (List Bool) → ℕ → ℕ → List Node
    → List (List Bool) → Type 0
AreBlockedRows assigning naming bits shared nodes rows = (n : ℕ) (node : Node)
    → slice_get nodes n ≡ Some node → row_of rows n ≡ blocked_row assigning naming bits shared node

-- the rows by variable of the patterns of a table: those that assign the variable, and those that name it
pub record AreVariableRows (vars : ℕ) (table : List Pattern) (made : ByVariable) : Type 0 where
  pub assigning_shape : AreRows vars (length table) made.assigning
  pub naming_shape : AreRows vars (length table) made.naming
  pub assigning : AreBitsByVariable vars table (λ p. p.var ∷ []) made.assigning
  pub naming : AreBitsByVariable vars table pattern_vars made.naming

-- the variables whose reading by a node blocks patterns, where so many are globals: a call assigns the globals, too
abbrev pub reads_in : ℕ → Node → List ℕ
reads_in shared (Start next) = []
reads_in shared (Skip next) = []
reads_in shared (Assign x rhs next) = rhs_vars rhs
reads_in shared (Print a next) = operand_vars a
reads_in shared (Guard test number next) = test_vars test
reads_in shared (Call into unit operands next) = flat_map operand_vars operands
reads_in shared (Test test taken other) = test_vars test
reads_in shared (Return a) = shared_vars shared ++ operand_vars a

-- to one row what a node blocks was joined, and the others are as they were
pub record JoinsBlocked (assigning naming : List (List Bool)) (shared : ℕ) (node : Node) (row : ℕ)
    (old new : List (List Bool)) : Type 0 where
  pub rows : new
      ≡ joined_at naming (assigns_of shared node) row
      (joined_at assigning (reads_in shared node) row old)
  pub len : length new ≡ length old
  pub long : length (row_of new row) ≡ length (row_of old row)
