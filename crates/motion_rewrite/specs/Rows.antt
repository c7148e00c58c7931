-- What rows of bits say of nodes and expressions. Cited by contracts.
use Rattle.std.specs.Prelude.{◌≡◌, ℕ, ◌<◌, Bool, List, length, slice_get, Some}
use Rattle.mir_base.specs.declared.instructions.Expr.{Expr}
use Rattle.mir_base.specs.ExpressionVars.{expr_vars}
use Rattle.flow_graph.specs.Graphs.{GraphShape}
use Rattle.flow_graph.specs.Numbering.{is_in}
use Rattle.key_rows.specs.KeyRows.{AreKeyRows, AreKeyRowsWhere}
use Rattle.path_laws.specs.Paths.{has_bit}

-- one row for each node and one bit for each expression: whether the test holds of the expression at the node
abbrev pub AreRowsOf : GraphShape → List Expr → (Expr → ℕ → Bool) → List (List Bool) → Type 0
AreRowsOf graph table holds rows = AreKeyRows (length graph.nodes) table holds rows

-- the same of a statement in place of a test
abbrev pub AreRowsWhere : GraphShape → List Expr → (Expr → ℕ → Type 0) → List (List Bool) → Type 0
AreRowsWhere graph table Holds rows = AreKeyRowsWhere (length graph.nodes) table Holds rows

-- of each variable below this number, the rows say which expressions of the table have it as an operand
abbrev pub AreOperandBits : ℕ → List Expr → List (List Bool) → Type 0
AreOperandBits vars table rows = (x i : ℕ) (e : Expr) → x < vars → slice_get table i ≡ Some e
    → has_bit rows i x ≡ is_in x (expr_vars e)
