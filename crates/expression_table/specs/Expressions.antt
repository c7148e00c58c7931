-- The lines of the expressions of a graph. Cited by contracts.
use Rattle.std.specs.Prelude.{ℕ, zero, suc, Bool, if◌then◌else◌, List, [], ◌++◌, codes, decimal, length, slice_get, slice_index_or, Option, Some, None}
use Rattle.mir_base.specs.declared.instructions.Expr.{Expr}
use Rattle.mir_base.specs.ExpressionVars.{rhs_of}
use Rattle.mir_base.specs.Text.{rhs_text}
use Rattle.mir_print.specs.Sides.{naming_with}
use Rattle.motion_rewrite.specs.Temporaries.{has_insertion, temporary}
use Rattle.table_text.specs.Lines.{field}
use Rattle.expression_table.specs.declared.expressions.MovedExpressions.{MovedExpressions}

-- ---- heads

-- the name of a temporary behind a blank, or `-` where nothing is inserted; these are the names of the graph that has it
abbrev pub temporary_text : List (List ℕ) → Bool → ℕ → List ℕ
temporary_text names inserted number =
    if inserted then field (slice_index_or names number []) else field (codes "-")

-- the number of an expression over the names `vars`, its temporary if it is inserted, and the expression
abbrev pub head_line : List (List ℕ) → List (List ℕ) → Bool → ℕ → ℕ → Expr → List ℕ
head_line vars names inserted number i e =
    codes "expression" ++ field (decimal i) ++ temporary_text names inserted number
    ++ codes " " ++ rhs_text (naming_with vars) (rhs_of e) ++ codes "\n"

-- the same of expression i, by the rows of where each expression is inserted
abbrev pub expression_head : List (List ℕ) → List (List ℕ) → List (List Bool) → ℕ → Expr → List ℕ
expression_head vars names insert i e =
    head_line vars names (has_insertion insert i) (temporary (length vars) insert i) i e

-- ---- expressions

-- the lines of expression i, where there is one: its head, and what is found out of it
abbrev pub expression_lines : List (List ℕ) → List (List ℕ) → List (List Bool) → (ℕ → List ℕ)
    → ℕ → Option Expr → List ℕ
expression_lines vars names insert lines i None = []
expression_lines vars names insert lines i (Some e) =
    expression_head vars names insert i e ++ lines i

-- the lines of the first expressions of a table, of which there are so many
abbrev pub expressions_below : List (List ℕ) → List (List ℕ) → List (List Bool) → List Expr
    → (ℕ → List ℕ) → ℕ → List ℕ
expressions_below vars names insert table lines zero = []
expressions_below vars names insert table lines (suc n) =
    expressions_below vars names insert table lines n
    ++ expression_lines vars names insert lines n (slice_get table n)

-- ---- of a graph

-- the number of the temporary of expression i, if it has one
abbrev pub expression_temporary : MovedExpressions → ℕ → ℕ
expression_temporary moves i = temporary (length moves.split.now.vars) moves.insert.now i

-- the lines of the first expressions of a graph, of which there are so many
abbrev pub expressions_of : MovedExpressions → (ℕ → List ℕ) → ℕ → List ℕ
expressions_of moves lines n =
    expressions_below moves.split.now.vars moves.moved.now.vars moves.insert.now moves.table.now
    lines n
