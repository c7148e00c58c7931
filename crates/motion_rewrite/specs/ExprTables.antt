-- Tables of expressions: the movable expressions of a graph, those that divide, and what is said of each expression of
-- a table. Cited by contracts.
use Rattle.std.specs.Prelude.{◌≡◌, ℕ, true, not, filter, if◌then◌else◌, List, [], ◌∷◌, ◌++◌, slice_get, Option, Some, None}
use Rattle.mir_base.specs.declared.instructions.Rhs.{Rhs}
use Rattle.mir_base.specs.declared.instructions.Expr.{Expr}
use Rattle.mir_base.specs.Expressions.{divides, expr_of, is_movable}
use Rattle.mir_base.specs.Shapes.{AllBelow}
use Rattle.mir_base.specs.ExpressionVars.{expr_vars, rhs_of, written_expr}
use Rattle.mir_base.specs.SameExpressions.{same_expr}
use Rattle.flow_graph.specs.declared.nodes.Node.{Node}
use Rattle.flow_graph.specs.Graphs.{node_rhs}

-- the list of the expression, empty where there is none
abbrev pub listed : Option Expr → List Expr
listed None = []
listed (Some e) = e ∷ []

-- the movable expression that a right side is
abbrev pub expr_in : Option Rhs → Option Expr
expr_in None = None
expr_in (Some rhs) = expr_of rhs

-- the movable expression that a node evaluates
abbrev pub expr_at : Node → Option Expr
expr_at node = expr_in (node_rhs node)

-- the right side as an expression, where it divides
abbrev pub dividing_in : Option Rhs → Option Expr
dividing_in None = None
dividing_in (Some rhs) = if divides rhs then written_expr (Some rhs) else None

-- the expression that a node evaluates and that divides
abbrev pub dividing_at : Node → Option Expr
dividing_at node = dividing_in (node_rhs node)

-- the expressions that nodes have, each by this reading, in order of the nodes
abbrev pub read_off : (Node → Option Expr) → List Node → List Expr
read_off expr [] = []
read_off expr (node ∷ nodes) = listed (expr node) ++ read_off expr nodes

-- each expression of the list once, in order of its first occurrence
abbrev pub firsts : List Expr → List Expr
firsts [] = []
firsts (e ∷ es) = e ∷ filter (λ other. not (same_expr e other)) (firsts es)

-- the movable expressions of a graph, in order of the first node that evaluates each
abbrev pub movable_exprs : List Node → List Expr
movable_exprs nodes = firsts (read_off expr_at nodes)

-- those that divide, in order of the first node that evaluates each
abbrev pub dividing_exprs : List Node → List Expr
dividing_exprs nodes = firsts (read_off dividing_at nodes)

-- the expressions are movable, and their variables are below this number
pub record AreMovable (vars : ℕ) (table : List Expr) : Type 0 where
  pub movable : (i : ℕ) (e : Expr) → slice_get table i ≡ Some e → is_movable (rhs_of e) ≡ true
  pub below : (i : ℕ) (e : Expr) → slice_get table i ≡ Some e → AllBelow vars (expr_vars e)

-- the variables of the expressions are below this number
abbrev pub AreOver : ℕ → List Expr → Type 0
AreOver vars table = (i : ℕ) (e : Expr) → slice_get table i ≡ Some e → AllBelow vars (expr_vars e)

-- each expression divides
abbrev pub AreDividing : List Expr → Type 0
AreDividing table = (i : ℕ) (e : Expr) → slice_get table i ≡ Some e → divides (rhs_of e) ≡ true

-- a statement of each expression of the table and its number
abbrev pub ForEachExpr : List Expr → (ℕ → Expr → Type 0) → Type 0
ForEachExpr table Holds = (i : ℕ) (e : Expr) → slice_get table i ≡ Some e → Holds i e
