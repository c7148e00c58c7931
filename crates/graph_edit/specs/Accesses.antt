-- What the nodes of a graph do with a variable and with an assignment of it: which nodes read and assign the variable,
-- at which nodes the assignment occurs, and which nodes block it. Cited by contracts of sink_code, dead_code and
-- sink_rounds.
use Rattle.std.specs.Prelude.{ℕ, Bool, false, nat_eq, not, ◌&&◌, ◌||◌, ◌++◌, List, [], ◌∷◌, slice_get, Option, Some, None}
use Rattle.std.specs.List.{list_any}
use Rattle.mir_base.specs.declared.instructions.Rhs.{Rhs}
use Rattle.mir_base.specs.declared.instructions.Rhs.TheVariants.{Plain, Unary, Binary}
use Rattle.mir_base.specs.declared.instructions.Expr.TheVariants.{Un, Bin}
use Rattle.mir_base.specs.Expressions.{divides}
use Rattle.mir_base.specs.SameExpressions.{same_expr, same_operand}
use Rattle.mir_base.specs.Frames.{shared_vars}
use Rattle.mir_base.specs.Shapes.{into_vars, rhs_vars}
use Rattle.flow_graph.specs.declared.nodes.Node.{Node}
use Rattle.flow_graph.specs.declared.nodes.Node.TheVariants.{Start, Skip, Assign, Print, Guard, Call, Test, Return}
use Rattle.flow_graph.specs.Graphs.{GraphShape, assigns, is_start, node_reads}
use Rattle.flow_graph.specs.Numbering.{is_in}

-- ---- a variable

-- the node, where there is one, reads x
abbrev pub reads_var : GraphShape → ℕ → Option Node → Bool
reads_var graph x None = false
reads_var graph x (Some node) = is_in x (node_reads graph node)

-- the node, where there is one, assigns x
abbrev pub assigns_var : GraphShape → ℕ → Option Node → Bool
assigns_var graph x None = false
assigns_var graph x (Some node) = assigns graph x node

-- node n reads x
abbrev pub reads_at : GraphShape → ℕ → ℕ → Bool
reads_at graph x n = reads_var graph x (slice_get graph.nodes n)

-- node n assigns x
abbrev pub assigns_at : GraphShape → ℕ → ℕ → Bool
assigns_at graph x n = assigns_var graph x (slice_get graph.nodes n)

-- the variables that a node assigns, where so many are globals: a call assigns each global, and its own variable where it
-- has one
abbrev pub assigns_of : ℕ → Node → List ℕ
assigns_of shared (Start next) = []
assigns_of shared (Skip next) = []
assigns_of shared (Assign x rhs next) = x ∷ []
assigns_of shared (Print a next) = []
assigns_of shared (Guard test number next) = []
assigns_of shared (Call into unit operands next) = shared_vars shared ++ into_vars into
assigns_of shared (Test test taken other) = []
assigns_of shared (Return a) = []

-- the same of a node of the graph
abbrev pub assigned_vars : GraphShape → Node → List ℕ
assigned_vars graph node = assigns_of graph.shared node

-- ---- an assignment that never traps: of a plain or movable right side

-- the two right sides are equal, as written
abbrev pub same_rhs : Rhs → Rhs → Bool
same_rhs (Plain a) (Plain b) = same_operand a b
same_rhs (Plain a) (Unary op b) = false
same_rhs (Plain a) (Binary op b c) = false
same_rhs (Unary op a) (Plain b) = false
same_rhs (Unary op a) (Unary other b) = same_expr (Un op a) (Un other b)
same_rhs (Unary op a) (Binary other b c) = false
same_rhs (Binary op a b) (Plain c) = false
same_rhs (Binary op a b) (Unary other c) = false
same_rhs (Binary op a b) (Binary other c d) = same_expr (Bin op a b) (Bin other c d)

-- the node, where there is one, is an occurrence of the pattern x <- t: it assigns t to x, and t does not divide
abbrev pub is_occurrence : ℕ → Rhs → Option Node → Bool
is_occurrence x t None = false
is_occurrence x t (Some (Start next)) = false
is_occurrence x t (Some (Skip next)) = false
is_occurrence x t (Some (Assign y rhs next)) = nat_eq x y && same_rhs t rhs && not (divides t)
is_occurrence x t (Some (Print a next)) = false
is_occurrence x t (Some (Guard test number next)) = false
is_occurrence x t (Some (Call into unit operands next)) = false
is_occurrence x t (Some (Test test taken other)) = false
is_occurrence x t (Some (Return a)) = false

-- the node, where there is one, blocks the pattern x <- t: it reads x, assigns x or a variable of t, or is Start
abbrev pub blocks_pattern : GraphShape → ℕ → Rhs → Option Node → Bool
blocks_pattern graph x t None = false
blocks_pattern graph x t (Some node) =
    is_start node ||
    (is_in x (node_reads graph node)
    || (assigns graph x node || list_any (λ y. assigns graph y node) (rhs_vars t)))

-- the pattern x <- t occurs at node n
abbrev pub occurs_at : ℕ → Rhs → GraphShape → ℕ → Bool
occurs_at x t graph n = is_occurrence x t (slice_get graph.nodes n)

-- node n blocks it
abbrev pub blocks_at : ℕ → Rhs → GraphShape → ℕ → Bool
blocks_at x t graph n = blocks_pattern graph x t (slice_get graph.nodes n)

-- the node is an assignment whose right side does not divide: it is an occurrence of its pattern
abbrev pub is_sinkable : Option Node → Bool
is_sinkable None = false
is_sinkable (Some (Start next)) = false
is_sinkable (Some (Skip next)) = false
is_sinkable (Some (Assign x rhs next)) = not (divides rhs)
is_sinkable (Some (Print a next)) = false
is_sinkable (Some (Guard test number next)) = false
is_sinkable (Some (Call into unit operands next)) = false
is_sinkable (Some (Test test taken other)) = false
is_sinkable (Some (Return a)) = false
