-- Which nodes must come to an expression before anything can be observed: the rule for expressions that divide. Cited
-- by contracts.
use Rattle.std.specs.Prelude.{◌≡◌, ◌⊎◌, ◌<◌, ◌≤◌, ◌&&◌, ◌||◌, ℕ, Bool, true, false, not, List, [], ◌∷◌, length, slice_get, Option, Some, None, ℤ}
use Rattle.mir_base.specs.declared.instructions.Expr.{Expr}
use Rattle.mir_base.specs.EqualValues.{EqualOn}
use Rattle.mir_base.specs.Expressions.{divides}
use Rattle.mir_base.specs.ExpressionVars.{expr_vars}
use Rattle.mir_base.specs.Frames.{Frame, Values}
use Rattle.mir_base.specs.Simulations.{Silently}
use Rattle.flow_graph.specs.declared.nodes.Node.{Node}
use Rattle.flow_graph.specs.declared.nodes.Node.TheVariants.{Start, Skip, Assign, Print, Guard, Call, Test, Return}
use Rattle.flow_graph.specs.Graphs.{GraphShape}
use Rattle.flow_graph.specs.Machines.{graph_code}
use Rattle.flow_graph.specs.Paths.{Begins, Ends, IsPath, IsReturnAt}
use Rattle.motion_rewrite.specs.Expressions.{node_kills, node_uses, uses}

-- ---- one node

-- an observable action: a print, a guard, a call or a return
abbrev pub is_observable : Node → Bool
is_observable (Start next) = false
is_observable (Skip next) = false
is_observable (Assign x rhs next) = false
is_observable (Print a next) = true
is_observable (Guard test number next) = true
is_observable (Call into unit operands next) = true
is_observable (Test test taken other) = false
is_observable (Return a) = true

-- the node assigns a right side that divides
abbrev pub is_division : Node → Bool
is_division (Start next) = false
is_division (Skip next) = false
is_division (Assign x rhs next) = divides rhs
is_division (Print a next) = false
is_division (Guard test number next) = false
is_division (Call into unit operands next) = false
is_division (Test test taken other) = false
is_division (Return a) = false

-- nothing that divides is evaluated before the node for what comes after it: it can be observed, or divides itself
abbrev pub halts : Node → Bool
halts node = is_observable node || is_division node

-- the node, where there is one, kills e, can be observed, or assigns another right side that divides
abbrev pub node_hinders : GraphShape → Expr → Option Node → Bool
node_hinders graph e None = false
node_hinders graph e (Some node) =
    node_kills graph e (Some node)
    || (is_observable node || (is_division node && not (node_uses e (Some node))))

-- node n does
abbrev pub hinders : GraphShape → Expr → ℕ → Bool
hinders graph e n = node_hinders graph e (slice_get graph.nodes n)

-- ---- paths

-- the path comes to a node that uses e, and no node of it before that one hinders
abbrev pub ComesTo : GraphShape → Expr → List ℕ → Type 0
ComesTo graph e [] = ⊥
ComesTo graph e (n ∷ path) = (uses graph e n ≡ true)
    ⊎ ((hinders graph e n ≡ false) × ComesTo graph e path)

-- the path ends at a Return
abbrev pub EndsAtReturn : List Node → List ℕ → Type 0
EndsAtReturn nodes path = (last : ℕ) × Ends last path × IsReturnAt nodes last

-- the path has so many nodes, or ends at a Return with fewer
abbrev pub GoesAsFar : List Node → ℕ → List ℕ → Type 0
GoesAsFar nodes count path = (length path ≡ count)
    ⊎ ((length path < count) × EndsAtReturn nodes path)

-- there is a number of nodes, at least one, within which each path from node n comes to e; so no run from there goes on
-- for ever before it
pub record MustComeTo (graph : GraphShape) (e : Expr) (n : ℕ) : Type 0 where
  pub within : ℕ
  pub positive : 1 ≤ within
  pub comes : (path : List ℕ) → IsPath graph.nodes path → Begins n path
      → GoesAsFar graph.nodes within path
      → ComesTo graph e path

-- ---- runs

-- a run of the graph from node n, with these arguments and values, comes to a node that uses e, after steps that show
-- nothing, and the variables that e reads have their values still
pub record RunComesTo (graph : GraphShape) (e : Expr) (n : ℕ) (arguments : List ℤ)
    (values : Values) : Type 0 where
  pub steps : ℕ
  pub there : Frame
  pub counted : ℕ
  pub silent : Silently (graph_code graph.shared graph.received graph.nodes) steps
      (record { place = n; arguments = arguments; values = values }) there counted
  pub used : uses graph e there.place ≡ true
  pub operands : EqualOn (expr_vars e) there.values values

-- so does each run from there
abbrev pub RunsComeTo : GraphShape → Expr → ℕ → Type 0
RunsComeTo graph e n = (arguments : List ℤ) (values : Values)
    → RunComesTo graph e n arguments values
