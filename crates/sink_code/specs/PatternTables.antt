-- Patterns of nodes, and tables of patterns. Cited by contracts.
use Rattle.std.specs.Prelude.{◌≡◌, ◌<◌, ◌||◌, ℕ, Bool, false, nat_eq, nat_lt, if◌then◌else◌, List, slice_get, Option, Some, None}
use Rattle.std.specs.List.{list_any}
use Rattle.std.specs.List.Sorted.{IsNonDecreasingBy}
use Rattle.mir_base.specs.declared.instructions.Rhs.{Rhs}
use Rattle.mir_base.specs.Expressions.{divides}
use Rattle.mir_base.specs.Shapes.{AllBelow, AllDiffer, rhs_vars}
use Rattle.flow_graph.specs.declared.nodes.Node.{Node}
use Rattle.flow_graph.specs.declared.nodes.Node.TheVariants.{Assign}
use Rattle.flow_graph.specs.Graphs.{GraphShape, assigns}
use Rattle.sink_code.specs.declared.patterns.Pattern.{Pattern}

-- distinct patterns, in order of their variables
pub record AreOrdered (table : List Pattern) : Type 0 where
  pub differ : AllDiffer table
  pub in_order : IsNonDecreasingBy (λ p. p.var) table

-- the pattern of an assignment, where its right side does not divide
abbrev pub sinkable_pattern : ℕ → Rhs → Option Pattern
sinkable_pattern x rhs = if divides rhs then None else Some (record { var = x; rhs = rhs })

-- the pattern that occurs at a node
abbrev pub pattern_of : Node → Option Pattern
pattern_of (Assign x rhs next) = sinkable_pattern x rhs
pattern_of _ = None

-- the node assigns the variable of the pattern or one of its right side
abbrev pub touches_pattern : GraphShape → Node → Pattern → Bool
touches_pattern graph node p =
    assigns graph p.var node || list_any (λ y. assigns graph y node) (rhs_vars p.rhs)

-- a call whose result goes to y assigns z, where so many variables are globals
abbrev pub assigns_in : ℕ → ℕ → ℕ → Bool
assigns_in shared y z = nat_lt z shared || nat_eq z y

-- the patterns do not divide, and their variables are below this number
abbrev pub AreSinkableBelow : ℕ → List Pattern → Type 0
AreSinkableBelow vars table = (k : ℕ) (p : Pattern) → slice_get table k ≡ Some p
    → (divides p.rhs ≡ false) × ((p.var < vars) × AllBelow vars (rhs_vars p.rhs))
