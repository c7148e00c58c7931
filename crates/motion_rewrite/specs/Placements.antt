-- Placements of one expression: where it is available and anticipatable, which nodes are safe, which placements are
-- admissible, how often a placement evaluates on a path, and when it is optimal; the same of each expression of a
-- table; and when expressions that may trap trap alike. Cited by contracts.
use Rattle.std.specs.Prelude.{◌≡◌, ◌≢◌, ◌⊎◌, ◌<◌, ◌≤◌, ◌+◌, ◌&&◌, ℕ, Bool, true, false, not, count_by, List, [], ◌∷◌, length, slice_get, Some, ℤ}
use Rattle.mir_base.specs.declared.instructions.Expr.{Expr}
use Rattle.mir_base.specs.Expressions.{rhs_traps}
use Rattle.mir_base.specs.ExpressionVars.{rhs_of}
use Rattle.mir_base.specs.Frames.{Values}
use Rattle.flow_graph.specs.declared.nodes.Node.TheVariants.{Skip}
use Rattle.flow_graph.specs.Graphs.{GraphShape, succs_at}
use Rattle.graph_edit.specs.InsertionRuns.{TrapsAfter}
use Rattle.flow_graph.specs.Machines.{graph_code}
use Rattle.flow_graph.specs.Paths.{HasEdge, IsFullPath, Trace}
use Rattle.flow_graph.specs.Sums.{one_if}
use Rattle.path_laws.specs.Paths.{BornAfter, HaveShape, has_bit}
use Rattle.motion_rewrite.specs.declared.placement.Placement.{Placement}
use Rattle.motion_rewrite.specs.Expressions.{uses, kills}
use Rattle.motion_rewrite.specs.ExprTables.{AreOver, ForEachExpr}

-- of the nodes before a node, the nearest first, one is good, and neither it nor any after it is bad
abbrev pub ReachesAlong : (ℕ → Type 0) → (ℕ → Bool) → List ℕ → Type 0
ReachesAlong Good bad [] = ⊥
ReachesAlong Good bad (m ∷ before) = (bad m ≡ false) × (Good m ⊎ ReachesAlong Good bad before)

-- e is available after these nodes: one of them evaluates it, and neither it nor any after it kills e
abbrev pub IsAvailableAfter : GraphShape → Expr → (ℕ → Type 0) → List ℕ → Type 0
IsAvailableAfter graph e Evaluates before = ReachesAlong Evaluates (kills graph e) before

-- ---- safety

-- available, or up-safe: every path from Start to n has, before n, a node that uses e such that neither it nor a later
-- one before n kills e
abbrev pub IsAvailable : GraphShape → Expr → ℕ → Type 0
IsAvailable graph e n = (before : List ℕ) → Trace graph.nodes n before
    → IsAvailableAfter graph e (λ m. uses graph e m ≡ true) before

-- anticipatable, or down-safe: every path from n that ends at its first killing node, or at a Return with no killing
-- node before it, has a use of e on it, the last node included
abbrev pub IsAnticipatable : GraphShape → Expr → ℕ → Type 0
IsAnticipatable graph e n = BornAfter graph.nodes (uses graph e) (kills graph e) n

-- the laws of a down rule, which says of each node whether it is down for e
pub record DownLaws (graph : GraphShape) (e : Expr) (Down : ℕ → Type 0) : Type 0 where
  -- a node that uses e is down
  pub used : (n : ℕ) → n < length graph.nodes → uses graph e n ≡ true → Down n
  -- a node that is down and does not use e does not kill e, has a successor, and all its successors
  -- are down
  pub keeps : (n : ℕ) → n < length graph.nodes → Down n → uses graph e n ≡ false
      → kills graph e n ≡ false
  pub continues : (n : ℕ) → n < length graph.nodes → Down n → uses graph e n ≡ false
      → succs_at graph.nodes n ≢ []
  pub onward : (n s : ℕ) → Down n → uses graph e n ≡ false → HasEdge graph.nodes n s → Down s
  -- a Skip whose successor is down is down
  pub skips : (n s : ℕ) → slice_get graph.nodes n ≡ Some (Skip s) → Down s → Down n

-- n is safe: the expression is available there, or n is down by the rule
abbrev pub IsSafe : GraphShape → Expr → (ℕ → Type 0) → ℕ → Type 0
IsSafe graph e Down n = IsAvailable graph e n ⊎ Down n

-- ---- placements

-- where an expression is evaluated into its temporary, before the node, and which uses read the temporary
pub record Places : Type 0 where
  pub inserts : ℕ → Bool
  pub replaces : ℕ → Bool

-- a placement of a table, for the expression of this number
abbrev pub places_of : Placement → ℕ → Places
places_of p i = record { inserts = has_bit p.insert i; replaces = has_bit p.replace i }

-- every path from Start to a replaced node has an insertion, at that node or before it, from which on no node before
-- the replaced one kills e
abbrev pub ReplacedAreAvailable : GraphShape → Expr → Places → Type 0
ReplacedAreAvailable graph e p = (n : ℕ) (before : List ℕ) → p.replaces n ≡ true
    → Trace graph.nodes n before
    → (p.inserts n ≡ true) ⊎ IsAvailableAfter graph e (λ m. p.inserts m ≡ true) before

-- each replaced node uses e, which is available there from the insertions, and each insertion stands at a safe node
pub record IsAdmissible (graph : GraphShape) (e : Expr) (Down : ℕ → Type 0)
    (p : Places) : Type 0 where
  pub replaced_uses : (n : ℕ) → n < length graph.nodes → p.replaces n ≡ true → uses graph e n ≡ true
  pub safe : (n : ℕ) → n < length graph.nodes → p.inserts n ≡ true → IsSafe graph e Down n
  pub available : ReplacedAreAvailable graph e p

-- what the rewriting by a placement needs: each replaced node uses e, which is available there from the insertions, and
-- nothing is inserted before Start
pub record CanFlatten (graph : GraphShape) (e : Expr) (p : Places) : Type 0 where
  pub replaced_uses : (n : ℕ) → n < length graph.nodes → p.replaces n ≡ true → uses graph e n ≡ true
  pub at_start : p.inserts 0 ≡ false
  pub available : ReplacedAreAvailable graph e p

-- nothing is inserted, and nothing replaced
abbrev pub nowhere : Places
nowhere = record { inserts = λ n. false; replaces = λ n. false }

-- how often e is evaluated on the path: at the insertions, and at the uses that are not replaced
abbrev pub count : GraphShape → Expr → Places → List ℕ → ℕ
count graph e p path =
    count_by p.inserts path + count_by (λ n. uses graph e n && not (p.replaces n)) path

-- how often e is evaluated at one node
abbrev pub evaluations_at : GraphShape → Expr → Places → ℕ → ℕ
evaluations_at graph e p n = one_if (p.inserts n) + one_if (uses graph e n && not (p.replaces n))

-- admissible, and on no full path is e evaluated more often than by any other admissible placement
pub record IsOptimal (graph : GraphShape) (e : Expr) (Down : ℕ → Type 0) (p : Places) : Type 0 where
  pub admissible : IsAdmissible graph e Down p
  pub least : (other : Places) → IsAdmissible graph e Down other → (path : List ℕ)
      → IsFullPath graph.nodes path
      → count graph e p path ≤ count graph e other path

-- ---- placements of a table

-- the placement is admissible for each expression, by the rule that says where it is down
abbrev pub AreAdmissible : GraphShape → List Expr → (Expr → ℕ → Type 0) → Placement → Type 0
AreAdmissible graph table Down p =
    ForEachExpr table (λ i e. IsAdmissible graph e (Down e) (places_of p i))

-- it is optimal for each expression
abbrev pub AreOptimal : GraphShape → List Expr → (Expr → ℕ → Type 0) → Placement → Type 0
AreOptimal graph table Down p =
    ForEachExpr table (λ i e. IsOptimal graph e (Down e) (places_of p i))

-- the graph can be rewritten by it, expression by expression
abbrev pub CanFlattenBy : GraphShape → List Expr → Placement → Type 0
CanFlattenBy graph table p = ForEachExpr table (λ i e. CanFlatten graph e (places_of p i))

-- the expressions are over the graph's variables, and the placement has their rows, by which the graph can be rewritten
pub record IsFlattenable (graph : GraphShape) (table : List Expr) (p : Placement) : Type 0 where
  pub over : AreOver (length graph.vars) table
  pub insert : HaveShape graph (length table) p.insert
  pub replace : HaveShape graph (length table) p.replace
  pub placed : CanFlattenBy graph table p

-- ---- expressions that may trap

-- where the evaluation of e traps, a run of the graph that goes on from node n with the same values traps alike, after
-- steps that show nothing
abbrev pub TrapsFrom : GraphShape → Expr → ℕ → Type 0
TrapsFrom graph e n = (arguments : List ℤ) (values : Values) → rhs_traps values (rhs_of e) ≡ true
    → (steps : ℕ)
    × TrapsAfter (graph_code graph.shared graph.received graph.nodes) steps
    (record { place = n; arguments = arguments; values = values })

-- so it is of each expression at each node before which the placement inserts it: no insertion traps where the graph
-- would not
abbrev pub InsertionsTrapAlike : GraphShape → List Expr → Placement → Type 0
InsertionsTrapAlike graph table p =
    ForEachExpr table
    (λ i e. (n : ℕ) → n < length graph.nodes → has_bit p.insert i n ≡ true
    → TrapsFrom graph e n)

-- the placement evaluates no expression of the table more often than the nodes as they are
pub record IsNoDearer (graph : GraphShape) (table : List Expr) (p : Placement) : Type 0 where
  pub no_dearer : (i : ℕ) (e : Expr) → slice_get table i ≡ Some e → (path : List ℕ)
      → IsFullPath graph.nodes path
      → count graph e (places_of p i) path ≤ count_by (uses graph e) path
