-- The lazy placement of a table that is placed part by part, without the expressions that stay where they are. Cited by
-- contracts of private functions.
use Rattle.std.specs.Prelude.{◌≡◌, ◌≢◌, ◌<◌, ◌≤◌, ◌||◌, ℕ, Bool, true, false, List, length, slice_get, slice_index_or, slice_set, Option, Some, None}
use Rattle.mir_base.specs.declared.instructions.Expr.{Expr}
use Rattle.mir_base.specs.Shapes.{AllDiffer}
use Rattle.bit_rows.specs.Bits.{AreAlike, row_bit}
use Rattle.flow_graph.specs.Graphs.{GraphShape}
use Rattle.flow_graph.specs.Paths.{HasEdge}
use Rattle.path_laws.specs.Paths.{HaveShape, has_bit}
use Rattle.motion_rewrite.specs.declared.placement.Placement.{Placement}
use Rattle.motion_rewrite.specs.Expressions.{uses}
use Rattle.motion_rewrite.specs.ExprTables.{ForEachExpr}
use Rattle.motion_rewrite.specs.Placements.{places_of}
use Rattle.latest_place.specs.Lazy.{IsLazy}
use Rattle.latest_place.specs.declared.once.SeenUse.{SeenUse}
use Rattle.latest_place.specs.declared.once.SeenUse.TheVariants.{Never, Once, More}

-- ---- expressions that stay

-- neither node u nor a node of a higher number leads to u or to a node of a lower number
abbrev pub IsPassedOnce : GraphShape → ℕ → Type 0
IsPassedOnce graph u = (m s : ℕ) → u ≤ m → HasEdge graph.nodes m s → u < s

-- of the nodes from this number on u alone uses e, and it is passed once
pub record IsUsedOnceFrom (graph : GraphShape) (e : Expr) (from u : ℕ) : Type 0 where
  pub high : from ≤ u
  pub used : uses graph e u ≡ true
  pub only : (n : ℕ) → from ≤ n → uses graph e n ≡ true → n ≡ u
  pub passed : IsPassedOnce graph u

-- what is known of an expression, where the nodes from this number on were seen
abbrev pub IsSeenFrom : GraphShape → Expr → ℕ → SeenUse → Type 0
IsSeenFrom graph e from Never = (n : ℕ) → from ≤ n → uses graph e n ≡ false
IsSeenFrom graph e from Once = (u : ℕ) × IsUsedOnceFrom graph e from u
IsSeenFrom graph e from More = Unit {0}

-- of each expression of the table this is known from the nodes from this number on
pub record AreSeenFrom (graph : GraphShape) (table : List Expr) (from : ℕ)
    (seen : List SeenUse) : Type 0 where
  pub long : length seen ≡ length table
  pub each : ForEachExpr table (λ i e. IsSeenFrom graph e from (slice_index_or seen i More))

-- no node from this number on leads to a node of a number below the other
abbrev pub LeadsFrom : GraphShape → ℕ → ℕ → Type 0
LeadsFrom graph from least = (m s : ℕ) → from ≤ m → HasEdge graph.nodes m s → least ≤ s

-- what is known of an expression after one more node that uses it: `Once` where no later node does and the node is
-- passed once
abbrev pub seen_again : Bool → SeenUse → SeenUse
seen_again true Never = Once
seen_again false Never = More
seen_again passed Once = More
seen_again passed More = More

-- the same in the list, where a node uses the expression of this number
abbrev pub seen_at : List SeenUse → Bool → Option ℕ → List SeenUse
seen_at seen passed None = seen
seen_at seen passed (Some i) = slice_set seen i (seen_again passed (slice_index_or seen i More))

-- ---- numbers

-- the list has the number
abbrev pub HasNumber : ℕ → List ℕ → Type 0
HasNumber i numbers = (k : ℕ) × (slice_get numbers k ≡ Some i)

-- the numbers of the list are below this one
abbrev pub AreNumbersBelow : ℕ → List ℕ → Type 0
AreNumbersBelow end numbers = (k i : ℕ) → slice_get numbers k ≡ Some i → i < end

-- distinct numbers of expressions of the table, without only such as one node uses, which is passed once
pub record AreToPlace (graph : GraphShape) (table : List Expr) (numbers : List ℕ) : Type 0 where
  pub below : AreNumbersBelow (length table) numbers
  pub differ : AllDiffer numbers
  pub others : ForEachExpr table
      (λ i e. (HasNumber i numbers → ⊥) → (u : ℕ) × IsUsedOnceFrom graph e 0 u)

-- the expressions of these numbers
pub record IsPart (numbers : List ℕ) (table part : List Expr) : Type 0 where
  pub long : length part ≡ length numbers
  pub each : (k i : ℕ) → slice_get numbers k ≡ Some i → slice_get part k ≡ slice_get table i

-- ---- rows

-- in one row the bits of these numbers are those of before or those of the other row; all else is as before
pub record AddsRow (numbers : List ℕ) (node : ℕ) (row : List Bool)
    (old new : List (List Bool)) : Type 0 where
  pub alike : AreAlike old new
  pub others : (n b : ℕ) → n ≢ node → has_bit new b n ≡ has_bit old b n
  pub beside : (b : ℕ) → (HasNumber b numbers → ⊥) → has_bit new b node ≡ has_bit old b node
  pub added : (k b : ℕ) → slice_get numbers k ≡ Some b
      → has_bit new b node ≡ (has_bit old b node || row_bit row k)

-- so it is of each row
pub record AddsBits (numbers : List ℕ) (part old new : List (List Bool)) : Type 0 where
  pub alike : AreAlike old new
  pub beside : (n b : ℕ) → (HasNumber b numbers → ⊥) → has_bit new b n ≡ has_bit old b n
  pub added : (n k b : ℕ) → slice_get numbers k ≡ Some b
      → has_bit new b n ≡ (has_bit old b n || has_bit part k n)

-- ---- the placement

-- the placement has a row for each node and a bit for each expression, and is the lazy one of the expressions of these
-- numbers; of the others it has no bits
pub record IsLazyAmong (Down : GraphShape → Expr → ℕ → Type 0) (graph : GraphShape)
    (table : List Expr)
    (numbers : List ℕ) (p : Placement) : Type 0 where
  pub insert_rows : HaveShape graph (length table) p.insert
  pub replace_rows : HaveShape graph (length table) p.replace
  pub lazy : ForEachExpr table
      (λ i e. HasNumber i numbers → IsLazy graph e (Down graph e) (places_of p i))
  pub inserts_none : (n b : ℕ) → (HasNumber b numbers → ⊥) → has_bit p.insert b n ≡ false
  pub replaces_none : (n b : ℕ) → (HasNumber b numbers → ⊥) → has_bit p.replace b n ≡ false
