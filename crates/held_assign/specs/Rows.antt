-- Rows with a bit for each assignment of a table, and what holds before a node by such a row. Cited by contracts.
use Rattle.std.specs.Prelude.{◌≡◌, ℕ, ◌<◌, Bool, true, false, nat_eq, ◌&&◌, if◌then◌else◌, List, [], ◌∷◌, length, slice_get, Option, Some, None}
use Rattle.mir_base.specs.declared.instructions.Rhs.{Rhs}
use Rattle.mir_base.specs.Shapes.{rhs_vars}
use Rattle.bit_rows.specs.Bits.{row_bit, row_of}
use Rattle.flow_graph.specs.Graphs.{GraphShape}
use Rattle.flow_graph.specs.Numbering.{is_in}
use Rattle.graph_edit.specs.Accesses.{occurs_at}
use Rattle.key_rows.specs.KeyRows.{AreKeyRows, AreKeyRowsWhere}
use Rattle.path_laws.specs.Paths.{AreRows}
use Rattle.held_assign.specs.declared.held.HeldAssigns.{HeldAssigns}
use Rattle.held_assign.specs.declared.table.Assignment.{Assignment}
use Rattle.held_assign.specs.Assignments.{assignment_vars}
use Rattle.held_assign.specs.Holding.{IsHeld, IsHeldRhs, ends_at}

-- ---- by variables

-- the assignment assigns the variable
abbrev pub has_target : Assignment → ℕ → Bool
has_target a x = nat_eq a.target x

-- its right side reads the variable
abbrev pub has_source : Assignment → ℕ → Bool
has_source a x = is_in x (rhs_vars a.rhs)

-- the one or the other
abbrev pub is_of : Assignment → ℕ → Bool
is_of a x = is_in x (assignment_vars a)

-- for each of so many variables, which assignments of the table assign it
abbrev pub AreTargetRows : ℕ → List Assignment → List (List Bool) → Type 0
AreTargetRows vars table rows = AreKeyRows vars table has_target rows

-- ---- by nodes

-- the node of the number is the assignment
abbrev pub is_born : GraphShape → Assignment → ℕ → Bool
is_born graph a n = occurs_at a.target a.rhs graph n

-- the node of the number assigns a variable of it
abbrev pub is_ended : GraphShape → Assignment → ℕ → Bool
is_ended graph a n = ends_at graph a.target a.rhs n

-- a row for each node and a bit for each assignment of the table: whether it holds before the node
abbrev pub AreHeldRows : GraphShape → List Assignment → List (List Bool) → Type 0
AreHeldRows graph table rows =
    AreKeyRowsWhere (length graph.nodes) table (λ a. IsHeld graph a.target a.rhs) rows

-- ---- what holds

-- both rows have this bit
abbrev pub in_both : List Bool → List Bool → ℕ → Bool
in_both row other k = row_bit row k && row_bit other k

-- the first bit that both rows have
pub record IsFirstShared (row other : List Bool) (k : ℕ) : Type 0 where
  pub within : k < length row
  pub both : in_both row other k ≡ true
  pub first : (j : ℕ) → j < k → in_both row other j ≡ false

-- the two rows have no bit in common
abbrev pub HaveNoneShared : List Bool → List Bool → Type 0
HaveNoneShared row other = (k : ℕ) → in_both row other k ≡ false

-- the right side that holds for v where this row says which assignments of the table do: that of the first one of v
abbrev pub held_in : List Assignment → List Bool → ℕ → Option Rhs
held_in [] row v = None
held_in (a ∷ table) [] v = None
held_in (a ∷ table) (bit ∷ row) v =
    if bit && nat_eq a.target v then Some a.rhs else held_in table row v

-- so many variables, the assignments of each, and rows by nodes of those that hold
pub record IsLookup (vars nodes : ℕ) (held : HeldAssigns) : Type 0 where
  pub below : (i : ℕ) (a : Assignment) → slice_get held.table i ≡ Some a → a.target < vars
  pub targets : AreTargetRows vars held.table held.targets
  pub rows : AreRows nodes (length held.table) held.held

-- the right side that holds for v before node n
abbrev pub held_at : HeldAssigns → ℕ → ℕ → Option Rhs
held_at held n v = held_in held.table (row_of held.held n) v

-- before each node of the graph and of each variable it is the picked one that holds, and none where there is none
abbrev pub TellsHeld : (ℕ → Rhs → Bool) → GraphShape → HeldAssigns → Type 0
TellsHeld picked graph held = (n v : ℕ) → n < length graph.nodes
    → IsHeldRhs picked graph n v (held_at held n v)
