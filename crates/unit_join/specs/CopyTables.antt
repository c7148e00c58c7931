-- The table of the leaves that a graph calls, as the crate's own functions say it. Cited by contracts of private
-- functions.
use Rattle.std.specs.Prelude.{◌≡◌, ℕ, ◌+◌, ◌<◌, if◌then◌else◌, nat_eq, List, [], ◌∷◌, length, slice_get, Option, Some, None}
use Rattle.flow_graph.specs.Graphs.{GraphShape}
use Rattle.flow_graph.specs.Numbering.{seen_after}
use Rattle.unit_join.specs.declared.copy_table.CopyTable.{CopyTable}
use Rattle.unit_join.specs.Joins.{copies, leaf_at, leaf_vars}

-- the first copy of a unit, where it is one of these leaves
abbrev pub first_if_called : List (Option GraphShape) → List ℕ → ℕ → ℕ → Option ℕ
first_if_called leaves [] first unit = None
first_if_called leaves (u ∷ units) first unit =
    if nat_eq u unit then Some first
    else first_if_called leaves units (first + leaf_vars (leaf_at leaves u)) unit

-- the table has the copies of its leaves, in a graph with so many variables
pub record HasCopyNumbers (leaves : List (Option GraphShape)) (vars : ℕ)
    (table : CopyTable) : Type 0 where
  pub long : length table.firsts.items ≡ length leaves
  pub firsts : (u : ℕ) → u < length leaves
      → slice_get table.firsts.items u ≡ Some (first_if_called leaves table.units.items vars u)
  pub end : table.end ≡ vars + copies leaves table.units.items

-- the second table is the first with these units of leaves that are not among its own
abbrev pub TakesInLeaves : List (Option GraphShape) → List ℕ → CopyTable → CopyTable → Type 0
TakesInLeaves leaves units old new = (vars : ℕ) → HasCopyNumbers leaves vars old
    → (new.units.items ≡ seen_after old.units.items units) × HasCopyNumbers leaves vars new
