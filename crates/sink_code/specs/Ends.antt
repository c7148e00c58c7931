-- Before which nodes patterns are inserted, edge by edge. Cited by contracts of private functions.
use Rattle.std.specs.Prelude.{◌≡◌, ◌<◌, ℕ, ◌&&◌, Bool, true, List, length, slice_get, Some}
use Rattle.flow_graph.specs.declared.edges.Edge.{Edge}
use Rattle.flow_graph.specs.Blocks.{IsFirst}
use Rattle.path_laws.specs.Paths.{AreRows, has_bit}
use Rattle.sink_code.specs.declared.over.OverBlocks.{OverBlocks}
use Rattle.sink_code.specs.declared.patterns.Pattern.{Pattern}
use Rattle.graph_edit.specs.Accesses.{blocks_at}
use Rattle.sink_code.specs.Delaying.{IsDelayedTo, IsInsertedAt}

-- so many rows, one bit for each pattern: what both of these rows have
pub record AreBothTo (over : OverBlocks) (blocked delayed : List (List Bool)) (count : ℕ)
    (rows : List (List Bool)) : Type 0 where
  pub shape : AreRows count (length over.table.now) rows
  pub bits : (n k : ℕ) (p : Pattern) → n < count → slice_get over.table.now k ≡ Some p
      → has_bit rows k n ≡ (has_bit delayed k n && has_bit blocked k n)

-- one row for each node, one bit for each pattern: what is set is inserted there. What is inserted at a node that blocks
-- it is set, and what is delayed at the source of an edge before this number into a first node, and not at the target
pub record AreEndedTo (over : OverBlocks) (count : ℕ) (rows : List (List Bool)) : Type 0 where
  pub shape : AreRows (length over.graph.now.nodes) (length over.table.now) rows
  pub only : (n k : ℕ) (p : Pattern) → n < length over.graph.now.nodes
      → slice_get over.table.now k ≡ Some p → has_bit rows k n ≡ true
      → IsInsertedAt over.graph.now p.var p.rhs n
  pub blocked : (n k : ℕ) (p : Pattern) → n < length over.graph.now.nodes
      → slice_get over.table.now k ≡ Some p → IsDelayedTo over.graph.now p.var p.rhs n
      → blocks_at p.var p.rhs over.graph.now n ≡ true → has_bit rows k n ≡ true
  pub ended : (number k : ℕ) (p : Pattern) (edge : Edge) → number < count
      → slice_get over.table.now k ≡ Some p → slice_get over.edges.now.edges number ≡ Some edge
      → IsFirst over.graph.now.nodes edge.target
      → IsDelayedTo over.graph.now p.var p.rhs edge.source
      → (IsDelayedTo over.graph.now p.var p.rhs edge.target → ⊥) → has_bit rows k edge.source
      ≡ true
