-- The rows that tell where a placement holds its temporaries are the only ones; rows of one shape are equally long; and
-- what is held least is held by every optimal placement of a table. For proofs only, here and above.
use Rattle.std.proofs.Common.{◌≡◌, ℕ, Bool, List, Some, length, slice_get}
use Rattle.mir_base.specs.declared.instructions.Expr.{Expr}
use Rattle.bit_rows.specs.Bits.{AreEquallyLong}
use Rattle.flow_graph.specs.Edges.{edges_of}
use Rattle.flow_graph.specs.Graphs.{GraphShape}
use Rattle.flow_graph.specs.ListLaws.{some_at}
use Rattle.path_laws.specs.Paths.{AreRows, has_bit}
use Rattle.motion_rewrite.specs.declared.placement.Placement.{Placement}
use Rattle.motion_rewrite.specs.Placements.{AreOptimal, places_of}
use Rattle.latest_place.specs.LazyLaws.{one_bit, rows_are_one}
use Rattle.live_range.specs.Held.{AreHeldEdges, AreHeldLeast, IsHeld}

-- two that tell the same are equal
pub held_is_one : (graph : GraphShape) (table : List Expr) (p : Placement) (a b : List (List Bool))
    → AreHeldEdges graph table p a → AreHeldEdges graph table p b → a ≡ b
held_is_one graph table p a b one two =
    let edges = (edges_of graph.nodes).edges in
    rows_are_one (length edges) (length table) a b one.shape two.shape (λ k i k_in i_in.
    let edge = some_at edges k k_in in
    one_bit _ (has_bit a i k) (has_bit b i k) (one.bits k i edge.0 edge.1 i_in) (two.bits k i edge.0 edge.1 i_in))

-- so many rows, each of so many bits
pub even_rows : (count bits : ℕ) (rows : List (List Bool)) → AreRows count bits rows → AreEquallyLong bits rows
even_rows count bits rows shape = record { each = λ n n_in. shape.each n (rw shape.len at n_in) }

-- a placement of the table that is optimal for each of its expressions holds a temporary wherever one that is held
-- least does
pub least_of_placements : (graph : GraphShape) (table : List Expr) (Down : Expr → ℕ → Type 0) (p q : Placement)
    → AreHeldLeast graph table Down p → AreOptimal graph table Down q
    → (i : ℕ) (e : Expr) → slice_get table i ≡ Some e → (m n : ℕ) → IsHeld graph.nodes (places_of p i) m n → IsHeld graph.nodes (places_of q i) m n
least_of_placements graph table Down p q least best i e at m n held = least i e at (places_of q i) (best i e at) m n held
