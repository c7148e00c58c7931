use Rattle.std.proofs.Common.{List, Bool, ℕ, length, slice_get, subst}
use Rattle.mir_base.specs.declared.instructions.Expr.{Expr}
use Rattle.flow_graph.specs.declared.nodes.Node.{Node}
use Rattle.key_rows.specs.KeyRows.{AreKeyRows, HasKey}
use Rattle.key_rows.specs.KeyRowLaws.{by_test}
use Rattle.motion_rewrite.specs.Expressions.{node_uses}
use Rattle.motion_rewrite.proofs.RowBits.{uses_written, written_at}
use Rattle.motion_rewrite.proofs.rows.use_rows.Goals as goal

-- the expression is used at the node of this number
abbrev used : List Node → Expr → ℕ → Bool
used nodes e n = node_uses e (slice_get nodes n)

pub returns : goal.returns
returns c =
    let nodes = c.nodes-nodes.result.now in
    let table = c.args.table.now in
    subst (λ (all : List Node). AreKeyRows (length all) table (used all) c.in_ok-rows.rows) c.nodes-nodes.ensures.value
    (by_test (length nodes) table (used nodes) (HasKey written_at nodes) c.in_ok-rows.rows (λ n i e n_in at. uses_written nodes n e) c.in_ok-rows.ensures)
