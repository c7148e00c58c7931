use Rattle.std.proofs.Common.{◌<◌, ℕ, false, length, replicate, ap, ◌∙◌, subst, arith}
use Rattle.path_laws.specs.FalseRows.{false_rows}
use Rattle.path_laws.specs.Paths.{has_bit, width}
use Rattle.path_laws.specs.RowLaws.{rows_as_many, width_is}
use Rattle.live_range.specs.Wanted.{AreReturnRows}
use Rattle.live_range.proofs.Reaching.{reaching_says}
use Rattle.live_range.proofs.wanted.reaching_rows.Goals as goal

pub returns : goal.returns
returns c =
    let nodes = c.args.graph.now.nodes in
    let returns = c.in_ok-returns.returns in
    let nowhere = c.in_ok-nowhere.nowhere in
    let are : AreReturnRows c.args.graph.now.nodes c.in_ok-returns.returns = subst (λ list. AreReturnRows list c.in_ok-returns.returns) c.nodes.ensures.value c.in_ok-returns.ensures in
    let falses = false_rows (length nodes) 1 nowhere (c.in_ok-nowhere.ensures ∙ ap (λ (n : ℕ). replicate n (replicate 1 false)) c.len.ensures) in
    record {
      shape = rows_as_many (length nodes) 1 returns c.in_ok-rows.rows are.shape c.in_ok-rows.ensures.shape;
      bits = λ n n_in.
          let one : 0 < width returns = rw (width_is (length nodes) 1 n returns are.shape n_in) (omega arith) in
          let says = c.in_ok-rows.ensures.paths n 0 n_in one in
          let reach = reaching_says nodes (has_bit returns 0) (has_bit nowhere 0) are.bits (λ m m_in. falses.1 m 0 m_in) n in
          (λ on. reach.0 (says.0 on), λ reaches. says.1 (reach.1 reaches));
    }
