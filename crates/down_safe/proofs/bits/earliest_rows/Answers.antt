use Rattle.std.proofs.Common.{◌≡◌, ℕ, ◌<◌, length, sym, refl, subst, ◌∙◌}
use Rattle.std.proofs.lemmas.Bool.{and_parts}
use Rattle.flow_graph.specs.BoundLaws.{edge_within}
use Rattle.path_laws.specs.Paths.{AreRows, has_bit, width}
use Rattle.path_laws.specs.RowLaws.{rows_as_many, like_rows}
use Rattle.down_safe.specs.Bits.{is_frontier}
use Rattle.down_safe.proofs.bits.earliest_rows.Goals as goal
use Rattle.down_safe.proofs.bits.earliest_rows.Goals.{In_ok-rows}

frontier_shape : (c : In_ok-rows) → AreRows (length c.args.sites.now.graph.now.nodes) (width c.args.sites.now.kills.now) c.frontier_rows-frontier.result
frontier_shape c = let P : ℕ → Type 0 = λ n. AreRows n (width c.args.sites.now.kills.now) c.frontier_rows-frontier.result in subst P c.requires.kills.len c.frontier_rows-frontier.ensures.shape

after_shape : (c : In_ok-rows) → AreRows (length c.args.sites.now.graph.now.nodes) (width c.args.sites.now.kills.now) c.in_ok-rows.rows
after_shape c = rows_as_many (length c.args.sites.now.graph.now.nodes) (width c.args.sites.now.kills.now) c.frontier_rows-frontier.result c.in_ok-rows.rows (frontier_shape c) c.in_ok-rows.ensures.shape

pub returns-clause-shape : goal.returns-clause-shape
returns-clause-shape c = like_rows (length c.args.sites.now.graph.now.nodes) (width c.args.sites.now.kills.now) c.in_ok-rows.rows c.and_rows.new.self (after_shape (goal.at.returns-clause-shape c).In_ok-rows) c.and_rows.ensures.alike

pub returns-clause-earliest : goal.returns-clause-earliest
returns-clause-earliest c = λ n b h l.
    let known = (goal.at.returns-clause-earliest c).In_ok-rows in
    let nodes = c.args.sites.now.graph.now.nodes in
    let joins = c.in_ok-rows.ensures.joins n b h in
    let early_is = c.and_rows.ensures.bits n b in
    let frontier_is : (m : ℕ) → m < length c.args.sites.now.graph.now.nodes → has_bit c.frontier_rows-frontier.result b m ≡ is_frontier (has_bit c.args.sites.now.kills.now b m) (has_bit c.args.available b m) (has_bit c.args.anticipatable.now b m) = λ m m_in. c.frontier_rows-frontier.ensures.bits m b (rw c.requires.kills.len m_in) l in (
      λ on.
          let both = and_parts (has_bit c.in_ok-rows.rows b n) (has_bit c.args.anticipatable.now b n) (sym early_is ∙ on) in
          let pred = joins.0 both.0 in
          (both.1, (pred.0, pred.1, sym (frontier_is pred.0 (edge_within nodes pred.0 n pred.1)) ∙ pred.2)),
      λ early.
          let m = early.1.0 in
          let edge = early.1.1 in
          let at_frontier = frontier_is m (edge_within nodes m n edge) ∙ early.1.2 in
          early_is ∙ rw (joins.1 (m, edge, at_frontier), early.0) refl,
    )
