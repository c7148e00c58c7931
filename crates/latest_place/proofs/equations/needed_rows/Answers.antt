use Rattle.std.proofs.Common.{◌≡◌, ◌&&◌, not, ℕ, length, sym, subst}
use Rattle.std.proofs.Math.Path.{fun_ext}
use Rattle.path_laws.specs.Paths.{AreRows, BornAhead, has_bit, width}
use Rattle.path_laws.specs.RowLaws.{are_alike, like_rows, width_is}
use Rattle.latest_place.proofs.equations.needed_rows.Goals as goal
use Rattle.latest_place.proofs.equations.needed_rows.Goals.{In_ok-born}

pub without-requires : goal.without-requires
without-requires c = are_alike (length c.args.uses.now.graph.now.nodes) (width c.args.latest.now) c.args.uses.now.rows.now c.args.latest.now c.requires.uses_are c.requires.rows_are

born_shape : (c : In_ok-born) → AreRows (length c.args.uses.now.graph.now.nodes) (width c.args.latest.now) c.in_ok-born.born
born_shape c = like_rows (length c.args.uses.now.graph.now.nodes) (width c.args.latest.now) c.args.uses.now.rows.now c.in_ok-born.born c.requires.uses_are c.in_ok-born.ensures.alike

pub returns-clause-bits : goal.returns-clause-bits
returns-clause-bits c = λ n b h l.
    let nodes = c.args.uses.now.graph.now.nodes in
    let latest = has_bit c.args.latest.now b in
    let known = (goal.at.returns-clause-bits c).In_ok-born in
    let born : has_bit c.in_ok-born.born b ≡ (λ (m : ℕ). has_bit c.args.uses.now.rows.now b m && not (has_bit c.args.latest.now b m)) = fun_ext (λ m. c.in_ok-born.ensures.bits m b) in
    let wide : width c.in_ok-born.born ≡ width c.args.latest.now = width_is (length nodes) (width c.args.latest.now) n c.in_ok-born.born (born_shape known) h in
    let joins = c.in_ok-needed.ensures.joins n b h in
    let graph = c.in_ok-needed.ensures.graph in (
      λ on.
          let next = joins.0 on in
          let paths = c.in_ok-ahead.ensures.paths next.0 b (graph.can.succs n next.1.0 next.0 next.1.1).1 (rw wide l) in
          (next.0, next.1, subst (λ good. BornAhead nodes good latest next.0) born (paths.0 next.2)),
      λ needed.
          let paths = c.in_ok-ahead.ensures.paths needed.0 b (graph.can.succs n needed.1.0 needed.0 needed.1.1).1 (rw wide l) in
          joins.1 (needed.0, needed.1, paths.1 (subst (λ good. BornAhead nodes good latest needed.0) (sym born) needed.2)),
    )
