use Rattle.std.proofs.Common.{◌≡◌, ◌<◌, ◌∷◌, length, ap, sym, subst}
use Rattle.std.proofs.lemmas.Option.{slice_get_past, slice_get_within}
use Rattle.mir_base.specs.Shapes.{rhs_vars}
use Rattle.flow_graph.specs.Graphs.{Reached}
use Rattle.graph_edit.specs.Accesses.{is_occurrence, occurs_at}
use Rattle.path_laws.specs.Paths.{BornBefore, has_bit, width}
use Rattle.path_laws.specs.RowLaws.{rows_as_many, width_is}
use Rattle.held_assign.specs.Holding.{assigns_one}
use Rattle.held_assign.specs.Rows.{is_born, is_ended}
use Rattle.held_assign.proofs.Bits.{whole_rows}
use Rattle.held_assign.proofs.held.held_since.Goals as goal

pub returns : goal.returns
returns g c =
    let graph = c.args.graph.now in
    let nodes = c.args.graph.now.nodes in
    let table = c.args.table.now in
    record {
      shape = rows_as_many (length nodes) (length table) c.args.born.now c.in_ok-rows.rows c.requires.born.shape c.in_ok-rows.ensures.shape;
      bits = λ n i a n_in at.
          let wide : width c.args.born.now ≡ length c.args.table.now = width_is (length nodes) (length table) n c.args.born.now c.requires.born.shape n_in in
          let paths = c.in_ok-rows.ensures.paths n i n_in (rw wide (slice_get_within table i a at)) in
          let born = whole_rows (length nodes) table (is_born graph) c.args.born.now i a at (λ m late. ap (is_occurrence a.target a.rhs) (slice_get_past nodes m late)) c.requires.born in
          let stop = whole_rows (length nodes) table (is_ended graph) c.args.ended.now i a at (λ m late. ap (assigns_one graph (a.target ∷ rhs_vars a.rhs)) (slice_get_past nodes m late)) c.requires.ended in (
            λ on. record {
              can = (c.requires.holdable i a at).can;
              reached = subst (λ l. Reached l n) c.nodes-nodes.ensures.value (c.nodes-nodes.ensures.graph.reached n (subst (λ l. n < length l) (sym c.nodes-nodes.ensures.value) n_in));
              paths = subst (λ s. BornBefore nodes (occurs_at a.target a.rhs graph) s n) stop (subst (λ b. BornBefore nodes b (has_bit c.args.ended.now i) n) born (paths.0 on));
            },
            λ is. paths.1 (subst (λ b. BornBefore nodes b (has_bit c.args.ended.now i) n) (sym born) (subst (λ s. BornBefore nodes (occurs_at a.target a.rhs graph) s n) (sym stop) is.paths)),
          );
    }
