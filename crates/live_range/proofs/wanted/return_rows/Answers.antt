use Rattle.std.proofs.Common.{◌≡◌, ◌<◌, false, Some, sym, ap, ◌∙◌, subst, inl, inr, length, get_or, set, slice_get, arith}
use Rattle.std.proofs.lemmas.Bool.{cases_eq}
use Rattle.std.proofs.lemmas.List.{get_or-set_same, length-set}
use Rattle.std.proofs.lemmas.Option.{slice_get-get_or}
use Rattle.bit_rows.specs.Bits.{row_of}
use Rattle.flow_graph.specs.Paths.{is_return}
use Rattle.path_laws.specs.Paths.{has_bit}
use Rattle.path_laws.specs.RowLaws.{put, written_shape}
use Rattle.live_range.proofs.wanted.return_rows.Goals as goal

pub loop-n-preserved : goal.loop-n-preserved
loop-n-preserved c =
    let n = c.loop-n.n in
    let rows = c.loop-n.rows in
    let nodes = c.args.nodes.now in
    let n_in : n < length nodes = c.loop-n-test.true in
    let shape = c.loop-n.invariant.shape in
    let row = set (row_of rows n) 0 c.is_return.result in
    let made = put rows c.set.new.self n row (rw shape.len n_in) c.set.ensures in
    let long = shape.each n n_in in
    let at = slice_get-get_or nodes n c.index-nodes-n.result n_in ∙ ap Some (sym c.index-nodes-n.is) in
    let here : has_bit c.set.new.self 0 n ≡ is_return (slice_get nodes n) =
    ap (λ r. get_or r 0 false) made.here ∙ get_or-set_same (row_of rows n) 0 c.is_return.result false (omega (arith, long)) ∙ c.is_return.ensures ∙ ap is_return (sym at) in
    record {
      shape = written_shape (length nodes) 1 n rows c.set.new.self row shape made (length-set (row_of rows n) 0 c.is_return.result ∙ long);
      done = λ m low. elim (cases_eq m n) [
        | inl same ↦ subst (λ k. has_bit c.set.new.self 0 k ≡ is_return (slice_get c.args.nodes.now k)) (sym same) here
        | inr other ↦ ap (λ r. get_or r 0 false) (made.others m other) ∙ c.loop-n.invariant.done m (omega (arith, low, other))
      ];
    }
