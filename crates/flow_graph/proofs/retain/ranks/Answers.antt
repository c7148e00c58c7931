use Rattle.std.proofs.Common.{◌≡◌, ◌∙◌, suc, ◌+◌, ◌++◌, ◌∷◌, [], ap, arith, length, length-append, true, false}
use Rattle.flow_graph.specs.Retained.{marked_below as rank_of}
use Rattle.flow_graph.proofs.Ranking.{rank_more, rank_same, ranked, marks_index}
use Rattle.flow_graph.proofs.retain.ranks.Goals.{then-mark, else-mark}
use Rattle.flow_graph.proofs.retain.ranks.Goals as goal

pub loop-mark-preserved : goal.loop-mark-preserved
loop-mark-preserved c =
    let i = c.loop-mark.mark-index in
    let inv = c.loop-mark.invariant in
    let marks = c.args.marks.now in
    let next : i + 1 ≡ suc i = omega arith in
    let pushed : c.push.new.self.items ≡ c.loop-mark.ranks.items ++ rank_of marks i ∷ [] = c.in_ok-push.ensures.items ∙ ap (λ r. c.loop-mark.ranks.items ++ r ∷ []) inv.is in
    record {
      few = elim c.if-mark.branch [ then-mark w ↦ omega (arith, inv.few, w.rank-is) | else-mark w ↦ omega (arith, inv.few, w.rank-is) ];
      is = elim c.if-mark.branch [
        | then-mark w ↦ omega (arith, w.rank-is, inv.is, ap (rank_of marks) next, rank_more marks i (marks_index marks i true c.loop-mark-test.true w.if-mark.true))
        | else-mark w ↦ omega (arith, w.rank-is, inv.is, ap (rank_of marks) next, rank_same marks i (marks_index marks i false c.loop-mark-test.true w.if-mark.false))
      ];
      long = omega (arith, ap length pushed, length-append c.loop-mark.ranks.items (rank_of marks i ∷ []), inv.long);
      are = ranked marks c.loop-mark.ranks.items c.push.new.self.items i inv.long inv.are pushed;
    }
