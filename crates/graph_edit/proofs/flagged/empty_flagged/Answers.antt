use Rattle.std.proofs.Common.{◌≡◌, ◌+◌, ◌<◌, false, length, suc, sym, true, ap, ◌∙◌, arith}
use Rattle.flow_graph.specs.ListLaws.{some_at}
use Rattle.graph_edit.specs.Editing.{change_at}
use Rattle.graph_edit.specs.Flagged.{flag_at}
use Rattle.graph_edit.specs.Insertions.{Removed}
use Rattle.graph_edit.proofs.Flags.{kept_next, pruned_below, pruned_whole, removed_next}
use Rattle.graph_edit.proofs.flagged.empty_flagged.Goals as goal
use Rattle.graph_edit.proofs.flagged.empty_flagged.Goals.{then-flags-n, else-flags-n}

pub loop-n-preserved : goal.loop-n-preserved
loop-n-preserved c =
    let nodes = c.args.nodes.now in
    let flagged = flag_at c.args.flags.now in
    let n = c.loop-n.n in
    let node = some_at nodes n (omega (arith, c.requires, c.loop-n-test.true)) in
    let same : n ≡ 0 + n = omega arith in
    let one : suc n ≡ n + 1 = omega arith in
    elim c.if-flags-n.branch [
      | then-flags-n w ↦
          w.nodes-is ∙ w.empty.ensures ∙ ap (change_at n Removed) c.loop-n.invariant
          ∙ removed_next flagged 0 nodes n node.0 true node.1 (sym w.if-flags-n.true ∙ ap flagged same)
          ∙ ap (λ k. pruned_below flagged 0 k nodes) one
      | else-flags-n w ↦
          w.nodes-is ∙ c.loop-n.invariant
          ∙ kept_next flagged 0 nodes n node.0 node.1 (ap flagged (sym same) ∙ w.if-flags-n.false)
          ∙ ap (λ k. pruned_below flagged 0 k nodes) one
    ]

pub returns : goal.returns
returns c =
    let nodes = c.args.nodes.now in
    let flagged = flag_at c.args.flags.now in
    let all : c.loop-n.n ≡ length nodes = omega (arith, c.loop-n-test.false, c.loop-n.auto.n-end, c.requires) in
    c.loop-n.invariant ∙ ap (λ k. pruned_below flagged 0 k nodes) all ∙ pruned_whole flagged nodes
