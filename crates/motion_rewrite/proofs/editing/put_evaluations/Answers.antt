use Rattle.std.proofs.Common.{◌≡◌, ℕ, suc, ◌+◌, ◌-◌, get_or, length, ap, sym, ◌∙◌, arith}
use Rattle.graph_edit.specs.Editing.{put_all, put_each}
use Rattle.motion_rewrite.specs.EditingOrder.{put_all_length}
use Rattle.flow_graph.specs.Graphs.{GraphShape}
use Rattle.motion_rewrite.specs.Flatten.{inserted, inserted_below, insertions_of, set_from}
use Rattle.motion_rewrite.proofs.RowNumbers.{inserted_mono}
use Rattle.motion_rewrite.proofs.editing.put_evaluations.Goals as goal

pub put_before-requires-clause-room : goal.put_before-requires-clause-room
put_before-requires-clause-room c =
    let row = ap (λ r. length (set_from 0 r)) c.row.ensures in
    let mono = inserted_mono c.args.insert.now c.loop-node.node (length c.args.insert.now) (omega (arith, c.loop-node-test.true, c.len-node-end.ensures)) in
    omega (arith, row, mono, c.loop-node.invariant.spare, c.requires.room)

pub loop-node-preserved : goal.loop-node-preserved
loop-node-preserved c =
    let temp : ℕ → ℕ = λ i. get_or c.args.temps.now i 0 in
    let puts = λ (n : ℕ). insertions_of temp c.args.table.now (inserted c.args.insert.now n) in
    let n = c.loop-node.node in
    let inv = c.loop-node.invariant in
    let graph = c.put_before.ensures.graph in
    let row = ap (λ r. insertions_of temp c.args.table.now (set_from 0 r)) c.row.ensures in
    let count = ap (λ r. length (set_from 0 r)) c.row.ensures in
    let rest = length c.args.insert.now - (n + 1) in
    let more : length c.args.insert.now - n ≡ suc rest = omega (arith, c.loop-node-test.true, c.len-node-end.ensures) in
    let next : n + 1 ≡ suc n = omega arith in
    let below = ap {B = ℕ} (inserted_below c.args.insert.now) next in
    record {
      name = ap (λ (g : GraphShape). g.name) graph ∙ inv.name;
      shared = ap (λ (g : GraphShape). g.shared) graph ∙ inv.shared;
      vars = ap (λ (g : GraphShape). g.vars) graph ∙ inv.vars;
      received = ap (λ (g : GraphShape). g.received) graph ∙ inv.received;
      long = let longer = ap (λ (g : GraphShape). length g.nodes) graph in omega (arith, longer, put_all_length n (insertions_of temp c.args.table.now (set_from 0 c.row.result)) c.loop-node.editor.graph.nodes, inv.long);
      all = ap (λ (g : GraphShape). put_each puts rest (n + 1) g.nodes) graph
          ∙ ap (λ l. put_each puts rest (n + 1) (put_all n l c.loop-node.editor.graph.nodes)) row
          ∙ ap (λ k. put_each puts rest k (put_all n (puts n) c.loop-node.editor.graph.nodes)) next
          ∙ sym (ap (λ k. put_each puts k n c.loop-node.editor.graph.nodes) more)
          ∙ inv.all;
      spare = omega (arith, c.put_before.ensures.spare, count, below, inv.spare);
    }
