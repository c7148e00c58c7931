use Rattle.std.proofs.Common.{◌≡◌, ℕ, suc, ◌+◌, ◌-◌, get_or, length, slice_get, ap, sym, ◌∙◌, arith}
use Rattle.graph_edit.specs.Editing.{change_at, change_each}
use Rattle.graph_edit.specs.EditingLaws.{change_other}
use Rattle.flow_graph.specs.Graphs.{GraphShape}
use Rattle.motion_rewrite.specs.Flatten.{inserted, reading, set_from}
use Rattle.motion_rewrite.proofs.editing.read_temporaries.Goals as goal

pub loop-node-preserved : goal.loop-node-preserved
loop-node-preserved c =
    let temp : ℕ → ℕ = λ i. get_or c.args.temps.now i 0 in
    let changes = λ (n : ℕ). reading temp (inserted c.args.replace.now n) in
    let n = c.loop-node.node in
    let inv = c.loop-node.invariant in
    let graph = c.read_temporary.ensures.graph in
    let row = ap (λ r. reading temp (set_from 0 r)) c.row.ensures in
    let more : length c.args.replace.now - n ≡ suc (length c.args.replace.now - (n + 1)) = omega (arith, c.loop-node-test.true, c.len-node-end.ensures) in
    let next : n + 1 ≡ suc n = omega arith in
    record {
      name = ap (λ (g : GraphShape). g.name) graph ∙ inv.name;
      shared = ap (λ (g : GraphShape). g.shared) graph ∙ inv.shared;
      vars = ap (λ (g : GraphShape). g.vars) graph ∙ inv.vars;
      received = ap (λ (g : GraphShape). g.received) graph ∙ inv.received;
      rest = λ m le. ap (λ (g : GraphShape). slice_get g.nodes m) graph ∙ change_other n m _ c.loop-node.editor.graph.nodes (λ e. omega (arith, e, le)) ∙ inv.rest m (omega (arith, le));
      all = ap (λ (g : GraphShape). change_each changes (length c.args.replace.now - (n + 1)) (n + 1) g.nodes) graph
          ∙ ap (λ ch. change_each changes (length c.args.replace.now - (n + 1)) (n + 1) (change_at n ch c.loop-node.editor.graph.nodes)) row
          ∙ ap (λ k. change_each changes (length c.args.replace.now - (n + 1)) k (change_at n (changes n) c.loop-node.editor.graph.nodes)) next
          ∙ sym (ap (λ k. change_each changes k n c.loop-node.editor.graph.nodes) more)
          ∙ inv.all;
      spare = c.read_temporary.ensures.spare ∙ inv.spare;
    }
