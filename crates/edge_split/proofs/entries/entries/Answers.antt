use Rattle.std.proofs.Common.{◌≡◌, ℕ, ◌+◌, ◌<◌, ◌≤◌, ◌∙◌, ap, sym, subst, length, min, take, slice_index, arith}
use Rattle.flow_graph.specs.BoundLaws.{succs_at_below}
use Rattle.std.proofs.lemmas.List.{length-replicate, take_all}
use Rattle.flow_graph.specs.Graphs.{succs_at, AllWithin}
use Rattle.node_list.specs.Lists.{times_in}
use Rattle.edge_split.proofs.Targets.{none_counted, preds_times, targets, targets_front}
use Rattle.edge_split.proofs.entries.entries.Goals as goal
use Rattle.node_list.specs.ListedLaws.{times_in_append}

pub loop-n-init : goal.loop-n-init
loop-n-init c = record {
  len = ap length c.in_ok-entries.ensures ∙ length-replicate {A = ℕ} (length c.nodes-nodes.result.now) 0 ∙ ap length c.nodes-nodes.ensures.value;
  counted = λ s. ap (λ l. slice_index l s) c.in_ok-entries.ensures ∙ none_counted (length c.nodes-nodes.result.now) s;
}

pub count-requires-clause-within : goal.count-requires-clause-within
count-requires-clause-within c =
    let within : AllWithin c.args.graph.now.nodes = subst AllWithin c.nodes-nodes.ensures.value (λ m slot s edge. (c.nodes-nodes.ensures.graph.can.succs m slot s edge).1) in
    rw (c.as_slice-in-loop-n.ensures, c.succs.ensures, c.loop-n.invariant.len) (succs_at_below c.args.graph.now.nodes c.loop-n.n within)

pub count-requires-clause-few : goal.count-requires-clause-few
count-requires-clause-few c = λ s. omega (arith, c.loop-n.invariant.counted s)

pub loop-n-preserved : goal.loop-n-preserved
loop-n-preserved c =
    let nodes = c.args.graph.now.nodes in
    let n = c.loop-n.n in
    let inv = c.loop-n.invariant in
    let lt : n < length nodes = omega (arith, c.loop-n-test.true, ap length c.nodes-nodes.ensures.value) in
    let succs : c.as_slice-in-loop-n.result.now ≡ succs_at nodes n = c.as_slice-in-loop-n.ensures ∙ c.succs.ensures in
    record {
      len = c.count.ensures.len ∙ inv.len;
      counted = λ s.
          let one : slice_index c.count.new.entries.items s ≡ min 2 (slice_index c.loop-n.entries.items s + times_in s (succs_at nodes n)) = rw succs at (c.count.ensures.counted s) in
          let all : times_in s (targets (take (n + 1) nodes)) ≡ times_in s (targets (take n nodes)) + times_in s (succs_at nodes n) = ap (times_in s) (targets_front nodes n lt) ∙ times_in_append s (targets (take n nodes)) (succs_at nodes n) in
          omega (arith, one, all, inv.counted s);
    }

pub returns-clause-len : goal.returns-clause-len
returns-clause-len c = c.loop-n.invariant.len

pub returns-clause-are : goal.returns-clause-are
returns-clause-are c = λ s.
    let nodes = c.args.graph.now.nodes in
    let end : length nodes ≤ c.loop-n.n = omega (arith, c.loop-n-test.false, ap length c.nodes-nodes.ensures.value) in
    c.loop-n.invariant.counted s ∙ ap (λ l. min 2 (times_in s (targets l))) (take_all c.loop-n.n nodes end) ∙ ap (min 2) (sym (preds_times nodes s))
