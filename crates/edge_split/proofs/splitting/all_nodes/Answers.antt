use Rattle.std.proofs.Common.{◌≡◌, ℕ, nat_lt, slice_index, ◌<◌, ◌+◌, ◌++◌, ◌∙◌, [], ◌∷◌, ap, sym, subst, refl, arith, length, map, drop, length-append}
use Rattle.flow_graph.specs.BoundLaws.{succs_all_below}
use Rattle.std.proofs.lemmas.List.{drop_more, drop_all, length-map}
use Rattle.std.proofs.lemmas.Option.{slice_get_read}
use Rattle.mir_base.specs.Shapes.{AllBelow}
use Rattle.flow_graph.specs.declared.nodes.Node.TheVariants.{Skip}
use Rattle.flow_graph.specs.Graphs.{node_succs}
use Rattle.flow_graph.specs.Edges.{preds_of}
use Rattle.edge_split.specs.Split.{has_more, is_join, joins_among, rerouted, through_skips, with_succs}
use Rattle.edge_split.proofs.Targets.{more_of_two, same_joins, same_through, targets}
use Rattle.edge_split.proofs.Through.{one_rerouted, one_made}
use Rattle.edge_split.proofs.Splits.{all_split}
use Rattle.edge_split.proofs.splitting.all_nodes.Goals as goal

pub reroute-requires-clause-within : goal.reroute-requires-clause-within
reroute-requires-clause-within c =
    let old = c.args.old.now in
    let here = slice_get_read old (length old) c.loop-node.node-index c.node-item.result refl c.loop-node-test.true c.node-item.is in
    subst (λ n. AllBelow n (node_succs c.node-item.result)) (sym c.loop-node.invariant.long) (succs_all_below old c.loop-node.node-index c.node-item.result c.requires.within here)

pub loop-node-preserved : goal.loop-node-preserved
loop-node-preserved c =
    let old = c.args.old.now in
    let inv = c.loop-node.invariant in
    let i = c.loop-node.node-index in
    let node = c.node-item.result in
    let before = c.loop-node.skips in
    let made = c.reroute.new.self.made.items in
    let lt : i < length old = c.loop-node-test.true in
    let taken = drop_more old i node lt ∙ ap (λ n. n ∷ drop (i + 1) old) (sym c.node-item.is) in
    let more = has_more before.entries.items in
    let same : (s : ℕ) → more s ≡ is_join old s = λ s. ap (nat_lt 1) (inv.entries s) ∙ more_of_two (length (preds_of old s)) in
    let skips : made ≡ before.made.items ++ map Skip (joins_among (is_join old) (node_succs node)) = c.in_ok-rerouted.ensures.made ∙ ap (λ l. before.made.items ++ map Skip l) (same_joins more (is_join old) same (node_succs node)) in
    let is : c.in_ok-rerouted.rerouted ≡ with_succs node (through_skips (is_join old) (before.first + length before.made.items) (node_succs node)) = c.in_ok-rerouted.ensures.node ∙ ap (with_succs node) (same_through more (is_join old) same (node_succs node) (before.first + length before.made.items)) in
    let joins = joins_among (is_join old) (node_succs node) in
    let sum : c.reroute.new.self.first + length made ≡ before.first + length before.made.items + length joins = omega (arith, c.in_ok-rerouted.ensures.first, ap length skips, length-append before.made.items (map Skip joins), length-map joins Skip) in
    record {
      long = ap length c.in_ok-rerouted.ensures.entries ∙ inv.long;
      entries = λ s. ap (λ l. slice_index l s) c.in_ok-rerouted.ensures.entries ∙ inv.entries s;
      first = c.in_ok-rerouted.ensures.first ∙ inv.first;
      nodes = one_rerouted (is_join old) (drop i old) (drop (i + 1) old) node c.in_ok-rerouted.rerouted _ _ c.loop-node.nodes.items c.push.new.self.items _ taken c.in_ok-push.ensures.items is sum inv.nodes;
      made = one_made (is_join old) (drop i old) (drop (i + 1) old) node before.made.items made _ taken skips inv.made;
    }

pub returns : goal.returns
returns c =
    let old = c.args.old.now in
    let skips = c.loop-node.skips in
    let none : drop c.loop-node.node-index old ≡ [] = drop_all c.loop-node.node-index old c.loop-node-test.false in
    all_split old c.loop-node.nodes.items skips.made.items c.append.new.self.items c.in_ok-append.ensures.items
    (ap (λ l. c.loop-node.nodes.items ++ rerouted (is_join old) (skips.first + length skips.made.items) l) (sym none) ∙ c.loop-node.invariant.nodes)
    (ap (λ l. skips.made.items ++ map Skip (joins_among (is_join old) (targets l))) (sym none) ∙ c.loop-node.invariant.made)
