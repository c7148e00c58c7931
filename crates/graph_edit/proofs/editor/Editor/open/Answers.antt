use Rattle.std.proofs.Common.{◌≡◌, ℕ, ◌+◌, ◌≤◌, ◌++◌, List, length, take, slice_get, nat_lt, ap, sym, ◌∙◌, subst, arith, length-append}
use Rattle.mir_base.specs.Shapes.{AllDiffer}
use Rattle.graph_edit.proofs.Edits.{edited_open, held_open}
use Rattle.graph_edit.specs.Edited.{HoldsEdits, edited_from}
use Rattle.flow_graph.specs.Graphs.{IsGraph, SharesVars}
use Rattle.mir_base.specs.BelowLaws.{all_below_more}
use Rattle.flow_graph.specs.declared.nodes.Node.{Node}
use Rattle.graph_edit.proofs.editor.Editor.open.Goals as goal
use Rattle.graph_edit.proofs.editor.Editor.open.Goals.{In_ok-links}

-- a graph with more variables is a graph
more_vars : (vars extra : List (List ℕ)) (received : List ℕ) (nodes : List Node) → IsGraph vars received nodes → AllDiffer (vars ++ extra) → IsGraph (vars ++ extra) received nodes
more_vars vars extra received nodes g differ =
    let can = g.can in
    let more : length vars ≤ length (vars ++ extra) = omega (arith, length-append vars extra) in
    record {
      can = record {
        start = can.start;
        only = can.only;
        succs = can.succs;
        below = λ n node at. all_below_more (length vars) (length (vars ++ extra)) _ more (can.below n node at);
        received_below = all_below_more (length vars) (length (vars ++ extra)) received more can.received_below;
        received_differ = can.received_differ;
        names = differ;
      };
      reached = g.reached;
    }

-- the globals stay the first variables where there are more
shares_more : (shared shared' : ℕ) (vars extra vars' : List (List ℕ)) (received received' : List ℕ) → vars' ≡ vars ++ extra → received' ≡ received → shared' ≡ shared → SharesVars shared' vars received → SharesVars shared' vars' received'
shares_more shared shared' vars extra vars' received received' e e' e'' shares =
    record { count = omega (arith, shares.count, ap length e, length-append vars extra); own = λ i x at. shares.own i x (ap (λ l. slice_get l i) (sym e') ∙ at) }

vars_are : (c : In_ok-links) → c.in_ok-vars.vars ≡ c.args.graph.now.vars ++ c.args.extra.items
vars_are c = c.in_ok-vars.ensures ∙ ap (λ l. l ++ c.args.extra.items) c.shared_names.ensures

received_are : (c : In_ok-links) → c.in_ok-received.received.items ≡ c.args.graph.now.received
received_are c = c.in_ok-received.ensures.items ∙ c.received.ensures

links_are : (c : In_ok-links) → HoldsEdits (c.args.graph.now.vars ++ c.args.extra.items) c.args.graph.now.received c.in_ok-nodes.nodes.items (length c.args.graph.now.nodes) (length c.args.graph.now.nodes) c.in_ok-links.links
links_are c =
    let nodes = c.args.graph.now.nodes in
    let is = c.nodes.ensures.value in
    let all = c.in_ok-nodes.nodes.items in
    let long : length all ≡ length nodes + c.args.room = omega (arith, c.in_ok-nodes.ensures.long, ap length is) in
    let total : c.in-Some.total ≡ length nodes + c.args.room = c.in-Some.ensures.1 ∙ ap (λ k. k + c.args.room) c.len.ensures in
    held_open (c.args.graph.now.vars ++ c.args.extra.items) c.args.graph.now.received nodes all c.in_ok-links.links
    (ap (λ (l : List Node). take (length l) all) (sym is) ∙ c.in_ok-nodes.ensures.all ∙ is)
    (omega (arith, long))
    (c.in_ok-links.ensures.nodes ∙ total ∙ sym long)
    (c.in_ok-links.ensures.count ∙ c.len-2.ensures)
    (λ s lt. c.in_ok-links.ensures.each s (omega (arith, lt, c.len-2.ensures)))
    (λ n. c.in_ok-links.ensures.listed n ∙ ap (nat_lt n) c.len-2.ensures)
    (more_vars c.args.graph.now.vars c.args.extra.items c.args.graph.now.received nodes (subst (IsGraph c.args.graph.now.vars c.args.graph.now.received) is c.nodes.ensures.graph) c.requires)

pub invariant_of-result : goal.invariant_of-result
invariant_of-result c =
    let known = (goal.at.invariant_of-result c).In_ok-links in
    let vars = vars_are known in
    let received = c.of.ensures ∙ received_are known in (
      subst (λ v. HoldsEdits v c.of.result c.in_ok-nodes.nodes.items c.len-3.result c.len-4.result c.in_ok-links.links) (sym vars)
          (subst (λ r. HoldsEdits (c.args.graph.now.vars ++ c.args.extra.items) r c.in_ok-nodes.nodes.items c.len-3.result c.len-4.result c.in_ok-links.links) (sym received)
          (subst (λ k. HoldsEdits (c.args.graph.now.vars ++ c.args.extra.items) c.args.graph.now.received c.in_ok-nodes.nodes.items k c.len-4.result c.in_ok-links.links) (sym c.len-3.ensures)
          (subst (λ k. HoldsEdits (c.args.graph.now.vars ++ c.args.extra.items) c.args.graph.now.received c.in_ok-nodes.nodes.items (length c.args.graph.now.nodes) k c.in_ok-links.links) (sym c.len-4.ensures) (links_are known)))),
      shares_more c.args.graph.now.shared c.shared.result c.args.graph.now.vars c.args.extra.items c.in_ok-vars.vars c.args.graph.now.received c.of.result vars received c.shared.ensures.value c.shared.ensures.shares,
    )

pub returns-clause-graph : goal.returns-clause-graph
returns-clause-graph c =
    let known = (goal.at.returns-clause-graph c).In_ok-links in
    let vars = vars_are known in
    let received = c.of.ensures ∙ received_are known in
    let is = c.nodes.ensures.value in
    let all = c.in_ok-nodes.nodes.items in
    let g : IsGraph c.args.graph.now.vars c.args.graph.now.received c.args.graph.now.nodes = subst (IsGraph c.args.graph.now.vars c.args.graph.now.received) is c.nodes.ensures.graph in
    let taken : take (length c.args.graph.now.nodes) all ≡ c.args.graph.now.nodes = ap (λ (l : List Node). take (length l) all) (sym is) ∙ c.in_ok-nodes.ensures.all ∙ is in
    let nodes = ap (λ k. edited_from c.in_ok-links.links.lists 0 (take k all)) c.len-4.ensures
    ∙ ap (edited_from c.in_ok-links.links.lists 0) taken
    ∙ edited_open c.args.graph.now.nodes c.in_ok-links.links.lists (λ m slot s edge. (g.can.succs m slot s edge).1) (c.in_ok-links.ensures.count ∙ c.len-2.ensures) (λ s lt. c.in_ok-links.ensures.each s (omega (arith, lt, c.len-2.ensures))) in
    let name : c.in_ok-name.name ≡ c.args.graph.now.name = c.in_ok-name.ensures.cases ∙ c.name.ensures in
    ap (λ n. (record { name = n; shared = c.shared.result; vars = c.in_ok-vars.vars; received = c.of.result; nodes = edited_from c.in_ok-links.links.lists 0 (take c.len-4.result all) })) name
    ∙ ap (λ n. (record { name = c.args.graph.now.name; shared = n; vars = c.in_ok-vars.vars; received = c.of.result; nodes = edited_from c.in_ok-links.links.lists 0 (take c.len-4.result all) })) c.shared.ensures.value
    ∙ ap (λ v. (record { name = c.args.graph.now.name; shared = c.args.graph.now.shared; vars = v; received = c.of.result; nodes = edited_from c.in_ok-links.links.lists 0 (take c.len-4.result all) })) vars
    ∙ ap (λ r. (record { name = c.args.graph.now.name; shared = c.args.graph.now.shared; vars = c.args.graph.now.vars ++ c.args.extra.items; received = r; nodes = edited_from c.in_ok-links.links.lists 0 (take c.len-4.result all) })) received
    ∙ ap (λ l. (record { name = c.args.graph.now.name; shared = c.args.graph.now.shared; vars = c.args.graph.now.vars ++ c.args.extra.items; received = c.args.graph.now.received; nodes = l })) nodes
