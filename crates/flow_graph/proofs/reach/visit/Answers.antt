use Rattle.std.proofs.Common.{◌≡◌, ◌++◌, ◌∙◌, ap, sym, subst, refl, arith, length}
use Rattle.std.specs.Option.{option_to_list}
use Rattle.std.proofs.lemmas.Option.{slice_get_read}
use Rattle.flow_graph.specs.Graphs.{IsBelow}
use Rattle.flow_graph.proofs.ReachWalks.{visit_walks, first_within, lighter_by, long_after}
use Rattle.flow_graph.proofs.reach.visit.Goals as goal

pub mark-requires : goal.mark-requires
mark-requires c =
    let here = slice_get_read c.args.nodes.now (length c.args.nodes.now) c.args.node c.index-nodes-node.result refl c.requires.there c.index-nodes-node.is in
    subst (λ n. IsBelow n c.second_succ-second.result) (sym c.requires.walking.long) (subst (IsBelow (length c.args.nodes.now)) (sym c.second_succ-second.ensures) (first_within c.args.nodes.now c.requires.within c.index-nodes-node.result c.args.node 1 here))

pub mark_found-requires : goal.mark_found-requires
mark_found-requires c =
    let here = slice_get_read c.args.nodes.now (length c.args.nodes.now) c.args.node c.index-nodes-node.result refl c.requires.there c.index-nodes-node.is in
    let long : length c.mark.new.marks.items ≡ length c.args.nodes.now = ap length c.in_ok-mark.ensures.marks ∙ long_after c.args.nodes.now c.requires.within c.args.marks.now.items c.second_succ-second.result ∙ c.requires.walking.long in
    subst (λ n. IsBelow n c.first_succ-first.result) (sym long) (subst (IsBelow (length c.args.nodes.now)) (sym c.first_succ-first.ensures) (first_within c.args.nodes.now c.requires.within c.index-nodes-node.result c.args.node 0 here))

pub returns-clause-walking : goal.returns-clause-walking
returns-clause-walking c =
    let here = slice_get_read c.args.nodes.now (length c.args.nodes.now) c.args.node c.index-nodes-node.result refl c.requires.there c.index-nodes-node.is in
    visit_walks c.args.nodes.now c.requires.within c.args.marks.now.items c.mark.new.marks.items c.mark_found.new.marks.items c.args.stack.now.items c.mark.new.stack.items (c.mark.new.stack.items ++ option_to_list c.mark_found.result) c.args.node c.index-nodes-node.result c.second_succ-second.result c.first_succ-first.result here c.requires.marked c.requires.walking c.second_succ-second.ensures c.first_succ-first.ensures c.in_ok-mark.ensures.marks c.in_ok-mark.ensures.stack c.mark_found.ensures.marks (c.mark_found.ensures.found c.mark.new.stack.items)

pub returns-clause-lighter : goal.returns-clause-lighter
returns-clause-lighter c =
    let here = slice_get_read c.args.nodes.now (length c.args.nodes.now) c.args.node c.index-nodes-node.result refl c.requires.there c.index-nodes-node.is in
    let nodes = c.args.nodes.now in
    let long : length c.mark.new.marks.items ≡ length nodes = ap length c.in_ok-mark.ensures.marks ∙ long_after nodes c.requires.within c.args.marks.now.items c.second_succ-second.result ∙ c.requires.walking.long in
    let w = subst (λ n. IsBelow n c.second_succ-second.result) (sym c.requires.walking.long) (subst (IsBelow (length nodes)) (sym c.second_succ-second.ensures) (first_within nodes c.requires.within c.index-nodes-node.result c.args.node 1 here)) in
    let w' = subst (λ n. IsBelow n c.first_succ-first.result) (sym long) (subst (IsBelow (length nodes)) (sym c.first_succ-first.ensures) (first_within nodes c.requires.within c.index-nodes-node.result c.args.node 0 here)) in
    let a = lighter_by nodes c.requires.within c.args.marks.now.items c.mark.new.marks.items c.args.stack.now.items c.mark.new.stack.items c.second_succ-second.result w c.in_ok-mark.ensures.marks c.in_ok-mark.ensures.stack in
    let b = lighter_by nodes c.requires.within c.mark.new.marks.items c.mark_found.new.marks.items c.mark.new.stack.items (c.mark.new.stack.items ++ option_to_list c.mark_found.result) c.first_succ-first.result w' c.mark_found.ensures.marks (c.mark_found.ensures.found c.mark.new.stack.items) in
    omega (arith, a, b)
