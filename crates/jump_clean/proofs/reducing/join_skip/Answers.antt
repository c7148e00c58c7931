use Rattle.std.proofs.Common.{◌∙◌, ap, sym, subst, refl, arith, length, Some}
use Rattle.std.proofs.lemmas.Option.{slice_get_read}
use Rattle.flow_graph.specs.Edges.{preds_among}
use Rattle.jump_clean.specs.ReductionLaws.{skips_within, all_long}
use Rattle.jump_clean.specs.Joining.{IsJoining}
use Rattle.jump_clean.proofs.Moves.{members_below}
use Rattle.jump_clean.proofs.Preds.{in_preds, pred_within}
use Rattle.jump_clean.proofs.Joins.{skip_succ_is, no_skip, last_joined, no_skip_last}
use Rattle.jump_clean.proofs.reducing.join_skip.Goals as goal
use Rattle.flow_graph.specs.Numbering.{IsIn}

pub join-requires-clause-b : goal.join-requires-clause-b
join-requires-clause-b c =
    let nodes = c.args.nodes.now in
    let here = slice_get_read nodes (length nodes) c.args.n c.index-nodes-n.result refl c.requires.n c.index-nodes-n.is in
    let skip = here ∙ ap Some (skip_succ_is c.index-nodes-n.result c.in-Some.next (sym c.skip_succ.ensures ∙ c.in-Some.is)) in
    omega (arith, skips_within nodes c.requires.within c.args.n c.in-Some.next skip, c.requires.long)

pub returns-in_ok-all_preds-in-Some-clause-joining : goal.returns-in_ok-all_preds-in-Some-clause-joining
returns-in_ok-all_preds-in-Some-clause-joining c = λ raw worklist e j.
    let nodes = c.args.nodes.now in
    let here = slice_get_read nodes (length nodes) c.args.n c.index-nodes-n.result refl c.requires.n c.index-nodes-n.is in
    let skip = here ∙ ap Some (skip_succ_is c.index-nodes-n.result c.in-Some.next (sym c.skip_succ.ensures ∙ c.in-Some.is)) in
    let edges = ap (λ s. s.edges) e in
    let checks = c.all_preds.new.preds.items in
    let long = all_long raw j.order nodes j.reductions in
    last_joined raw nodes c.args.classes.now.of.items worklist c.args.n j c.in-Some.next c.join.new.self.of.items c.in_ok-moved-in-Some.moved.items checks skip c.in_ok-moved-in-Some.ensures.joined
    (λ m s slot moved edge. c.in_ok-all_preds-in-Some.ensures.all s m (subst (IsIn s) (sym c.as_slice.ensures) moved) (subst (λ l. IsIn m (preds_among s l)) (sym edges) (in_preds raw m s slot edge)))
    (members_below (length nodes) checks (λ m h. let r = c.in_ok-all_preds-in-Some.ensures.only m h in omega (arith, pred_within raw r.0 m (subst (λ l. IsIn m (preds_among r.0 l)) edges r.2), long)))

pub returns-in-None-clause-joining : goal.returns-in-None-clause-joining
returns-in-None-clause-joining c = λ raw worklist e j.
    let nodes = c.args.nodes.now in
    let here = slice_get_read nodes (length nodes) c.args.n c.index-nodes-n.result refl c.requires.n c.index-nodes-n.is in
    subst (IsJoining raw nodes c.args.classes.now.of.items worklist) (sym c.clear.ensures.items) (no_skip_last raw nodes c.args.classes.now.of.items worklist c.args.n j (no_skip nodes c.args.n c.index-nodes-n.result here (sym c.skip_succ.ensures ∙ c.in-None.is)))
