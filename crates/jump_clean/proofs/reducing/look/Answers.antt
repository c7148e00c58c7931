use Rattle.std.proofs.Common.{◌≡◌, ◌∙◌, ap, sym, subst, refl, length, slice_get, Some}
use Rattle.std.proofs.lemmas.Option.{slice_get_read}
use Rattle.flow_graph.specs.BoundLaws.{succs_below}
use Rattle.flow_graph.specs.Graphs.{SuccsBelow}
use Rattle.jump_clean.specs.Joining.{nodes_after, useless_in, worklist_after}
use Rattle.jump_clean.proofs.reducing.look.Goals as goal
use Rattle.jump_clean.proofs.reducing.look.Goals.{After-index, After-useless_test}

here : (c : After-index) → slice_get c.args.nodes.now.items c.args.n ≡ Some c.index.result.now
here c = slice_get_read c.args.nodes.now.items (length c.args.nodes.now.items) c.args.n c.index.result.now refl c.requires.n c.index.ensures

useless : (c : After-useless_test) → useless_in c.args.classes.now (slice_get c.args.nodes.now.items c.args.n) ≡ c.useless_test.result
useless c = ap (useless_in c.args.classes.now) (here (goal.at.After-useless_test c).After-index) ∙ sym c.useless_test.ensures

pub useless_test-requires : goal.useless_test-requires
useless_test-requires c =
    subst (λ k. SuccsBelow k c.index.result.now) (sym c.requires.long)
    (succs_below c.args.nodes.now.items c.args.n c.index.result.now c.requires.within (here (goal.at.useless_test-requires c).After-index))

pub returns-in_ok-push-clause-nodes : goal.returns-in_ok-push-clause-nodes
returns-in_ok-push-clause-nodes c =
    c.set_skip.ensures ∙ ap (λ u. nodes_after u c.args.nodes.now.items c.args.n) (sym (useless (goal.at.returns-in_ok-push-clause-nodes c).After-useless_test ∙ c.in-Some.is))

pub returns-in_ok-push-clause-worklist : goal.returns-in_ok-push-clause-worklist
returns-in_ok-push-clause-worklist c =
    c.in_ok-push.ensures.items ∙ ap (λ u. worklist_after u c.args.worklist.now.items c.args.n) (sym (useless (goal.at.returns-in_ok-push-clause-worklist c).After-useless_test ∙ c.in-Some.is))

pub returns-in_default-clause-nodes : goal.returns-in_default-clause-nodes
returns-in_default-clause-nodes c = ap (λ u. nodes_after u c.args.nodes.now.items c.args.n) (sym (useless (goal.at.returns-in_default-clause-nodes c).After-useless_test ∙ c.in_default.is))

pub returns-in_default-clause-worklist : goal.returns-in_default-clause-worklist
returns-in_default-clause-worklist c = ap (λ u. worklist_after u c.args.worklist.now.items c.args.n) (sym (useless (goal.at.returns-in_default-clause-worklist c).After-useless_test ∙ c.in_default.is))
