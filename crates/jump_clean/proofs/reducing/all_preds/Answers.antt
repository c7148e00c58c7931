use Rattle.std.proofs.Common.{◌∙◌, ◌++◌, ap, inl, inr}
use Rattle.jump_clean.proofs.Follow.{rest_below, nothing_left}
use Rattle.jump_clean.proofs.Preds.{more_preds, only_preds}
use Rattle.jump_clean.proofs.reducing.all_preds.Goals as goal

pub loop-n-preserved : goal.loop-n-preserved
loop-n-preserved c =
    let inv = c.loop-n.invariant in
    let nodes = c.args.nodes.now in
    let pushed = c.in_ok-extend_from_slice.ensures.items ∙ ap (λ l. c.loop-n.preds.items ++ l) c.preds.ensures in
    record {
      all = more_preds nodes c.args.edges.now.edges c.loop-n.n-index c.loop-n.preds.items c.extend_from_slice.new.self.items c.loop-n-test.true pushed inv.all;
      only = only_preds nodes c.args.edges.now.edges c.loop-n.n-index c.loop-n.preds.items c.extend_from_slice.new.self.items c.loop-n-test.true pushed inv.only;
      below = (rest_below c.args.edges.now.nodes nodes c.loop-n.n-index c.loop-n-test.true inv.below).1;
    }

pub returns-clause-all : goal.returns-clause-all
returns-clause-all c = λ n m h h'. elim (c.loop-n.invariant.all n m h h') [ inl p ↦ p | inr p ↦ absurd (nothing_left c.args.nodes.now c.loop-n.n-index n c.loop-n-test.false p) ]
