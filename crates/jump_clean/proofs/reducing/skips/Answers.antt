use Rattle.std.proofs.Common.{refl, arith, length}
use Rattle.std.proofs.lemmas.Option.{slice_get_read, slice_get_within}
use Rattle.jump_clean.specs.Following.{skip_succ}
use Rattle.jump_clean.proofs.Joins.{skip_pushed, skip_below}
use Rattle.jump_clean.proofs.reducing.skips.Goals as goal

pub loop-n-preserved : goal.loop-n-preserved
loop-n-preserved c =
    let inv = c.loop-n.invariant in
    let nodes = c.args.nodes.now in
    let n = c.loop-n.n in
    let here = slice_get_read nodes (length nodes) n c.index-nodes-n.result refl c.loop-n-test.true c.index-nodes-n.is in
    record {
      all = skip_pushed nodes c.loop-n.skips.items c.push_skip.new.skips.items n c.index-nodes-n.result here c.in_ok-push_skip.ensures inv.all;
      below = skip_below nodes c.loop-n.skips.items c.push_skip.new.skips.items n (skip_succ c.index-nodes-n.result) c.loop-n-test.true c.in_ok-push_skip.ensures inv.below;
    }

pub returns-clause-all : goal.returns-clause-all
returns-clause-all c = λ n next e. c.loop-n.invariant.all n next (omega (arith, c.loop-n-test.false, slice_get_within c.args.nodes.now n _ e)) e
