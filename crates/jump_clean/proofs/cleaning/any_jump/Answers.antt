use Rattle.std.proofs.Common.{◌∙◌, sym, refl, length}
use Rattle.std.proofs.lemmas.Option.{slice_get_read}
use Rattle.jump_clean.proofs.NoJumps.{no_jump_further}
use Rattle.jump_clean.proofs.cleaning.any_jump.Goals as goal

pub loop-n-preserved : goal.loop-n-preserved
loop-n-preserved c =
    let nodes = c.args.nodes.now in
    let n = c.loop-n.n in
    let here = slice_get_read nodes (length nodes) n c.index-nodes-n.result refl c.loop-n-test.true c.index-nodes-n.is in
    no_jump_further nodes n c.index-nodes-n.result here (sym c.is_jump.ensures ∙ c.if-is_jump.false) c.loop-n.invariant
