use Rattle.std.proofs.Common.{List, ℕ, subst}
use Rattle.mir_base.specs.Names.{IsName}
use Rattle.mir_print.proofs.Prefixes.{prefix_more, prefix_whole}
use Rattle.mir_print.proofs.well_typed.hand_out_names.Goals as goal

pub loop-name-preserved : goal.loop-name-preserved
loop-name-preserved c =
    prefix_more IsName c.args.names.now c.loop-name.name-index c.name-item.result c.loop-name-test.true c.loop-name.invariant c.name-item.is
    (subst (λ (bytes : List ℕ). IsName bytes) c.bytes.ensures.value c.bytes.ensures.spelled)

pub returns : goal.returns
returns c = prefix_whole IsName c.args.names.now c.loop-name.name-index c.loop-name-test.false c.loop-name.invariant
