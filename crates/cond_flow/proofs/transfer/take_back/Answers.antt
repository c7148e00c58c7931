use Rattle.std.proofs.Common.{◌∙◌, arith}
use Rattle.cond_flow.specs.Outsides.{rules_in}
use Rattle.cond_flow.specs.Passing.{back_at}
use Rattle.cond_flow.specs.Rules.{known_at}
use Rattle.cond_flow.proofs.TransferLaws.{set_on}
use Rattle.cond_flow.proofs.transfer.take_back.Goals as goal

pub loop-x-preserved : goal.loop-x-preserved
loop-x-preserved g c =
    set_on (known_at g.K.Knowledge.rules (back_at (rules_in c.args.outside.now g.K.Knowledge.rules) c.args.unit)) c.loop-x.x c.loop-x.x c.args.shared c.loop-x.known c.set.new.self c.handed_back.result (omega (arith, c.loop-x-test.true)) c.handed_back.ensures c.set.ensures
    ∙ c.loop-x.invariant
