use Rattle.std.proofs.Common.{◌∙◌, arith}
use Rattle.cond_flow.specs.Outsides.{outside_of}
use Rattle.cond_flow.specs.Rules.{known_at}
use Rattle.cond_flow.proofs.TransferLaws.{set_on}
use Rattle.cond_flow.proofs.transfer.enter_globals.Goals as goal

pub loop-x-preserved : goal.loop-x-preserved
loop-x-preserved g c =
    set_on (known_at g.K.Knowledge.rules (outside_of c.args.outside.now).entry) c.loop-x.x c.loop-x.x c.args.shared c.loop-x.known c.set.new.self c.global.result (omega (arith, c.loop-x-test.true)) c.global.ensures c.set.ensures
    ∙ c.loop-x.invariant
