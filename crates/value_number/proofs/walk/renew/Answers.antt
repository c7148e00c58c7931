use Rattle.std.proofs.Common.{arith}
use Rattle.value_number.proofs.Undoing.{renews_more, renews_none}
use Rattle.value_number.proofs.walk.renew.Goals as goal

pub loop-x-init : goal.loop-x-init
loop-x-init c = renews_none c.args.n c.args.table.now c.args.numbers.now c.args.steps.now.items

pub renew_one-requires : goal.renew_one-requires
renew_one-requires c = omega (arith, c.loop-x-test.true, c.requires, c.loop-x.invariant.undoes.long)

pub loop-x-preserved : goal.loop-x-preserved
loop-x-preserved c =
    renews_more c.args.n c.loop-x.x c.args.table.now c.loop-x.table c.renew_one.new.table c.args.numbers.now c.loop-x.numbers c.renew_one.new.numbers c.args.steps.now.items c.loop-x.steps.items c.renew_one.new.steps.items c.loop-x.invariant c.in_ok-renew_one.ensures
