use Rattle.std.proofs.Common.{refl}
use Rattle.value_number.proofs.Undoing.{renews_one}
use Rattle.value_number.proofs.walk.renew_one.Goals as goal

pub change-requires : goal.change-requires
change-requires c = c.requires

pub returns : goal.returns
returns c =
    renews_one c.args.n c.args.x c.in_ok-number.number c.args.table.now c.term_number.new.table c.args.numbers.now c.change.new.numbers c.args.steps.now.items c.change.new.steps.items _ refl c.requires c.in_ok-number.ensures.stay c.in_ok-number.ensures.with_key c.in_ok-number.ensures.here
    c.in_ok-change.ensures.numbers c.in_ok-change.ensures.steps
