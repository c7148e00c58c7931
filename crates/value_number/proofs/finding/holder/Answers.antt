use Rattle.std.proofs.Common.{◌≤◌, arith}
use Rattle.value_number.proofs.Holders.{new_unheld}
use Rattle.value_number.proofs.Stands.{represent_on}
use Rattle.value_number.proofs.finding.holder.Goals as goal

pub returns-then-number-known-clause-holder : goal.returns-then-number-known-clause-holder
returns-then-number-known-clause-holder c = λ old new root terms long stay differ represent stands. c.known_holder.ensures.holder new root terms differ (represent_on old new c.args.numbers.now root terms stay represent) stands

pub returns-else-number-known-clause-holder : goal.returns-else-number-known-clause-holder
returns-else-number-known-clause-holder c = λ old new root terms long stay differ represent stands.
    let late : c.args.known ≤ c.args.number = c.if-number-known.false in
    new_unheld old new stay differ c.args.numbers.now root terms represent c.args.number (omega (arith, long, late)) c.args.rhs c.requires stands
