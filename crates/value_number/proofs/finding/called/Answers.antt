use Rattle.value_number.proofs.Holders.{finds_call}
use Rattle.value_number.proofs.finding.called.Goals as goal

pub returns-in_ok-number-in-Some : goal.returns-in_ok-number-in-Some
returns-in_ok-number-in-Some c =
    rw c.in-Some.is
    (λ numbers root unit next operands below. finds_call c.args.table.now c.term_number.new.table numbers root c.args.n c.in-Some.x unit next c.in_ok-number-in-Some.number operands c.changes.result c.in_ok-number-in-Some.ensures.stay c.in_ok-number-in-Some.ensures.with_key below.0 c.in_ok-number-in-Some.ensures.here
    c.changes.ensures.holder c.changes.ensures.change)
