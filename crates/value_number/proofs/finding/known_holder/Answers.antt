use Rattle.std.proofs.Common.{◌≡◌, false, subst}
use Rattle.mir_base.specs.Expressions.{divides}
use Rattle.value_number.proofs.Holders.{unary_holds, binary_holds}
use Rattle.value_number.proofs.finding.known_holder.Goals as goal

pub returns-in-Unary-clause-holder : goal.returns-in-Unary-clause-holder
returns-in-Unary-clause-holder c =
    let e = c.first_with.ensures in
    rw c.in-Unary.is (unary_holds c.args.numbers.now c.args.number c.first_with.result c.in-Unary.field-0 c.in-Unary.field-1 (record { within = e.within; has = e.has; first = e.first; none = e.none }))

pub returns-in-Binary-clause-holder : goal.returns-in-Binary-clause-holder
returns-in-Binary-clause-holder c =
    let e = c.first_with-in-Binary.ensures in
    rw c.in-Binary.is
    (binary_holds c.args.numbers.now c.args.number c.first_with-in-Binary.result c.in-Binary.field-0 c.in-Binary.field-1 c.in-Binary.field-2 (subst (λ r. divides r ≡ false) c.in-Binary.is c.requires)
    (record { within = e.within; has = e.has; first = e.first; none = e.none }))
