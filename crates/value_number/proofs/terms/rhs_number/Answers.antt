use Rattle.value_number.proofs.Entries.{binary_grows, unary_grows}
use Rattle.value_number.proofs.Stands.{stay_both, unary_all, unary_stands, binary_all, binary_stands}
use Rattle.value_number.proofs.terms.rhs_number.Goals as goal

pub returns-in_ok-n-in-Unary-clause-stands : goal.returns-in_ok-n-in-Unary-clause-stands
returns-in_ok-n-in-Unary-clause-stands c =
    rw c.in-Unary.is (unary_stands c.args.table.now c.operand_number-in-Unary.new.table c.term_number.new.table c.args.numbers.now c.args.root c.in-Unary.op c.in-Unary.a c.in_ok-n-in-Unary.n c.term_number.result c.term_number.ensures.stay c.in_ok-n-in-Unary.ensures.stands c.term_number.ensures.here)

pub returns-in_ok-m-in-Binary-clause-stands : goal.returns-in_ok-m-in-Binary-clause-stands
returns-in_ok-m-in-Binary-clause-stands c =
    rw c.in-Binary.is
    (binary_stands c.args.table.now c.operand_number-in-Binary.new.table c.operand_number-in-Binary-2.new.table c.term_number-in-Binary.new.table c.args.numbers.now c.args.root c.in-Binary.op c.in-Binary.a c.in-Binary.b c.in_ok-n-in-Binary.n c.in_ok-m-in-Binary.m c.term_number-in-Binary.result
    c.in_ok-n-in-Binary.ensures.stay c.in_ok-m-in-Binary.ensures.stay c.term_number-in-Binary.ensures.stay c.in_ok-n-in-Binary.ensures.stands c.in_ok-m-in-Binary.ensures.stands c.term_number-in-Binary.ensures.here)

pub returns-in_ok-n-in-Unary-clause-all : goal.returns-in_ok-n-in-Unary-clause-all
returns-in_ok-n-in-Unary-clause-all c =
    unary_all c.args.table.now c.operand_number-in-Unary.new.table c.term_number.new.table c.args.numbers.now c.args.root c.in-Unary.op c.in-Unary.a c.in_ok-n-in-Unary.n c.term_number.result c.term_number.ensures.stay c.term_number.ensures.with_key
    c.in_ok-n-in-Unary.ensures.stands c.in_ok-n-in-Unary.ensures.all

pub returns-in_ok-m-in-Binary-clause-all : goal.returns-in_ok-m-in-Binary-clause-all
returns-in_ok-m-in-Binary-clause-all c =
    binary_all c.args.table.now c.operand_number-in-Binary.new.table c.operand_number-in-Binary-2.new.table c.term_number-in-Binary.new.table c.args.numbers.now c.args.root c.in-Binary.op c.in-Binary.a c.in-Binary.b c.in_ok-n-in-Binary.n c.in_ok-m-in-Binary.m c.term_number-in-Binary.result
    c.in_ok-n-in-Binary.ensures.stay c.in_ok-m-in-Binary.ensures.stay c.term_number-in-Binary.ensures.stay c.term_number-in-Binary.ensures.with_key c.in_ok-n-in-Binary.ensures.stands c.in_ok-m-in-Binary.ensures.stands c.in_ok-n-in-Binary.ensures.all c.in_ok-m-in-Binary.ensures.all

pub returns-in_ok-n-in-Unary-clause-grows : goal.returns-in_ok-n-in-Unary-clause-grows
returns-in_ok-n-in-Unary-clause-grows c =
    unary_grows c.args.table.now c.operand_number-in-Unary.new.table c.term_number.new.table c.args.numbers.now c.args.root c.in-Unary.op c.in-Unary.a c.in_ok-n-in-Unary.n c.term_number.result c.term_number.ensures.stay c.term_number.ensures.with_key
    c.term_number.ensures.here c.term_number.ensures.only c.in_ok-n-in-Unary.ensures.stands c.in_ok-n-in-Unary.ensures.grows

pub returns-in_ok-m-in-Binary-clause-grows : goal.returns-in_ok-m-in-Binary-clause-grows
returns-in_ok-m-in-Binary-clause-grows c =
    binary_grows c.args.table.now c.operand_number-in-Binary.new.table c.operand_number-in-Binary-2.new.table c.term_number-in-Binary.new.table c.args.numbers.now c.args.root c.in-Binary.op c.in-Binary.a c.in-Binary.b c.in_ok-n-in-Binary.n c.in_ok-m-in-Binary.m c.term_number-in-Binary.result
    c.in_ok-n-in-Binary.ensures.stay c.in_ok-m-in-Binary.ensures.stay c.term_number-in-Binary.ensures.stay c.term_number-in-Binary.ensures.with_key c.term_number-in-Binary.ensures.here c.term_number-in-Binary.ensures.only
    c.in_ok-n-in-Binary.ensures.stands c.in_ok-m-in-Binary.ensures.stands c.in_ok-n-in-Binary.ensures.grows c.in_ok-m-in-Binary.ensures.grows

pub returns-in_ok-n-in-Unary-clause-stay : goal.returns-in_ok-n-in-Unary-clause-stay
returns-in_ok-n-in-Unary-clause-stay c =
    stay_both c.args.table.now c.operand_number-in-Unary.new.table c.term_number.new.table c.term_number.result c.in_ok-n-in-Unary.ensures.stay c.term_number.ensures.stay

pub returns-in_ok-m-in-Binary-clause-stay : goal.returns-in_ok-m-in-Binary-clause-stay
returns-in_ok-m-in-Binary-clause-stay c =
    let table = c.operand_number-in-Binary-2.new.table in
    stay_both c.args.table.now table c.term_number-in-Binary.new.table c.term_number-in-Binary.result
    (λ i key at. c.in_ok-m-in-Binary.ensures.stay i key (c.in_ok-n-in-Binary.ensures.stay i key at)) c.term_number-in-Binary.ensures.stay
