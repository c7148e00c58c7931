use Rattle.std.proofs.Common.{Some, refl}
use Rattle.value_number.specs.declared.candidates.Candidates.{Candidates}
use Rattle.value_number.proofs.Covers.{only_candidate, put_order, put_stay, put_there, same_order}
use Rattle.value_number.proofs.candidates.Candidates.add.Goals as goal

pub returns-in_err-push-in-Some-clause-order : goal.returns-in_err-push-in-Some-clause-order
returns-in_err-push-in-Some-clause-order c = same_order c.args.self.now (record { first = c.args.self.now.first; others = c.push.new.self }) refl c.in_err-push-in-Some.ensures.unchanged.0

pub returns-in-None-clause-order : goal.returns-in-None-clause-order
returns-in-None-clause-order c = λ order. only_candidate c.args.self.now (record { first = Some c.args.v; others = c.args.self.now.others }) c.args.v order c.in-None.is refl refl

pub returns-in_ok-push-in-Some-clause-order : goal.returns-in_ok-push-in-Some-clause-order
returns-in_ok-push-in-Some-clause-order c = λ order.
    let new : Candidates = record { first = Some c.in_order-lesser.result.0; others = c.push.new.self } in
    put_order c.args.self.now new c.in-Some.first c.args.v c.in_order-lesser.result.0 c.in_order-lesser.result.1 _ refl c.in-Some.is refl c.in_order-lesser.ensures.order c.in_order-lesser.ensures.are c.in_ok-push-in-Some.ensures.permutation order c.in_ok-push-in-Some.ensures.heap_order

pub returns-in_ok-push-in-Some-clause-stay : goal.returns-in_ok-push-in-Some-clause-stay
returns-in_ok-push-in-Some-clause-stay c =
    let new : Candidates = record { first = Some c.in_order-lesser.result.0; others = c.push.new.self } in
    put_stay c.args.self.now new c.in-Some.first c.args.v c.in_order-lesser.result.0 c.in_order-lesser.result.1 _ refl c.in-Some.is refl c.in_order-lesser.ensures.order c.in_order-lesser.ensures.are c.in_ok-push-in-Some.ensures.permutation

pub returns-in_ok-push-in-Some-clause-there : goal.returns-in_ok-push-in-Some-clause-there
returns-in_ok-push-in-Some-clause-there c =
    let new : Candidates = record { first = Some c.in_order-lesser.result.0; others = c.push.new.self } in
    put_there c.args.self.now new c.in-Some.first c.args.v c.in_order-lesser.result.0 c.in_order-lesser.result.1 _ refl c.in-Some.is refl c.in_order-lesser.ensures.order c.in_order-lesser.ensures.are c.in_ok-push-in-Some.ensures.permutation
