use Rattle.std.proofs.Common.{subst, sym}
use Rattle.value_number.specs.OneValue.{NumbersHold}
use Rattle.value_number.proofs.TrueNumbers.{numbers_hold, one_to_one, only_root}
use Rattle.value_number.proofs.before.NodeTerms.before.Goals as goal

pub returns-clause-root : goal.returns-clause-root
returns-clause-root c = only_root c.args.graph.now c.args.n c.in_ok-root.root c.walk_to.new.self.table c.walk_to.new.self.numbers c.in_ok-root.ensures

pub returns-clause-numbers : goal.returns-clause-numbers
returns-clause-numbers c = one_to_one c.walk_to.new.self.table c.len-distinct.ensures.differ

pub returns-clause-holds : goal.returns-clause-holds
returns-clause-holds c =
    let graph = c.args.graph.now in
    let walk = c.walk_to.new.self in
    subst (NumbersHold graph c.args.n) (sym c.into_numbers.ensures) (numbers_hold graph c.args.n c.in_ok-root.root walk.table walk.numbers c.in_ok-root.ensures)
