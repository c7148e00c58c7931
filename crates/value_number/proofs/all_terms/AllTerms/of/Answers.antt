use Rattle.value_number.proofs.TrueNumbers.{numbers_hold, one_to_one, only_root}
use Rattle.value_number.proofs.all_terms.AllTerms.of.Goals as goal

pub returns-clause-terms : goal.returns-clause-terms
returns-clause-terms c =
    let graph = c.args.graph.now in
    let table = c.walk_over.new.walk.table in
    let e = c.in_ok-walk_over.ensures in
    record {
      long = e.long;
      terms = e.terms;
      roots = λ n at there. only_root graph n at.root table at.numbers.items (e.terms n at there);
      numbers = one_to_one table c.len-distinct.ensures.differ;
      entries = e.entries;
    }

pub returns-clause-holds : goal.returns-clause-holds
returns-clause-holds c = λ n at there. numbers_hold c.args.graph.now n at.root c.walk_over.new.walk.table at.numbers.items (c.in_ok-walk_over.ensures.terms n at there)
