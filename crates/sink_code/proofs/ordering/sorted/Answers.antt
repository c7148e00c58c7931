use Rattle.std.proofs.Common.{rules}
use Rattle.std.proofs.lemmas.List.Sorted.{answers_always}
use Rattle.sink_code.proofs.OnceSorted.{site, sites_sorted}
use Rattle.sink_code.proofs.ordering.sorted.Goals as goal

pub returns-clause-sorted : goal.returns-clause-sorted
returns-clause-sorted c = sites_sorted c.sort_by_key.new.self.items (c.in_ok-sort_by_key.ensures.sorted site (answers_always _ _ _ (λ f a r g h. search rules)))
