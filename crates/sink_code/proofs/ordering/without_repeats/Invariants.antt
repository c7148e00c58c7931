use Rattle.sink_code.proofs.OnceSorted.{AreOnceTo}
use Rattle.sink_code.proofs.ordering.without_repeats.Given as goal

abbrev pub invariant-loop-put : goal.invariant-loop-put
invariant-loop-put l = AreOnceTo l.puts l.put-index l.once.items
