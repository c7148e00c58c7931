use Rattle.std.proofs.Common.{◌≡◌, ◌++◌, take}
use Rattle.flow_graph.proofs.sharing.all_names.Given as goal

abbrev pub invariant-loop-name : goal.invariant-loop-name
invariant-loop-name l = l.all.items ≡ take l.name-index l.names

abbrev pub invariant-loop-name-2 : goal.invariant-loop-name-2
invariant-loop-name-2 l = l.all.items ++ l.name-iterator.rest.items ≡ l.names ++ l.fn.extra.items
