use Rattle.std.proofs.Common.{◌≡◌, ◌++◌, map, take}
use Rattle.sink_code.specs.Written.{written_old}
use Rattle.sink_code.proofs.writing.push_old.Given as goal

abbrev pub invariant-loop-node : goal.invariant-loop-node
invariant-loop-node l = l.written.items ≡ l.initial.written.items ++ map (written_old l.to) (take l.node-index l.nodes)
