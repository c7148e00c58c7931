use Rattle.std.proofs.Common.{◌≡◌, ◌+◌, ◌++◌, drop}
use Rattle.sink_code.specs.Written.{linked}
use Rattle.sink_code.proofs.writing.push_inserted.Given as goal

abbrev pub invariant-loop-index : goal.invariant-loop-index
invariant-loop-index l = l.written.items ++ linked (l.olds + l.index) (drop l.index l.puts) ≡ l.initial.written.items ++ linked l.olds l.puts
