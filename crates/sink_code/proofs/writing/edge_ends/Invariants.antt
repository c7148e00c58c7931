use Rattle.std.proofs.Common.{◌≡◌, ◌+◌, ◌-◌, drop, length}
use Rattle.sink_code.specs.Written.{edge_ends, numbers_below}
use Rattle.sink_code.proofs.writing.edge_ends.Given as goal

abbrev pub invariant-loop-back : goal.invariant-loop-back
invariant-loop-back l = l.to.items ≡ edge_ends (numbers_below l.olds) (l.olds + (length l.puts - l.back)) (drop (length l.puts - l.back) l.puts)
