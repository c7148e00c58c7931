use Rattle.std.proofs.Common.{◌≡◌, map, take}
use Rattle.program_wanted.specs.Sweeps.{entry_at}
use Rattle.program_wanted.proofs.raising.entry_arguments.Given as goal

abbrev pub invariant-loop-x : goal.invariant-loop-x
invariant-loop-x l = l.widths ≡ map (entry_at l.asks) (take l.x-index l.received)
