use Rattle.std.proofs.Common.{◌≡◌, map, take}
use Rattle.program_wanted.specs.Hastening.{kept_at}
use Rattle.program_wanted.proofs.hastening.kept_arguments.Given as goal

abbrev pub invariant-loop-x : goal.invariant-loop-x
invariant-loop-x l = l.widths ≡ map (kept_at l.asks) (take l.x-index l.received)
