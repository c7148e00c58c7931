use Rattle.std.proofs.Common.{◌≡◌, map}
use Rattle.mir_base.specs.Frames.{shared_vars}
use Rattle.program_wanted.specs.Hastening.{kept_at}
use Rattle.program_wanted.proofs.hastening.kept_globals.Given as goal

abbrev pub invariant-loop-x : goal.invariant-loop-x
invariant-loop-x l = l.widths ≡ map (kept_at l.asks) (shared_vars l.x)
