use Rattle.std.proofs.Common.{◌≡◌, map}
use Rattle.mir_base.specs.Frames.{shared_vars}
use Rattle.cond_flow.specs.Rules.{known_at}
use Rattle.cond_flow.proofs.handing.globals_known.Given as goal

abbrev pub invariant-loop-x : goal.invariant-loop-x
invariant-loop-x g l = l.list.items ≡ map (known_at g.K.Knowledge.rules l.known) (shared_vars l.x)
