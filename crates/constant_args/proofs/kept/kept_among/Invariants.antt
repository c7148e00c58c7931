use Rattle.std.proofs.Common.{◌≡◌, ◌++◌, drop, map}
use Rattle.constant_args.specs.Gathered.{kept_var}
use Rattle.constant_args.proofs.kept.kept_among.Given as goal

abbrev pub invariant-loop-x : goal.invariant-loop-x
invariant-loop-x l = l.kept.items ++ map (kept_var l.assigned) (drop l.x-index l.received) ≡ map (kept_var l.assigned) l.received
