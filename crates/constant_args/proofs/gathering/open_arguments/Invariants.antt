use Rattle.std.proofs.Common.{◌≡◌, ◌++◌, replicate}
use Rattle.constant_args.specs.declared.states.ArgumentState.TheVariants.{Open}
use Rattle.constant_args.proofs.gathering.open_arguments.Given as goal

abbrev pub invariant-loop-opened : goal.invariant-loop-opened
invariant-loop-opened l = l.arguments.items ≡ l.initial.arguments.items ++ replicate l.opened Open
