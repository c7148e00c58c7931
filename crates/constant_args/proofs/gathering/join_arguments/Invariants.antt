use Rattle.constant_args.specs.Gathered.{JoinsArguments}
use Rattle.constant_args.proofs.gathering.join_arguments.Given as goal

abbrev pub invariant-loop-i : goal.invariant-loop-i
invariant-loop-i l = JoinsArguments l.i l.operands l.kept l.initial.arguments.items l.arguments.items
