use Rattle.std.proofs.Common.{◌≡◌, ◌++◌, drop, map}
use Rattle.program_pass.specs.Puts.{insertions}
use Rattle.constant_args.specs.ConstantArguments.{constant_puts}
use Rattle.constant_args.specs.Gathered.{constant_in}
use Rattle.constant_args.proofs.knowing.constant_puts.Given as goal

abbrev pub invariant-loop-i : goal.invariant-loop-i
invariant-loop-i l = insertions l.puts.items ++ constant_puts (drop l.i l.received) (drop l.i (map constant_in l.arguments)) ≡ constant_puts l.received (map constant_in l.arguments)
