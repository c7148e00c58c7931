use Rattle.std.proofs.Common.{◌≡◌, ◌++◌, drop, flat_map}
use Rattle.constant_args.specs.ConstantArguments.{assigned_var}
use Rattle.constant_args.proofs.kept.assigned_vars.Given as goal

abbrev pub invariant-loop-node : goal.invariant-loop-node
invariant-loop-node l = l.vars.items ++ flat_map assigned_var (drop l.node-index l.graph.nodes) ≡ flat_map assigned_var l.graph.nodes
