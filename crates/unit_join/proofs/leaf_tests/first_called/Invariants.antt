use Rattle.std.proofs.Common.{◌≡◌, drop}
use Rattle.unit_join.specs.LeafTests.{first_called}
use Rattle.unit_join.proofs.leaf_tests.first_called.Given as goal

abbrev pub invariant-loop-inst : goal.invariant-loop-inst
invariant-loop-inst l = first_called l.insts ≡ first_called (drop l.inst-index l.insts)
