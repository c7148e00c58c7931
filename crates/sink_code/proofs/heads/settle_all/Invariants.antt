use Rattle.std.proofs.Common.{◌-◌, ◌≤◌, List, Bool, length}
use Rattle.sink_code.specs.declared.inserting.PutBefore.{PutBefore}
use Rattle.sink_code.specs.Coming.{ComeInto}
use Rattle.sink_code.specs.Heads.{AreHeadDone}
use Rattle.sink_code.specs.Over.{HaveShapeOver}
use Rattle.sink_code.proofs.heads.settle_all.Given as goal

abbrev pub invariant-loop-from : goal.invariant-loop-from
invariant-loop-from l = record {
  within : l.from ≤ length l.row;
  shape : HaveShapeOver l.over l.leaves;
  done : (into rows : List (List Bool)) (begun : List PutBefore) → ComeInto into l.block l.row → AreHeadDone l.over into l.row rows begun l.block 0 l.initial.leaves l.initial.puts.items → AreHeadDone l.over into l.row rows begun l.block l.from l.leaves l.puts.items;
}

abbrev pub decreases-loop-from : goal.decreases-loop-from
decreases-loop-from l = length l.row - l.from
