use Rattle.std.proofs.Common.{◌≡◌, ◌+◌, ◌≤◌, drop}
use Rattle.mir_base.specs.Shapes.{receives_in}
use Rattle.mir_base.proofs.programs.receives.Given as goal

abbrev pub invariant-loop-inst : goal.invariant-loop-inst
invariant-loop-inst l = record {
  so_far : receives_in l.body ≡ l.count + receives_in (drop l.inst-index l.body);
  few : l.count ≤ l.inst-index;
}
