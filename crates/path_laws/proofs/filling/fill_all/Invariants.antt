use Rattle.path_laws.specs.Problem.{GrowTo, HaveBlocks, HaveFirsts}
use Rattle.path_laws.proofs.filling.fill_all.Given as goal

abbrev pub invariant-loop-block : goal.invariant-loop-block
invariant-loop-block l = record {
  rows : GrowTo l.problem l.rows;
  firsts : HaveFirsts l.problem l.rows;
  blocks : HaveBlocks l.problem l.block l.rows;
}
