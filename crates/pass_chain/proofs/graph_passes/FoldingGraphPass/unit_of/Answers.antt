use Rattle.std.proofs.Common.{sym}
use Rattle.pass_chain.proofs.graph_passes.FoldingGraphPass.unit_of.Goals as goal

pub returns : goal.returns
returns c = record {
  passed = c.in_ok-folded.folded;
  result = record { is = c.in_ok-folded.ensures.folded; only = λ other is. sym (c.in_ok-folded.ensures.only other is) };
  keeps = c.in_ok-folded.ensures.keeps;
  laid = c.in_ok-unit.ensures;
}
