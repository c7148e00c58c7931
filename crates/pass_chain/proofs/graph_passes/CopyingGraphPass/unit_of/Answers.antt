use Rattle.std.proofs.Common.{sym}
use Rattle.pass_chain.proofs.graph_passes.CopyingGraphPass.unit_of.Goals as goal

pub returns : goal.returns
returns c = record {
  passed = c.in_ok-copied.copied;
  result = record { is = c.in_ok-copied.ensures.copied; only = λ other is. sym (c.in_ok-copied.ensures.only other is) };
  keeps = c.in_ok-copied.ensures.keeps;
  laid = c.in_ok-unit.ensures;
}
