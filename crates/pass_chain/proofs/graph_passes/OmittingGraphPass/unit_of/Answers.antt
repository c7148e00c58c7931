use Rattle.std.proofs.Common.{sym}
use Rattle.pass_chain.proofs.graph_passes.OmittingGraphPass.unit_of.Goals as goal

pub returns : goal.returns
returns c = record {
  passed = c.in_ok-lessened.lessened;
  result = record { is = c.in_ok-lessened.ensures.unread; only = λ other is. sym (c.in_ok-lessened.ensures.only other is) };
  keeps = c.in_ok-lessened.ensures.keeps;
  laid = c.in_ok-unit.ensures;
}
