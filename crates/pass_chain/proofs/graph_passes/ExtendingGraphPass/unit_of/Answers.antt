use Rattle.std.proofs.Common.{sym}
use Rattle.pass_chain.proofs.graph_passes.ExtendingGraphPass.unit_of.Goals as goal

pub returns : goal.returns
returns c = record {
  passed = c.in_ok-extended.extended;
  result = record { is = c.in_ok-extended.ensures.extended; only = λ other is. sym (c.in_ok-extended.ensures.only other is) };
  keeps = c.in_ok-extended.ensures.keeps;
  laid = c.in_ok-unit.ensures;
}
