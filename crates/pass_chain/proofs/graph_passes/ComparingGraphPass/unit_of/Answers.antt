use Rattle.std.proofs.Common.{sym}
use Rattle.pass_chain.proofs.graph_passes.ComparingGraphPass.unit_of.Goals as goal

pub returns : goal.returns
returns c = record {
  passed = c.in_ok-compared.compared;
  result = record { is = c.in_ok-compared.ensures.compared; only = λ other is. sym (c.in_ok-compared.ensures.only other is) };
  keeps = c.in_ok-compared.ensures.keeps;
  laid = c.in_ok-unit.ensures;
}
