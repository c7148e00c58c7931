use Rattle.std.proofs.Common.{sym}
use Rattle.pass_chain.proofs.graph_passes.CombiningGraphPass.unit_of.Goals as goal

pub returns : goal.returns
returns c = record {
  passed = c.in_ok-termed.termed;
  result = record { is = c.in_ok-termed.ensures.termed; only = λ other is. sym (c.in_ok-termed.ensures.only other is) };
  keeps = c.in_ok-termed.ensures.keeps;
  laid = c.in_ok-unit.ensures;
}
