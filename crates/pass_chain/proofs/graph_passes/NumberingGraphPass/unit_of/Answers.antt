use Rattle.std.proofs.Common.{sym}
use Rattle.pass_chain.proofs.graph_passes.NumberingGraphPass.unit_of.Goals as goal

pub returns : goal.returns
returns c = record {
  passed = c.in_ok-numbered.numbered;
  result = record { is = c.in_ok-numbered.ensures.numbered; only = λ other is. sym (c.in_ok-numbered.ensures.only other is) };
  keeps = c.in_ok-numbered.ensures.keeps;
  laid = c.in_ok-unit.ensures;
}
