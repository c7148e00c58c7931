use Rattle.std.proofs.Common.{sym}
use Rattle.pass_chain.proofs.graph_passes.BoundingGraphPass.unit_of.Goals as goal

pub returns : goal.returns
returns c = record {
  passed = c.in_ok-bounded.bounded;
  result = record { is = c.in_ok-bounded.ensures.bounded; only = λ other is. sym (c.in_ok-bounded.ensures.only other is) };
  keeps = c.in_ok-bounded.ensures.keeps;
  laid = c.in_ok-unit.ensures;
}
