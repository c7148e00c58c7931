use Rattle.std.proofs.Common.{sym}
use Rattle.pass_chain.proofs.graph_passes.NarrowingGraphPass.unit_of.Goals as goal

pub returns : goal.returns
returns c = record {
  passed = c.in_ok-narrowed.narrowed;
  result = record { is = c.in_ok-narrowed.ensures.narrowed; only = λ other is. sym (c.in_ok-narrowed.ensures.only other is) };
  keeps = c.in_ok-narrowed.ensures.keeps;
  laid = c.in_ok-unit.ensures;
}
