use Rattle.std.proofs.Common.{List, length, ap}
use Rattle.mir_base.specs.declared.instructions.Inst.{Inst}
use Rattle.unit_join.proofs.steps.laid_steps.Goals as goal

-- how long the unit is that is laid out of the last graph
pub returns : goal.returns
returns c =
    record {
      steps = c.in_ok-steps.ensures;
      laid = c.in_ok-laid.laid;
      is_laid = c.in_ok-laid.ensures.layout;
      insts = ap (λ (l : List Inst). length l) c.insts-insts.ensures.value;
    }
