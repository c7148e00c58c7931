use Rattle.std.proofs.Common.{take}
use Rattle.mir_top.specs.StageTexts.{AppendsStages}
use Rattle.mir_top.proofs.stages.put_stages.Given as goal

abbrev pub invariant-loop-stage : goal.invariant-loop-stage
invariant-loop-stage l = AppendsStages l.trail (take l.stage-index l.stages) l.fn.text l.text
