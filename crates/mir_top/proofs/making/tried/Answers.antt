use Rattle.std.proofs.Common.{refl}
use Rattle.mir_top.proofs.making.tried.Goals as goal

pub returns : goal.returns
returns c = record { summary = c.in_ok-output.ensures; outcome_is = refl }
