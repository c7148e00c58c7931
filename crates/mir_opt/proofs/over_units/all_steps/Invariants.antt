use Rattle.std.proofs.Common.{take}
use Rattle.std.specs.List.{AllZip}
use Rattle.mir_opt.specs.Made.{UnitMade}
use Rattle.mir_opt.proofs.over_units.all_steps.Given as goal

abbrev pub invariant-loop-number : goal.invariant-loop-number
invariant-loop-number g l = AllZip (UnitMade g.T.UnitSteps.graph_at g.T.UnitSteps.linked g.T.UnitSteps.best g.T.UnitSteps.within) (take l.number l.program.units) l.units.items
