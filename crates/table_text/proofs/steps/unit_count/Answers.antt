use Rattle.std.proofs.Common.{List, ap, length}
use Rattle.mir_base.specs.Shapes.{UnitShape}
use Rattle.table_text.proofs.steps.unit_count.Goals as goal

pub returns : goal.returns
returns c = ap (λ (l : List UnitShape). length l) c.units_of.ensures
