-- What a linked trail says of the motion of the divisions of its units.
use Rattle.std.proofs.Common.{List, [], ◌∷◌}
use Rattle.std.specs.List.{AllZip}
use Rattle.std.specs.Prelude.{All}
use Rattle.std.proofs.lemmas.List.Elements.{All-cons, All-nil}
use Rattle.mir_base.specs.Shapes.{UnitShape}
use Rattle.mir_opt.specs.declared.trails.MoveUnit.{MoveUnit}
use Rattle.mir_opt.specs.Links.{LinksDivision}
use Rattle.division_table.specs.Rows.{IsUnitDivision}

-- each unit has the exact motion of the divisions of its graph
pub units_divided : (sources : List UnitShape) (units : List MoveUnit) → AllZip LinksDivision sources units → All IsUnitDivision units
units_divided [] [] z = All-nil IsUnitDivision
units_divided [] (unit ∷ units) z = absurd z
units_divided (source ∷ sources) [] z = absurd z
units_divided (source ∷ sources) (unit ∷ units) z = All-cons IsUnitDivision unit units z.0.motion (units_divided sources units z.1)
