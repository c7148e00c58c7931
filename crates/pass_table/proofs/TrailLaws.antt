-- What a linked trail says of the steps of its units.
use Rattle.std.proofs.Common.{List, [], ◌∷◌}
use Rattle.std.specs.List.{AllZip}
use Rattle.std.specs.Prelude.{All}
use Rattle.std.proofs.lemmas.List.Elements.{All-cons, All-nil}
use Rattle.mir_base.specs.Shapes.{UnitShape}
use Rattle.mir_opt.specs.declared.trails.UnitTrail.{UnitTrail}
use Rattle.mir_opt.specs.Links.{LinksUnit}
use Rattle.pass_table.specs.Units.{IsUnitLinked}

-- each unit has the exact motion of its graph, and the exact rounds
pub units_linked : (sources : List UnitShape) (units : List UnitTrail) → AllZip LinksUnit sources units → All IsUnitLinked units
units_linked [] [] z = All-nil IsUnitLinked
units_linked [] (unit ∷ units) z = absurd z
units_linked (source ∷ sources) [] z = absurd z
units_linked (source ∷ sources) (unit ∷ units) z = All-cons IsUnitLinked unit units (record { motion = z.0.motion; back = z.0.back }) (units_linked sources units z.1)
