-- The tables of what single commands make. Cited by contracts of private functions.
use Rattle.std.specs.Prelude.{ℕ, List}
use Rattle.mir_opt.specs.declared.trails.MoveTrail.{MoveTrail}
use Rattle.bound_table.specs.Bounded.{ShowsBounds}
use Rattle.wanted_table.specs.Demanding.{ShowsDemanded}
use Rattle.wanted_table.specs.Narrowings.{ShowsWanted}
use Rattle.call_table.specs.Joins.{ShowsJoins}
use Rattle.call_table.specs.Tails.{ShowsTails}
use Rattle.division_table.specs.Trails.{ShowsDivisions}
use Rattle.mir_table.specs.declared.further.Further.{Further}
use Rattle.mir_table.specs.declared.further.Further.TheVariants.{Divisions, Tails, Join, Bounds, Wanted, Demanded}
use Rattle.mir_table.specs.declared.kinds.TableKind.{TableKind}
use Rattle.mir_table.specs.declared.kinds.TableKind.TheVariants as kinds

-- these tables among all
abbrev pub kind_from : Further → TableKind
kind_from Divisions = kinds.Divisions
kind_from Tails = kinds.Tails
kind_from Join = kinds.Join
kind_from Bounds = kinds.Bounds
kind_from Wanted = kinds.Wanted
kind_from Demanded = kinds.Demanded

-- the text is that of these tables of the program of the trail
abbrev pub IsTextOf : Further → MoveTrail → List ℕ → Type 0
IsTextOf Divisions trail text = ShowsDivisions trail text
IsTextOf Tails trail text = ShowsTails trail.source text
IsTextOf Join trail text = ShowsJoins trail.source text
IsTextOf Bounds trail text = ShowsBounds trail.source text
IsTextOf Wanted trail text = ShowsWanted trail.source text
IsTextOf Demanded trail text = ShowsDemanded trail.source text
