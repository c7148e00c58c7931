-- Which tables words ask for, and what these tables are. Cited by contracts.
use Rattle.std.specs.Prelude.{ℕ, ◌≡◌, List, [], ◌∷◌, codes, Option, None, Some, if◌then◌else◌}
use Rattle.mir_base.specs.Shapes.{ProgramShape}
use Rattle.mir_base.specs.Words.{is_text}
use Rattle.mir_opt.specs.declared.trails.MoveTrail.{MoveTrail}
use Rattle.mir_opt.specs.declared.trails.Trail.{Trail}
use Rattle.mir_top.specs.Outputs.{Divides, Optimises}
use Rattle.bound_table.specs.Bounded.{ShowsBounds}
use Rattle.wanted_table.specs.Demanding.{ShowsDemanded}
use Rattle.wanted_table.specs.Narrowings.{ShowsWanted}
use Rattle.call_table.specs.Joins.{ShowsJoins}
use Rattle.call_table.specs.Tails.{ShowsTails}
use Rattle.division_table.specs.Trails.{ShowsDivisions}
use Rattle.pass_table.specs.Trails.{ShowsTables}
use Rattle.mir_table.specs.declared.kinds.TableKind.{TableKind}
use Rattle.mir_table.specs.declared.kinds.TableKind.TheVariants.{Optimise, Divisions, Tails, Join, Bounds, Wanted, Demanded}

-- ---- words

-- the tables of this word
abbrev pub kind_named : List ℕ → Option TableKind
kind_named word =
    if is_text (codes "optimise") word then Some Optimise else
    if is_text (codes "divisions") word then Some Divisions else
    if is_text (codes "tails") word then Some Tails else
    if is_text (codes "join") word then Some Join else
    if is_text (codes "bounds") word then Some Bounds else
    if is_text (codes "wanted") word then Some Wanted else
    if is_text (codes "demanded") word then Some Demanded else None

-- the tables that these words ask for: those of `optimise` where there is no word
abbrev pub kind_of : List (List ℕ) → Option TableKind
kind_of [] = Some Optimise
kind_of (word ∷ []) = kind_named word
kind_of (word ∷ other ∷ others) = None

-- ---- tables

-- the trail of all passes of the program
pub record IsTrailOf (program : ProgramShape) (trail : Trail) : Type 0 where
  pub source : trail.source ≡ program
  pub optimises : Optimises trail

-- the trail of the motion of its divisions
pub record IsDivisionTrailOf (program : ProgramShape) (trail : MoveTrail) : Type 0 where
  pub source : trail.source ≡ program
  pub divides : Divides trail

-- what the tables of a program are made of: the trail of the passes, where there is one
abbrev pub HasSubject : TableKind → ProgramShape → Type 0
HasSubject Optimise program = (trail : Trail) × IsTrailOf program trail
HasSubject Divisions program = (trail : MoveTrail) × IsDivisionTrailOf program trail
HasSubject Tails program = Unit {0}
HasSubject Join program = Unit {0}
HasSubject Bounds program = Unit {0}
HasSubject Wanted program = Unit {0}
HasSubject Demanded program = Unit {0}

-- the text is that of the tables
abbrev pub ShowsKind : (kind : TableKind) (program : ProgramShape) → HasSubject kind program
    → List ℕ → Type 0
ShowsKind Optimise program subject text = ShowsTables subject.0 text
ShowsKind Divisions program subject text = ShowsDivisions subject.0 text
ShowsKind Tails program subject text = ShowsTails program text
ShowsKind Join program subject text = ShowsJoins program text
ShowsKind Bounds program subject text = ShowsBounds program text
ShowsKind Wanted program subject text = ShowsWanted program text
ShowsKind Demanded program subject text = ShowsDemanded program text
