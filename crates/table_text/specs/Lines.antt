-- What the lines of tables are made of. Cited by contracts, those of the crates above too.
use Rattle.std.specs.Prelude.{ℕ, List, [], ◌++◌, map, codes, slice_index_or}
use Rattle.mir_base.specs.declared.instructions.Rhs.{Rhs}
use Rattle.mir_base.specs.Shapes.{UnitShape}
use Rattle.mir_base.specs.Text.{rhs_text}
use Rattle.mir_print.specs.Sides.{naming_with}

-- a word behind a blank
abbrev pub field : List ℕ → List ℕ
field word = codes " " ++ word

-- the variable of this number behind a blank
abbrev pub name_field : List (List ℕ) → ℕ → List ℕ
name_field vars number = field (slice_index_or vars number [])

-- the line with the name of a unit
abbrev pub unit_line : List ℕ → List ℕ
unit_line name = codes "unit " ++ name ++ codes "\n"

-- the names of units, which calls name
abbrev pub names_of_units : List UnitShape → List (List ℕ)
names_of_units units = map (λ unit. unit.name) units

-- `x <- a + b`
abbrev pub assigned_text : List (List ℕ) → ℕ → Rhs → List ℕ
assigned_text vars target rhs =
    slice_index_or vars target [] ++ codes " <- " ++ rhs_text (naming_with vars) rhs
