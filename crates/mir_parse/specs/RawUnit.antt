-- Raw units as contracts see them: each label stands at an instruction, or behind the last one. Cited by contracts.
use Rattle.std.specs.Prelude.{ℕ, ◌≤◌, List, [], ◌∷◌, ◌++◌, length}
use Rattle.std.specs.List.{All}
use Rattle.mir_parse.specs.declared.raw.RawForm.{RawForm}
use Rattle.mir_parse.specs.declared.raw.RawInst.{RawInst}
use Rattle.mir_parse.specs.declared.raw.RawLabel.{RawLabel}

-- a raw unit as contracts see it
pub record RawUnitShape : Type 0 where
  pub name : List ℕ
  pub line : ℕ
  pub labels : List RawLabel
  pub body : List RawInst

-- the place of each label is at most the number of the instructions
abbrev pub HasPlaces : List RawLabel → List RawInst → Type 0
HasPlaces labels body = All (λ label. label.place ≤ length body) labels

-- a unit of which only the name was read
abbrev pub empty_unit : List ℕ → ℕ → RawUnitShape
empty_unit name line = record { name = name; line = line; labels = []; body = [] }

-- the unit with one more instruction at its end
abbrev pub unit_with_inst : RawUnitShape → ℕ → RawForm → RawUnitShape
unit_with_inst unit line form = record unit
    { body = unit.body ++ record { line = line; form = form } ∷ [] }

-- the unit with one more label, which stands behind its instructions
abbrev pub unit_with_label : RawUnitShape → ℕ → List ℕ → RawUnitShape
unit_with_label unit line name =
    record unit {
      labels = unit.labels ++ record { name = name; place = length unit.body; line = line }
          ∷ [];
    }
