-- What the printer of a unit knows of it, as the canonical text's definition names it, and texts that it makes on the
-- way. Cited by the contracts of private functions.
use Rattle.std.specs.Prelude.{ℕ, List, [], ◌∷◌, ◌++◌, map, codes, ◌==◌, if◌then◌else◌}
use Rattle.mir_base.specs.declared.instructions.Operand.{Operand}
use Rattle.mir_base.specs.Shapes.{UnitShape}
use Rattle.mir_base.specs.Text.{Naming, operand_text, unit_text}
use Rattle.mir_print.specs.declared.scope.Scope.{Scope}

-- the names by which the scope prints
abbrev pub naming_of : Scope → Naming
naming_of
    scope = record {
      units = map (λ unit. unit.name) scope.units.now;
      vars = scope.vars.now;
      body = scope.body.now;
    }

-- what stands before argument number n of a call
abbrev pub separator : ℕ → List ℕ
separator number = if number == 0 then [] else 59 ∷ []

-- argument number n of a call, with what stands before it
abbrev pub arg_text : Naming → ℕ → Operand → List ℕ
arg_text naming number operand = separator number ++ (operand_text naming operand ++ codes ",int")

-- two operands with an operator between them, and a blank on each side of it
abbrev pub spaced_text : Naming → Operand → List ℕ → Operand → List ℕ
spaced_text naming a op b =
    operand_text naming a ++ codes " " ++ op ++ codes " " ++ operand_text naming b

-- a unit, among these units
abbrev pub unit_text_among : List UnitShape → UnitShape → List ℕ
unit_text_among units unit = unit_text (map (λ u. u.name) units) unit
