-- The names by which a right side, a test or a call outside a unit is printed. Cited by contracts, those of mir_top and
-- table_text too.
use Rattle.std.specs.Prelude.{ℕ, List, []}
use Rattle.mir_base.specs.Text.{Naming}

-- units and variables of these names, and no body
abbrev pub naming_among : List (List ℕ) → List (List ℕ) → Naming
naming_among units vars = record { units = units; vars = vars; body = [] }

-- variables of these names, and no units and no body
abbrev pub naming_with : List (List ℕ) → Naming
naming_with vars = naming_among [] vars
