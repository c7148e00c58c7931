-- The lines that say what is known before each node, for any way to write what is known of one variable. Cited by
-- contracts of the crates above.
use Rattle.std.specs.Prelude.{◌≡◌, ℕ, List, ◌++◌, codes, decimal, flat_map, slice_get, Option, Some, None, option_map, Vec}
use Rattle.table_text.specs.Lines.{field}

-- what is known of all variables, or that no run comes to the node
abbrev pub state_text : {K : Type 0} → (K → List ℕ) → Option (List K) → List ℕ
state_text text_of None = codes " unreached"
state_text text_of (Some known) = flat_map text_of known

-- the line of a node before which this is known
abbrev pub state_line : {K : Type 0} → (K → List ℕ) → ℕ → Option (List K) → List ℕ
state_line text_of node known =
    codes "state" ++ field (decimal node) ++ state_text text_of known ++ codes "\n"

-- the line is that of what is known of the node of this number
pub record IsStateAmong {K : Type 0} {A : Type 0} (text_of : K → List ℕ)
    (all : List (Option (Vec K A))) (node : ℕ) (line : List ℕ) : Type 0 where
  pub known : Option (Vec K A)
  pub stands : slice_get all node ≡ Some known
  pub line_is : line ≡ state_line text_of node (option_map (λ list. list.items) known)
