-- The lines that say how many bits are wanted before each node. Cited by contracts, those of the crates above too.
use Rattle.std.specs.Prelude.{◌≡◌, ℕ, List, ◌++◌, codes, decimal, flat_map, length}
use Rattle.std.specs.List.{range_with_len}
use Rattle.node_list.specs.Lists.{list_at}
use Rattle.flow_graph.specs.Graphs.{GraphShape}
use Rattle.table_text.specs.Lines.{field}
use Rattle.wanted_bits.specs.Before.{AreWantedBeforeBy}
use Rattle.wanted_bits.specs.Chains.{AreCarriedBy}
use Rattle.wanted_bits.specs.Walking.{bits_at}
use Rattle.wanted_bits.specs.Wanted.{Asked, all_asked}

-- how many bits are wanted of each of the first so many variables
abbrev pub row_text : List ℕ → ℕ → List ℕ
row_text row vars = flat_map (λ x. field (decimal (bits_at row x))) (range_with_len 0 vars)

-- the line of a node before which so many are wanted
abbrev pub wanted_line : ℕ → ℕ → List ℕ → List ℕ
wanted_line vars node row =
    codes "wanted" ++ field (decimal node) ++ row_text row vars ++ codes "\n"

-- the lines of the first so many nodes
abbrev pub lines_of : ℕ → List (List ℕ) → ℕ → List ℕ
lines_of vars rows count =
    flat_map (λ n. wanted_line vars n (list_at rows n)) (range_with_len 0 count)

-- the line of what is asked for where a unit is entered: of each of so many globals, and then of so many arguments
abbrev pub entered_line : ℕ → ℕ → List ℕ → List ℕ → List ℕ
entered_line shared received globals arguments =
    codes "entered" ++ row_text globals shared ++ row_text arguments received ++ codes "\n"

-- and of what is asked for where it returns: of each of so many globals, and then of its result
abbrev pub returned_line : ℕ → List ℕ → List ℕ
returned_line shared back =
    codes "returned" ++ row_text back shared ++ field (decimal (bits_at back shared))
    ++ codes "\n"

-- the text has a line for each node of the graph: how many of the lowest bits of each variable are wanted before it, by
-- the least numbers, where so many are asked for around the unit; so many as chains show
pub record AreWantedLinesBy (asked : Asked) (graph : GraphShape) (text : List ℕ) : Type 0 where
  pub rows : List (List ℕ)
  pub are : AreWantedBeforeBy asked graph rows
  pub carried : AreCarriedBy asked graph rows
  pub text_is : text ≡ lines_of (length graph.vars) rows (length graph.nodes)

-- where all bits are asked for
abbrev pub AreWantedLines : GraphShape → List ℕ → Type 0
AreWantedLines = AreWantedLinesBy all_asked
