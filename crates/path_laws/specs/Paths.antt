-- What the calls say of paths: where a bit is born and stopped on them. Cited by contracts.
use Rattle.std.specs.Prelude.{◌≡◌, ℕ, ◌<◌, ◌⊎◌, ◌↔◌, Bool, true, false, List, [], ◌∷◌, length, slice_index_or}
use Rattle.bit_rows.specs.Bits.{row_of}
use Rattle.flow_graph.specs.declared.nodes.Node.{Node}
use Rattle.flow_graph.specs.Graphs.{GraphShape}
use Rattle.flow_graph.specs.Paths.{Begins, HasEdge, IsPath, IsReturnAt, Trace}

-- whether the row of a node has a bit
abbrev pub has_bit : List (List Bool) → ℕ → ℕ → Bool
has_bit rows bit node = slice_index_or (row_of rows node) bit false

-- how many bits the rows have
abbrev pub width : List (List Bool) → ℕ
width rows = length (row_of rows 0)

-- one row for each node, each of so many bits
pub record AreRows (nodes bits : ℕ) (rows : List (List Bool)) : Type 0 where
  pub len : length rows ≡ nodes
  pub each : (n : ℕ) → n < nodes → length (row_of rows n) ≡ bits

-- one row for each node of the graph, each of so many bits
abbrev pub HaveShape : GraphShape → ℕ → List (List Bool) → Type 0
HaveShape graph bits rows = AreRows (length graph.nodes) bits rows

-- of so many bits, the rows tell at which nodes of the graph each holds
abbrev pub Tell : GraphShape → ℕ → List (List Bool) → (ℕ → ℕ → Type 0) → Type 0
Tell graph bits rows Holds = (n b : ℕ) → n < length graph.nodes → b < bits
    → (has_bit rows b n ≡ true) ↔ Holds b n

-- the rows tell at which nodes of the graph each bit holds, whatever its index
abbrev pub TellEach : GraphShape → (ℕ → ℕ → Type 0) → List (List Bool) → Type 0
TellEach graph Holds rows = (n b : ℕ) → n < length graph.nodes
    → (has_bit rows b n ≡ true) ↔ Holds b n

-- ---- every path to a node

-- of the nodes before a node, the nearest first, one has the bit born, and none after that one stops it
abbrev pub Since : (ℕ → Bool) → (ℕ → Bool) → List ℕ → Type 0
Since born stop [] = ⊥
Since born stop (m ∷ before) = (born m ≡ true) ⊎ ((stop m ≡ false) × Since born stop before)

-- so it is on every path from Start to node n
abbrev pub BornBefore : List Node → (ℕ → Bool) → (ℕ → Bool) → ℕ → Type 0
BornBefore nodes born stop n = (before : List ℕ) → Trace nodes n before → Since born stop before

-- the rows tell at which nodes each bit is so, for the bits that these rows bear and stop
abbrev pub AreBornBefore : GraphShape → List (List Bool) → List (List Bool) → List (List Bool)
    → Type 0
AreBornBefore graph born stop rows =
    Tell graph (width born) rows (λ b n. BornBefore graph.nodes (has_bit born b) (has_bit stop b) n)

-- ---- every path from a node

-- the path ends at its first node that stops the bit, or at a Return with none before it that does
abbrev pub EndsWell : List Node → (ℕ → Bool) → List ℕ → Type 0
EndsWell nodes stop [] = ⊥
EndsWell nodes stop (n ∷ []) = (stop n ≡ true) ⊎ IsReturnAt nodes n
EndsWell nodes stop (m ∷ n ∷ path) = (stop m ≡ false) × EndsWell nodes stop (n ∷ path)

-- at a node of the path the bit is born
abbrev pub Meets : (ℕ → Bool) → List ℕ → Type 0
Meets born [] = ⊥
Meets born (n ∷ path) = (born n ≡ true) ⊎ Meets born path

-- so it is on every path from node n that ends so
abbrev pub BornAfter : List Node → (ℕ → Bool) → (ℕ → Bool) → ℕ → Type 0
BornAfter nodes born stop n = (path : List ℕ) → IsPath nodes path → Begins n path
    → EndsWell nodes stop path
    → Meets born path

-- the rows tell at which nodes each bit is so
abbrev pub AreBornAfter : GraphShape → List (List Bool) → List (List Bool) → List (List Bool)
    → Type 0
AreBornAfter graph born stop rows =
    Tell graph (width born) rows (λ b n. BornAfter graph.nodes (has_bit born b) (has_bit stop b) n)

-- ---- some path from a node

-- at the last node the bit is born, and no node before it stops it
abbrev pub EndsBorn : (ℕ → Bool) → (ℕ → Bool) → List ℕ → Type 0
EndsBorn born stop [] = ⊥
EndsBorn born stop (n ∷ []) = born n ≡ true
EndsBorn born stop (m ∷ n ∷ path) = (stop m ≡ false) × EndsBorn born stop (n ∷ path)

-- some path from node n ends so
pub record BornAhead (nodes : List Node) (born stop : ℕ → Bool) (n : ℕ) : Type 0 where
  pub path : List ℕ
  pub is_path : IsPath nodes path
  pub begins : Begins n path
  pub ends : EndsBorn born stop path

-- the rows tell at which nodes each bit is so
abbrev pub AreBornAhead : GraphShape → List (List Bool) → List (List Bool) → List (List Bool)
    → Type 0
AreBornAhead graph born stop rows =
    Tell graph (width born) rows (λ b n. BornAhead graph.nodes (has_bit born b) (has_bit stop b) n)

-- ---- at a neighbour

-- some successor of node n has the bit
abbrev pub SomeSucc : List Node → List (List Bool) → ℕ → ℕ → Type 0
SomeSucc nodes rows bit n = (s : ℕ) × HasEdge nodes n s × (has_bit rows bit s ≡ true)

-- some predecessor of node n has the bit
abbrev pub SomePred : List Node → List (List Bool) → ℕ → ℕ → Type 0
SomePred nodes rows bit n = (m : ℕ) × HasEdge nodes m n × (has_bit rows bit m ≡ true)

-- node n is a last one with the bit: the rows have it there, and `stop` has it too or the rows have it not at some
-- successor of n
abbrev pub IsLastNode : List Node → List (List Bool) → List (List Bool) → ℕ → ℕ → Type 0
IsLastNode nodes rows stop bit n = (has_bit rows bit n ≡ true)
    × ((has_bit stop bit n ≡ true) ⊎ ((s : ℕ) × HasEdge nodes n s × (has_bit rows bit s ≡ false)))
