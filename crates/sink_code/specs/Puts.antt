-- What is inserted before each node, as one list for all nodes. Cited by contracts.
use Rattle.std.specs.Prelude.{◌≡◌, ℕ, zero, suc, Bool, if◌then◌else◌, List, [], ◌∷◌, ◌++◌, length, Option}
use Rattle.mir_base.specs.declared.instructions.Rhs.{Rhs}
use Rattle.flow_graph.specs.Graphs.{GraphShape}
use Rattle.graph_edit.specs.Insertions.{Insertion}
use Rattle.sink_code.specs.declared.inserting.PutBefore.{PutBefore}
use Rattle.sink_code.specs.declared.patterns.Pattern.{Pattern}
use Rattle.sink_code.specs.SunkGraphs.{AreInsertions}

-- the pattern as an insertion
abbrev pub insertion_of_pattern : Pattern → Insertion
insertion_of_pattern p = record { var = p.var; rhs = p.rhs }

-- the patterns whose bits are set, in order
abbrev pub chosen : List Pattern → List Bool → List Insertion
chosen [] row = []
chosen (p ∷ table) [] = []
chosen (p ∷ table) (bit ∷ row) =
    if bit then insertion_of_pattern p ∷ chosen table row else chosen table row

-- the pattern inserted before node n
abbrev pub put_at : ℕ → Pattern → PutBefore
put_at n p = record { node = n; var = p.var; rhs = p.rhs }

-- these insertions, before node n
abbrev pub puts_at : ℕ → List Insertion → List PutBefore
puts_at n [] = []
puts_at n (put ∷ puts) = record { node = n; var = put.var; rhs = put.rhs } ∷ puts_at n puts

-- those of so many nodes from n on, in order of the nodes
abbrev pub all_puts : (ℕ → List Insertion) → ℕ → ℕ → List PutBefore
all_puts inserts zero n = []
all_puts inserts (suc count) n = puts_at n (inserts n) ++ all_puts inserts count (suc n)

-- the list has the insertions of the graph, in order of the nodes
pub record ArePutsOf (graph : GraphShape) (puts : List PutBefore) : Type 0 where
  pub delayed : ℕ → ℕ → Option Rhs
  pub inserts : ℕ → List Insertion
  pub insertions : AreInsertions graph delayed inserts
  pub are : puts ≡ all_puts inserts (length graph.nodes) 0
