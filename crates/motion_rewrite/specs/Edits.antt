-- The edits by rows of bits, where the temporaries stand in a list: what becomes of each node, and what is put before
-- it. Cited by contracts of private functions.
use Rattle.std.specs.Prelude.{◌≡◌, ◌⊎◌, ◌<◌, ℕ, Bool, IsTrue, List, length, slice_get}
use Rattle.mir_base.specs.declared.instructions.Expr.{Expr}
use Rattle.bit_rows.specs.Bits.{row_of}
use Rattle.graph_edit.specs.Editing.{graph_change_each, graph_put_each, is_assignment}
use Rattle.flow_graph.specs.Graphs.{GraphShape}
use Rattle.graph_edit.specs.Insertions.{Change, ChangeBelow, Insertion, InsertionsBelow, Unchanged}
use Rattle.motion_rewrite.specs.Flatten.{insertions_of, reading, set_from}
use Rattle.flow_graph.specs.NumberTables.{number_at}

-- the temporary of an expression
abbrev pub temp_in : List ℕ → ℕ → ℕ
temp_in = number_at

-- ---- one node

-- what becomes of a node, by its row of replacements, which has a bit for each expression: its right side becomes the
-- temporary of the first bit that is set, and it stays where none is
abbrev pub change_by : List ℕ → List Bool → Change
change_by temps row = reading (temp_in temps) (set_from 0 row)

-- what is put before a node, by its row of insertions: each expression whose bit is set, assigned to its temporary
abbrev pub puts_by : List ℕ → List Expr → List Bool → List Insertion
puts_by temps table row = insertions_of (temp_in temps) table (set_from 0 row)

-- the node stays, or is an assignment
abbrev pub CanChange : GraphShape → ℕ → Change → Type 0
CanChange graph n change = (change ≡ Unchanged) ⊎ IsTrue (is_assignment (slice_get graph.nodes n))

-- ---- all nodes

-- each node stays, or is an assignment
abbrev pub CanChangeEach : GraphShape → List ℕ → List (List Bool) → Type 0
CanChangeEach graph temps rows = (n : ℕ) → n < length rows
    → CanChange graph n (change_by temps (row_of rows n))

-- the temporaries that are read are below this number
abbrev pub ChangesBelow : ℕ → List ℕ → List (List Bool) → Type 0
ChangesBelow vars temps rows = (n : ℕ) → n < length rows
    → ChangeBelow vars (change_by temps (row_of rows n))

-- the graph with each node changed by its row
abbrev pub graph_read : List ℕ → List (List Bool) → GraphShape → GraphShape
graph_read temps rows graph =
    graph_change_each (λ n. change_by temps (row_of rows n)) (length rows) graph

-- the variables of what is put are below this number
abbrev pub PutsBelow : ℕ → List ℕ → List Expr → List (List Bool) → Type 0
PutsBelow vars temps table rows = (n : ℕ) → n < length rows
    → InsertionsBelow vars (puts_by temps table (row_of rows n))

-- the graph with the assignments of each row before its node
abbrev pub graph_evaluating : List ℕ → List Expr → List (List Bool) → GraphShape → GraphShape
graph_evaluating temps table rows graph =
    graph_put_each (λ n. puts_by temps table (row_of rows n)) (length rows) graph
