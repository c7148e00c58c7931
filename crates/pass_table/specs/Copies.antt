-- The lines of the copies of a graph. Cited by contracts.
use Rattle.std.specs.Prelude.{◌≡◌, ℕ, zero, suc, Bool, List, [], ◌++◌, codes, decimal, length, slice_get, Option, Some, None}
use Rattle.mir_base.specs.Shapes.{AllDiffer}
use Rattle.flow_graph.specs.Graphs.{GraphShape}
use Rattle.held_assign.specs.declared.table.Assignment.{Assignment}
use Rattle.held_assign.specs.Assignments.{AreInOrder, HasAssignments, HasOnlyAssignments}
use Rattle.held_assign.specs.Rows.{AreHeldRows}
use Rattle.copy_flow.specs.Copies.{is_copy}
use Rattle.table_text.specs.Lines.{assigned_text, field}
use Rattle.table_text.specs.Rows.{bits_line}

-- the number of a copy, and the copy
abbrev pub copy_head : List (List ℕ) → ℕ → Assignment → List ℕ
copy_head vars number copy =
    codes "copy" ++ field (decimal number) ++ codes " "
    ++ assigned_text vars copy.target copy.rhs ++ codes "\n"

-- the lines of a copy, where there is one: what it is, and before which nodes it holds
abbrev pub copy_lines : List (List ℕ) → List (List Bool) → ℕ → Option Assignment → List ℕ
copy_lines vars held number None = []
copy_lines vars held number (Some copy) =
    copy_head vars number copy ++ bits_line held number (codes "held")

-- the lines of the first copies of a table, of which there are so many
abbrev pub copies_below : List (List ℕ) → List Assignment → List (List Bool) → ℕ → List ℕ
copies_below vars table held zero = []
copies_below vars table held (suc n) =
    copies_below vars table held n ++ copy_lines vars held n (slice_get table n)

-- the table has the copies that the nodes are, and no others, each once and in order of the first node that is each;
-- and the rows say before which nodes each of them holds
pub record AreHeldCopies (graph : GraphShape) (table : List Assignment)
    (held : List (List Bool)) : Type 0 where
  pub all : HasAssignments is_copy graph.nodes table
  pub only : HasOnlyAssignments is_copy graph.nodes table
  pub differ : AllDiffer table
  pub order : AreInOrder is_copy graph.nodes table
  pub held_are : AreHeldRows graph table held

-- the text is that of the copies of the graph
pub record IsCopiesText (graph : GraphShape) (text : List ℕ) : Type 0 where
  pub table : List Assignment
  pub held : List (List Bool)
  pub are : AreHeldCopies graph table held
  pub text_is : text ≡ copies_below graph.vars table held (length table)
