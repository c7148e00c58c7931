-- The lines of the patterns of a graph that can still move. Cited by contracts.
use Rattle.std.specs.Prelude.{◌≡◌, ℕ, zero, suc, List, [], ◌++◌, codes, decimal, length, slice_get, Option, Some, None}
use Rattle.flow_graph.specs.Graphs.{GraphShape}
use Rattle.sink_code.specs.declared.delaying.DelayedPatterns.{DelayedPatterns}
use Rattle.sink_code.specs.declared.patterns.Pattern.{Pattern}
use Rattle.graph_edit.specs.Accesses.{blocks_at}
use Rattle.sink_code.specs.Delaying.{IsDelayedTo, IsInsertedAt}
use Rattle.sink_code.specs.Moving.{AreMoving}
use Rattle.sink_code.specs.PatternRows.{ArePatternRows, AreRowsTelling}
use Rattle.pass_table.specs.declared.patterns.PatternLines.{PatternLines}
use Rattle.table_text.specs.Lines.{assigned_text, field}
use Rattle.table_text.specs.Rows.{HaveBit, bits_line}

-- the number of a pattern, and the pattern
abbrev pub pattern_head : List (List ℕ) → ℕ → Pattern → List ℕ
pattern_head vars number pattern =
    codes "pattern" ++ field (decimal number) ++ codes " "
    ++ assigned_text vars pattern.var pattern.rhs ++ codes "\n"

-- the lines of a pattern, where there is one: what it is, and where it is blocked, delayed and inserted
abbrev pub pattern_lines : List (List ℕ) → DelayedPatterns → ℕ → Option Pattern → List ℕ
pattern_lines vars found number None = []
pattern_lines vars found number (Some pattern) =
    pattern_head vars number pattern
    ++ bits_line found.blocked number (codes "blocked")
    ++ bits_line found.delayed number (codes "delayed")
    ++ bits_line found.inserted number (codes "inserted")

-- the lines of the first patterns of a table, of which there are so many
abbrev pub patterns_below : List (List ℕ) → DelayedPatterns → ℕ → List ℕ
patterns_below vars found zero = []
patterns_below vars found (suc n) =
    patterns_below vars found n ++ pattern_lines vars found n (slice_get found.table n)

-- the table has the patterns of the graph that can still move, and the rows say where each is blocked, delayed and
-- inserted
pub record ArePatternsFound (graph : GraphShape) (found : DelayedPatterns) : Type 0 where
  pub moving : AreMoving graph found.table
  pub blocked : ArePatternRows graph found.table (λ x t. blocks_at x t graph) found.blocked
  pub delayed : AreRowsTelling graph found.table (IsDelayedTo graph) found.delayed
  pub inserted : AreRowsTelling graph found.table (IsInsertedAt graph) found.inserted

-- the text is that of the patterns of the graph
pub record IsPatternsText (graph : GraphShape) (text : List ℕ) : Type 0 where
  pub found : DelayedPatterns
  pub are : ArePatternsFound graph found
  pub text_is : text ≡ patterns_below graph.vars found (length found.table)

-- ---- for the functions that write them

-- what was found, where its rows are those of the lines
abbrev pub found_of : PatternLines → DelayedPatterns
found_of lines = record {
  table = lines.table;
  blocked = lines.blocked;
  delayed = lines.delayed;
  inserted = lines.inserted;
}

-- each of the rows has a bit of this number
pub record HavePatternBit (found : DelayedPatterns) (bit : ℕ) : Type 0 where
  pub blocked : HaveBit found.blocked bit
  pub delayed : HaveBit found.delayed bit
  pub inserted : HaveBit found.inserted bit
