-- What is found out of the patterns of a table. Cited by contracts of private functions.
use Rattle.std.specs.Prelude.{◌≡◌, List}
use Rattle.flow_graph.specs.Graphs.{GraphShape}
use Rattle.sink_code.specs.declared.delaying.DelayedPatterns.{DelayedPatterns}
use Rattle.sink_code.specs.declared.patterns.Pattern.{Pattern}
use Rattle.graph_edit.specs.Accesses.{blocks_at}
use Rattle.sink_code.specs.Delaying.{IsDelayedTo, IsInsertedAt}
use Rattle.sink_code.specs.PatternRows.{AreRowsTelling, ArePatternRows}

-- the patterns are those of the table, and the rows tell where each is blocked, delayed and inserted
pub record AreFoundIn (graph : GraphShape) (table : List Pattern)
    (found : DelayedPatterns) : Type 0 where
  pub same : found.table ≡ table
  pub blocked : ArePatternRows graph found.table (λ x t. blocks_at x t graph) found.blocked
  pub delayed : AreRowsTelling graph found.table (IsDelayedTo graph) found.delayed
  pub inserted : AreRowsTelling graph found.table (IsInsertedAt graph) found.inserted
