-- Rows like the uses.
use Rattle.std.proofs.Common.{◌≡◌, ℕ, Bool, List, length}
use Rattle.flow_graph.specs.Blocks.{AreBlocksOf}
use Rattle.flow_graph.specs.Edges.{edges_of}
use Rattle.path_laws.specs.Paths.{HaveShape}
use Rattle.path_laws.specs.RowLaws.{as_wide}
use Rattle.latest_place.specs.declared.equations.Uses.{Uses}
use Rattle.latest_place.specs.Rows.{AreLikeUses}

-- rows of one shape are like the uses
pub like_uses : (uses : Uses) (bits : ℕ) (rows : List (List Bool)) → uses.edges.now ≡ edges_of uses.graph.now.nodes → AreBlocksOf uses.graph.now.nodes uses.blocks.now → HaveShape uses.graph.now bits rows → HaveShape uses.graph.now bits uses.rows.now → AreLikeUses uses rows
like_uses uses bits rows edges_are blocks_are are uses_are = record {
  edges_are = edges_are;
  blocks_are = blocks_are;
  rows_are = as_wide (length uses.graph.now.nodes) bits rows rows are are;
  uses_are = as_wide (length uses.graph.now.nodes) bits rows uses.rows.now are uses_are;
}
