-- What is made of a graph once, whatever is asked for around its unit. Cited by contracts.
use Rattle.flow_graph.specs.Graphs.{GraphShape}
use Rattle.wanted_bits.specs.declared.preparing.Prepared.{Prepared}
use Rattle.wanted_bits.specs.Found.{AreBacks}
use Rattle.wanted_bits.specs.Touching.{AreTouched}
use Rattle.wanted_bits.specs.Walking.{back_in}
use Rattle.wanted_bits.specs.WantedFlows.{AreCrossed}

-- what each right side shifts back, the blocks with the edges between them, and some variables for each block, among them
-- those that it touches
pub record IsPrepared (graph : GraphShape) (prepared : Prepared) : Type 0 where
  pub backs : AreBacks graph prepared.backs.items
  pub crossed : AreCrossed graph prepared.crossed
  pub touched : AreTouched graph (back_in prepared.backs.items) prepared.crossed.blocks.lists
      prepared.touched.items
