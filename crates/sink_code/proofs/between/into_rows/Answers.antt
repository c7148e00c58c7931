use Rattle.std.proofs.Common.{List, length, subst, sym, refl, ◌∙◌}
use Rattle.flow_graph.specs.declared.nodes.Node.{Node}
use Rattle.flow_graph.specs.Graphs.{IsGraph}
use Rattle.path_laws.specs.AtBlocks.{AreBornAtHeads, ArePassedAlong}
use Rattle.path_laws.specs.Paths.{AreRows}
use Rattle.path_laws.specs.RowLaws.{are_alike, like_rows}
use Rattle.sink_code.specs.BlockRows.{AreBlockRows, is_blocked_in, is_lost_in}
use Rattle.sink_code.proofs.Lost.{born_at, into_are, passed_along, stopped_at}
use Rattle.sink_code.proofs.between.into_rows.Goals as goal
use Rattle.sink_code.proofs.between.into_rows.Goals.{After-minus_rows}

pub minus_rows-requires : goal.minus_rows-requires
minus_rows-requires c =
    let over = c.args.over.now in
    rw c.in_ok-lost.ensures (are_alike (length over.blocks.now.lists) (length over.table.now) c.args.blocked.now c.args.leaves.now c.requires.blocked.shape c.requires.leaves.shape)

-- what is blocked in a block and does not leave it is lost there
lost_are : (c : After-minus_rows) → AreBlockRows c.args.over.now.blocks.now.lists c.args.over.now.table.now (is_lost_in c.args.over.now.graph.now) c.minus_rows.new.self
lost_are c =
    let over = c.args.over.now in
    let blocked : AreBlockRows over.blocks.now.lists over.table.now (is_blocked_in over.graph.now) c.in_ok-lost.lost = rw c.in_ok-lost.ensures c.requires.blocked in
    record {
      shape = like_rows (length over.blocks.now.lists) (length over.table.now) c.in_ok-lost.lost c.minus_rows.new.self blocked.shape c.minus_rows.ensures.alike;
      are = λ b k list p h is_block numbered.
          c.minus_rows.ensures.bits b k ∙ rw (blocked.are b k list p h is_block numbered, c.requires.leaves.are b k list p h is_block numbered) refl;
    }

pub returns : goal.returns
returns c =
    let over = c.args.over.now in
    let graph = over.graph.now in
    let lost = lost_are (goal.at.returns c).After-minus_rows in
    let is_graph : IsGraph graph.vars graph.received graph.nodes = subst (λ (l : List Node). IsGraph graph.vars graph.received l) c.nodes-nodes.ensures.value c.nodes-nodes.ensures.graph in
    let along = passed_along graph is_graph over.blocks.now.lists over.table.now c.minus_rows.new.self c.args.leaves.now lost c.requires.leaves in
    let lists = over.blocks.now.lists in
    let born = born_at graph over.table.now in
    let stopped = stopped_at graph over.table.now in
    into_are graph is_graph lists over.table.now c.minus_rows.new.self c.args.leaves.now lost c.requires.leaves c.in_ok-into.into (subst (λ n. AreRows (length lists) n c.in_ok-into.into) c.len-bits.ensures.len c.in_ok-into.ensures.shape)
    (subst (λ n. AreBornAtHeads graph.nodes lists n born stopped c.in_ok-into.into) c.len-bits.ensures.len
    (c.in_ok-into.ensures.paths born stopped (subst (λ n. ArePassedAlong graph.nodes lists n born stopped c.minus_rows.new.self c.args.leaves.now) (sym c.len-bits.ensures.len) along)))
