use Rattle.std.proofs.Common.{◌<◌, List, Bool, length, set, subst, ap, sym, ◌∙◌}
use Rattle.bit_rows.specs.Bits.{minus_bits, or_bits, row_of}
use Rattle.flow_graph.specs.declared.nodes.Node.{Node}
use Rattle.flow_graph.specs.Graphs.{IsGraph}
use Rattle.sink_code.proofs.Ending.{ended_inside, ended_more, source_in, target_in}
use Rattle.sink_code.proofs.ends.end_at.Goals as goal
use Rattle.sink_code.proofs.ends.end_at.Goals.{After-edge-edge, After-nodes-nodes}

is_graph : (c : After-nodes-nodes) → IsGraph c.args.over.now.graph.now.vars c.args.over.now.graph.now.received c.args.over.now.graph.now.nodes
is_graph c = subst (λ (l : List Node). IsGraph c.args.over.now.graph.now.vars c.args.over.now.graph.now.received l) c.nodes-nodes.ensures.value c.nodes-nodes.ensures.graph

-- the ends of the edge are nodes
source_below : (c : After-edge-edge) → c.edge-edge.result.source < length c.args.over.now.graph.now.nodes
source_below c = source_in c.args.over.now (is_graph (goal.at.After-edge-edge c).After-nodes-nodes) c.requires.over c.args.delayed.now c.requires.delayed c.args.number c.edge-edge.result c.edge-edge.ensures

target_below : (c : After-edge-edge) → c.edge-edge.result.target < length c.args.over.now.graph.now.nodes
target_below c = target_in c.args.over.now (is_graph (goal.at.After-edge-edge c).After-nodes-nodes) c.requires.over c.args.delayed.now c.requires.delayed c.args.number c.edge-edge.result c.edge-edge.ensures

pub begins_block-requires-clause-node : goal.begins_block-requires-clause-node
begins_block-requires-clause-node c = target_below (goal.at.begins_block-requires-clause-node c).After-edge-edge

pub row-requires : goal.row-requires
row-requires c = rw c.requires.delayed.shape.len (source_below (goal.at.row-requires c).After-edge-edge)

pub row-requires-then-begins_block : goal.row-requires-then-begins_block
row-requires-then-begins_block c = rw c.requires.delayed.shape.len (target_below (goal.at.row-requires-then-begins_block c).After-edge-edge)

pub or_minus_from-requires-clause-row : goal.or_minus_from-requires-clause-row
or_minus_from-requires-clause-row c = rw c.requires.rows.shape.len (source_below (goal.at.or_minus_from-requires-clause-row c).After-edge-edge)

pub or_minus_from-requires-clause-equally_long : goal.or_minus_from-requires-clause-equally_long
or_minus_from-requires-clause-equally_long c =
    let source = source_below (goal.at.or_minus_from-requires-clause-equally_long c).After-edge-edge in
    c.requires.rows.shape.each c.edge-edge.result.source source ∙ sym (ap length c.row.ensures ∙ c.requires.delayed.shape.each c.edge-edge.result.source source)

pub or_minus_from-requires-clause-less : goal.or_minus_from-requires-clause-less
or_minus_from-requires-clause-less c =
    let known = (goal.at.or_minus_from-requires-clause-less c).After-edge-edge in
    c.requires.rows.shape.each c.edge-edge.result.source (source_below known) ∙ sym (ap length c.row-then-begins_block.ensures ∙ c.requires.delayed.shape.each c.edge-edge.result.target (target_below known))

pub returns-then-begins_block : goal.returns-then-begins_block
returns-then-begins_block c =
    let rows = c.args.rows.now in
    let source = c.edge-edge.result.source in
    ended_more c.args.over.now (is_graph (goal.at.returns-then-begins_block c).After-nodes-nodes) c.requires.over c.args.delayed.now c.requires.delayed c.args.number c.edge-edge.result c.edge-edge.ensures rows c.requires.rows c.or_minus_from.new.self
    (c.or_minus_from.ensures
    ∙ ap (λ (from : List Bool). set rows source (or_bits (row_of rows source) (minus_bits from c.row-then-begins_block.result))) c.row.ensures
    ∙ ap (λ (less : List Bool). set rows source (or_bits (row_of rows source) (minus_bits (row_of c.args.delayed.now source) less))) c.row-then-begins_block.ensures)

pub returns-else-begins_block : goal.returns-else-begins_block
returns-else-begins_block c =
    ended_inside c.args.over.now (is_graph (goal.at.returns-else-begins_block c).After-nodes-nodes) c.requires.over c.args.delayed.now c.requires.delayed c.args.number c.edge-edge.result c.edge-edge.ensures c.args.rows.now c.requires.rows
    (λ first. let on = c.begins_block.ensures.1 first in let off = c.if-begins_block.false in cc)
