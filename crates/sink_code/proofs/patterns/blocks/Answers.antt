use Rattle.std.proofs.Common.{◌||◌, ap, ◌∙◌}
use Rattle.flow_graph.specs.Graphs.{is_start, node_reads}
use Rattle.flow_graph.specs.Numbering.{is_in}
use Rattle.sink_code.proofs.patterns.blocks.Goals as goal

pub returns : goal.returns
returns c =
    let node = c.args.node.now in
    c.either-blocked.ensures
    ∙ ap (λ b. b || c.either-accesses.result) c.is_start-starts.ensures
    ∙ ap (λ b. is_start node || b) (c.either-accesses.ensures ∙ ap (λ b. b || c.node_touches-touches.result) c.node_reads-reads.ensures ∙ ap (λ b. is_in c.args.pattern.now.var (node_reads c.args.graph.now node) || b) c.node_touches-touches.ensures)
