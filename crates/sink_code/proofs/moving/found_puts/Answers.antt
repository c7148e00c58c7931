use Rattle.std.proofs.Common.{◌∙◌, List, subst, sym}
use Rattle.flow_graph.specs.declared.nodes.Node.{Node}
use Rattle.flow_graph.specs.Graphs.{IsGraph}
use Rattle.sink_code.proofs.AllPuts.{inside_found}
use Rattle.sink_code.proofs.moving.found_puts.Goals as goal

pub returns-then-len-eq0 : goal.returns-then-len-eq0
returns-then-len-eq0 c =
    let graph = c.args.graph.now in
    let is_graph : IsGraph c.args.graph.now.vars c.args.graph.now.received c.args.graph.now.nodes = subst (λ (l : List Node). IsGraph c.args.graph.now.vars c.args.graph.now.received l) c.nodes-nodes.ensures.value c.nodes-nodes.ensures.graph in
    inside_found graph is_graph c.requires.split c.args.blocks.now.lists c.requires.blocks.are c.in_ok-found.found c.in_ok-found.ensures (sym c.len.ensures.len ∙ c.if-len-eq0.true)
