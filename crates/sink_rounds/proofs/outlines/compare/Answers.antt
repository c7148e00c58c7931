use Rattle.std.proofs.Common.{◌≡◌, List, count_by, subst, true≢false, arith}
use Rattle.flow_graph.specs.declared.nodes.Node.{Node}
use Rattle.flow_graph.specs.Graphs.{IsGraph}
use Rattle.sink_rounds.specs.Outlines.{is_assign}
use Rattle.sink_rounds.specs.RoundGraphs.{HaveOneLayout}
use Rattle.sink_rounds.proofs.LaidCounts.{one_count}
use Rattle.sink_rounds.proofs.outlines.compare.Goals as goal
use Rattle.sink_rounds.proofs.outlines.compare.Goals.{Else-outline-known}

-- graphs with one layout have equally many assignments, and these have not
apart : (c : Else-outline-known) → HaveOneLayout c.args.graph.now c.args.other.now → ⊥
apart c one =
    let graph = c.args.graph.now in
    let other = c.args.other.now in
    let is_graph : IsGraph graph.vars graph.received graph.nodes = subst (λ (l : List Node). IsGraph graph.vars graph.received l) c.nodes-olds.ensures.value c.nodes-olds.ensures.graph in
    let is_other : IsGraph other.vars other.received other.nodes = subst (λ (l : List Node). IsGraph other.vars other.received l) c.nodes-news.ensures.value c.nodes-news.ensures.graph in
    let same : count_by is_assign c.args.graph.now.nodes ≡ count_by is_assign c.args.other.now.nodes = one_count graph other is_graph is_other one in
    let known = c.requires.known.assigns in
    let found = c.of-outline.ensures.assigns in
    let differ = c.if-outline-known.false in
    omega (arith, same, known, found, differ)

pub returns-else-outline-known : goal.returns-else-outline-known
returns-else-outline-known c = record {
  changed = (λ same. absurd (true≢false same), λ one. absurd (apart (goal.at.returns-else-outline-known c).Else-outline-known one));
  outline = c.of-outline.ensures;
  flow = c.requires.flow;
}
