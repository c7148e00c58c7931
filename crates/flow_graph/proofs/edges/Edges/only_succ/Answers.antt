use Rattle.std.proofs.Common.{◌<◌, ◌∙◌, suc, ap, sym, subst, slice_get, arith, List}
use Rattle.flow_graph.specs.declared.edges.Edge.{Edge}
use Rattle.flow_graph.specs.Edges.{EdgesShape, first_leaving}
use Rattle.flow_graph.specs.LeavingLaws.{leaving_few, leaving_mono}
use Rattle.flow_graph.proofs.EdgeOrder.{no_succ, one_succ}
use Rattle.flow_graph.proofs.edges.Edges.only_succ.Goals as goal

pub overflow_sub-leaving : goal.overflow_sub-leaving
overflow_sub-leaving c = let edges = c.args.self.now.edges in omega (arith, c.leaving-leaving.ensures.first, c.leaving-leaving.ensures.end, leaving_mono c.args.node (suc c.args.node) edges (omega arith))

pub edge-requires : goal.edge-requires
edge-requires c = omega (arith, c.if-leaving-eq1.true, c.leaving-leaving.ensures.end, leaving_few (suc c.args.node) c.args.self.now.edges)

pub returns-then-leaving-eq1 : goal.returns-then-leaving-eq1
returns-then-leaving-eq1 c = λ nodes is.
    let n = c.args.node in
    let numbers = c.leaving-leaving in
    let edges = ap (λ (e : EdgesShape). e.edges) is in
    one_succ nodes n numbers.result.0 numbers.result.1 c.edge.result (subst (λ m. n < m) (ap (λ (e : EdgesShape). e.nodes) is) c.requires)
    (numbers.ensures.first ∙ ap (first_leaving n) edges) (numbers.ensures.end ∙ ap (first_leaving (suc n)) edges) c.if-leaving-eq1.true (ap (λ (l : List Edge). slice_get l numbers.result.0) (sym edges) ∙ c.edge.ensures)

pub returns-else-leaving-eq1 : goal.returns-else-leaving-eq1
returns-else-leaving-eq1 c = λ nodes is.
    let n = c.args.node in
    let numbers = c.leaving-leaving in
    let edges = ap (λ (e : EdgesShape). e.edges) is in
    no_succ nodes n numbers.result.0 numbers.result.1 (subst (λ m. n < m) (ap (λ (e : EdgesShape). e.nodes) is) c.requires)
    (numbers.ensures.first ∙ ap (first_leaving n) edges) (numbers.ensures.end ∙ ap (first_leaving (suc n)) edges) c.if-leaving-eq1.false
