-- Paths go on from the end of a block that an edge leaves.
use Rattle.std.proofs.Common.{◌≡◌, ℕ, not, true, false, List, slice_get, Option, Some, None, refl, ap, ◌∙◌}
use Rattle.std.proofs.lemmas.Option.{none-some}
use Rattle.flow_graph.specs.declared.nodes.Node.{Node}
use Rattle.flow_graph.specs.declared.nodes.Node.TheVariants.{Start, Skip, Assign, Print, Guard, Call, Test, Return}
use Rattle.flow_graph.specs.Graphs.{GraphShape, succs_of}
use Rattle.flow_graph.specs.Paths.{Ends, HasEdge, is_return}
use Rattle.path_laws.specs.Counting.{ahead_is}
use Rattle.sink_code.specs.Inside.{goes_on}

-- a node with a successor is no Return
pub leads_on : (nodes : List Node) (n next : ℕ) → HasEdge nodes n next → not (is_return (slice_get nodes n)) ≡ true
leads_on nodes n next edge = by (slice_get nodes n) edge.1
  where
    by : (o : Option Node) → slice_get (succs_of o) edge.0 ≡ Some next → not (is_return o) ≡ true
    by None e = refl
    by (Some (Start s)) e = refl
    by (Some (Skip s)) e = refl
    by (Some (Assign x rhs s)) e = refl
    by (Some (Print a s)) e = refl
    by (Some (Guard test number s)) e = refl
    by (Some (Call into unit operands s)) e = refl
    by (Some (Test test taken other)) e = refl
    by (Some (Return a)) e = absurd (none-some next e)

-- so paths go on from the end of its block
pub goes_on_last : (graph : GraphShape) (list : List ℕ) (last next : ℕ) → Ends last list → HasEdge graph.nodes last next → goes_on graph list ≡ true
goes_on_last graph list last next ends edge = ap (λ n. not (is_return (slice_get graph.nodes n))) (ahead_is false list last ends) ∙ leads_on graph.nodes last next edge
