use Rattle.std.proofs.Common.{ℕ, List, slice_get, ap, ◌∙◌}
use Rattle.mir_tests.proofs.NewNames.{longer_differs}
use Rattle.mir_tests.proofs.tests.edits.put_of.Goals as goal

pub sum_put-requires-clause-new : goal.sum_put-requires-clause-new
sum_put-requires-clause-new c = longer_differs c.args.graph.now.vars c.in_ok-name.name c.nodes-nodes.ensures.graph.can.names (λ i at. c.is_new.ensures c.if-not-is_new.false i (ap (λ (l : List (List ℕ)). slice_get l i) c.vars-vars.ensures ∙ at))
