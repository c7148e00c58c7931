-- Law: there is one graph in which the assignments of a graph have sunk. For proofs only; the
-- crates above cite it.
use Rattle.std.proofs.Common.{◌≡◌, ℕ, List, [], length, inl, inr, sym, ap, ◌∙◌}
use Rattle.std.proofs.lemmas.Bool.{cases_lt}
use Rattle.flow_graph.specs.Graphs.{GraphShape}
use Rattle.graph_edit.specs.Insertions.{Insertion, rewritten}
use Rattle.sink_code.specs.PutLaws.{one_list}
use Rattle.sink_code.specs.SunkGraphs.{AreInsertedAt, IsSunk, sinking}

-- what is inserted before a node is determined
inserted_is_one : (graph : GraphShape) (n : ℕ) (a b : List Insertion) → AreInsertedAt graph n a
    → AreInsertedAt graph n b → a ≡ b
inserted_is_one graph n a b p q =
    one_list 0 0 a b p.in_order q.in_order (λ x t. (λ put. (q.exact x t).1 ((p.exact x t).0 put), λ put. (p.exact x t).1 ((q.exact x t).0 put)))

-- so is the graph
pub sunk_is_one : (graph a b : GraphShape) → IsSunk graph a → IsSunk graph b → a ≡ b
sunk_is_one graph a b p q = p.is ∙ ap (λ inserts. rewritten (sinking graph inserts) [] graph) same ∙ sym q.is
  where
    each : (n : ℕ) → p.inserts n ≡ q.inserts n
    each n = elim (cases_lt n (length graph.nodes)) [
      | inl lt ↦ inserted_is_one graph n (p.inserts n) (q.inserts n) (p.insertions.inserts_are n lt) (q.insertions.inserts_are n lt)
      | inr ge ↦ p.insertions.none_past n ge ∙ sym (q.insertions.none_past n ge)
    ]

    same : p.inserts ≡ q.inserts
    same = λ i n. each n i
