-- Law: where a credit that is carried along the edges makes up for the weight of what is put, no full path weighs
-- more than before. For proofs only.
use Rattle.std.proofs.Common.{◌≡◌, ℕ, ◌+◌, ◌≤◌, List, [], ◌∷◌, sym, ap, ◌∙◌, subst, arith}
use Rattle.mir_base.specs.declared.instructions.Rhs.{Rhs}
use Rattle.flow_graph.specs.declared.nodes.Node.{Node}
use Rattle.graph_edit.specs.Over.{weight_at, new_weight_at}
use Rattle.graph_edit.specs.Insertions.{Rewriting}
use Rattle.flow_graph.specs.Paths.{HasEdge, IsPath, Ends, IsReturnAt, IsFullPath}
use Rattle.flow_graph.specs.Sums.{sum_on}

-- the credit before each node, for any weight of assignments: there is none at Start; what a node weighs anew, with the
-- credit of each successor, is at most its credit and what it weighed; and a Return has enough with its own
pub record IsCredit (weight : ℕ → Rhs → ℕ) (r : Rewriting) (nodes : List Node)
    (credit : ℕ → ℕ) : Type 0 where
  pub starts : credit 0 ≡ 0
  pub each_edge : (n s : ℕ) → HasEdge nodes n s
      → new_weight_at weight r nodes n + credit s ≤ credit n + weight_at weight nodes n
  pub ends : (n : ℕ) → IsReturnAt nodes n
      → new_weight_at weight r nodes n ≤ credit n + weight_at weight nodes n

module _ (weight : ℕ → Rhs → ℕ) (r : Rewriting) (nodes : List Node) (credit : ℕ → ℕ)
    (is : IsCredit weight r nodes credit) where
  weighs_from : (n last : ℕ) (path : List ℕ) → IsPath nodes (n ∷ path) → Ends last (n ∷ path)
      → IsReturnAt nodes last
      → sum_on (new_weight_at weight r nodes) (n ∷ path) ≤ credit n + sum_on (weight_at weight nodes) (n ∷ path)
  weighs_from n last [] is_path ends returns =
      let enough = is.ends n (subst (IsReturnAt nodes) (sym ends) returns) in
      omega (arith, enough)
  weighs_from n last (m ∷ path) is_path ends returns = omega (arith, is.each_edge n m is_path.0, weighs_from m last path is_path.1 ends returns)

  pub weighs_no_more : (path : List ℕ) → IsFullPath nodes path
      → sum_on (new_weight_at weight r nodes) path ≤ sum_on (weight_at weight nodes) path
  weighs_no_more [] full = absurd full.begins
  weighs_no_more (n ∷ path) full =
      let none : credit n ≡ 0 = ap credit full.begins ∙ is.starts in
      omega (arith, none, weighs_from n full.last path full.is_path full.ends full.returns)
