-- The steps of the loops over the nodes of a block.
use Rattle.std.proofs.Common.{◌≡◌, ◌≢◌, ℕ, suc, ◌+◌, ◌<◌, ◌≤◌, inl, inr, ◌*◌, ◌/◌, List, [], length, take, slice_get, slice_index_or, Some, sym, ap, ◌∙◌, subst, arith}
use Rattle.std.proofs.lemmas.Bool.{cases_eq}
use Rattle.std.proofs.lemmas.Option.{slice_get-get_or, slice_get_within, get_or_from_slice_get}
use Rattle.flow_graph.specs.declared.nodes.Node.{Node}
use Rattle.flow_graph.specs.Blocks.{IsChain}
use Rattle.flow_graph.specs.BlockLaws.{chain_some, chain_within}
use Rattle.flow_graph.specs.BoundLaws.{edge_within}
use Rattle.flow_graph.specs.ListLaws.{some_at, take_next}
use Rattle.cond_flow.specs.States.{NodeState}
use Rattle.cond_flow.specs.Blockwise.{Along, IsStateNet, along_at, block_at, through_nodes}
use Rattle.cond_flow.proofs.Nodewise.{through_more}

-- ---- chains

-- and its nodes are nodes of the graph
pub chain_at : (nodes : List Node) (list : List ℕ) (k : ℕ) → IsChain nodes list → k < length list → slice_index_or list k 0 < length nodes
chain_at nodes list k is lt =
    let n = some_at list k lt in
    let low = chain_within nodes list k n.0 (λ m s edge. edge_within nodes m s edge) is n.1 in
    subst (λ m. m < length nodes) (sym (get_or_from_slice_get list k n.0 0 n.1)) low

-- a step through one node more
pub passed_on : {K : Type 0} (along : Along K) (nodes : List Node) (list : List ℕ) (i j : ℕ) (node : Node) (s t u : NodeState K) → i < length list → j ≡ suc i → slice_get nodes (slice_index_or list i 0) ≡ Some node
    → t ≡ through_nodes along nodes (take i list) s → u ≡ along node 0 t → u ≡ through_nodes along nodes (take j list) s
passed_on along nodes list i j node s t u lt next here so_far step =
    let at : slice_get list i ≡ Some (slice_index_or list i 0) = slice_get-get_or list i 0 lt in
    let more : through_nodes along nodes (take j list) s ≡ along_at along (slice_get nodes (slice_index_or list i 0)) 0 (through_nodes along nodes (take i list) s) =
    ap (λ k. through_nodes along nodes (take k list) s) next ∙ ap (λ l. through_nodes along nodes l s) (take_next list i (slice_index_or list i 0) at) ∙ through_more along nodes (take i list) (slice_index_or list i 0) s in
    step ∙ ap (along node 0) so_far ∙ sym (more ∙ ap (λ o. along_at along o 0 (through_nodes along nodes (take i list) s)) here)

-- a place that is not behind one at which a node stands is within the list
pub place_low : (list : List ℕ) (place i node : ℕ) → place ≤ i → slice_get list i ≡ Some node → place < length list
place_low list place i node le is = omega (arith, le, slice_get_within list i node is)

-- and where another node stands at it, the place behind it is not behind that of the node either
pub place_next : (list : List ℕ) (place i node : ℕ) → place ≤ i → slice_get list i ≡ Some node → slice_index_or list place 0 ≢ node → place + 1 ≤ i
place_next list place i node le is apart = elim (cases_eq i place) as (λ _. place + 1 ≤ i) [
  | inl here ↦ absurd (apart (get_or_from_slice_get list place node 0 (subst (λ k. slice_get list k ≡ Some node) here is)))
  | inr later ↦ omega (arith, le, later)
]

-- the block from which an edge of the flow leads has nodes
pub block_some : (nodes : List Node) (lists : List (List ℕ)) (entry : ℕ) (targets : List ℕ) → IsStateNet nodes lists entry targets
    → (number : ℕ) → number < length targets → 0 < length (block_at lists (number / 2))
block_some nodes lists entry targets is number low =
    let long : length targets ≡ 2 * length lists = is.targets_are.long in
    let list = some_at lists (number / 2) (omega (arith, low, long)) in
    let some = chain_some nodes list.0 (is.blocks.blocks (number / 2) list.0 list.1).chain in
    subst (λ l. 0 < length l) (sym (get_or_from_slice_get lists (number / 2) list.0 [] list.1)) some
