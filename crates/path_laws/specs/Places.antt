-- The nodes of blocks in the order of the flow, place by place.
use Rattle.std.proofs.Common.{◌≡◌, ℕ, ◌-◌, ◌<◌, Bool, true, false, List, [], length, reverse, slice_get, Some, refl, sym, ap, subst, arith, ◌∙◌}
use Rattle.std.proofs.lemmas.List.{get_or-reverse, length-reverse}
use Rattle.std.proofs.lemmas.Option.{get_or_from_slice_get, slice_get_within, slice_get-get_or}
use Rattle.flow_graph.specs.declared.nodes.Node.{Node}
use Rattle.flow_graph.specs.BlockLaws.{chain_within, edge_within}
use Rattle.flow_graph.specs.Blocks.{IsBlocks, IsChain}
use Rattle.node_list.specs.Lists.{list_at}
use Rattle.path_laws.specs.Blockwise.{flow_order}
use Rattle.path_laws.specs.declared.problems.Problem.{Problem}
use Rattle.path_laws.specs.Problem.{IsProblem, orders}

-- ---- the nodes of a block

-- an item of the reversed list is one of the list
pub reversed_item : (list : List ℕ) (i n : ℕ) → slice_get (reverse list) i ≡ Some n → (j : ℕ) × (slice_get list j ≡ Some n)
reversed_item l i n e =
    let h : i < length l = subst (λ k. i < k) (length-reverse l) (slice_get_within (reverse l) i n e) in
    let j = length l - 1 - i in
    (j, slice_get-get_or l j 0 (omega (arith, h)) ∙ ap Some (sym (get_or-reverse l i 0 h) ∙ get_or_from_slice_get (reverse l) i n 0 e))

-- the nodes of a block are nodes of the graph, in either direction of the flow
pub flow_within : (against : Bool) (nodes : List Node) (list : List ℕ) (i n : ℕ) → IsChain nodes list → slice_get (flow_order against list) i ≡ Some n → n < length nodes
flow_within true nodes list i n is e = let t = reversed_item list i n e in chain_within nodes list t.0 n (λ m k edge. edge_within nodes m k edge) is t.1
flow_within false nodes list i n is e = chain_within nodes list i n (λ m k edge. edge_within nodes m k edge) is e

-- turning a list round keeps its length
pub length_flow_order : (against : Bool) (list : List ℕ) → length (flow_order against list) ≡ length list
length_flow_order true list = length-reverse list
length_flow_order false list = refl

-- the node at this place of a block, as a node of the graph
pub place_is : (against : Bool) (nodes : List Node) (lists : List (List ℕ)) (block i n : ℕ) (list : List ℕ) → IsBlocks nodes lists → slice_get lists block ≡ Some list → slice_get (flow_order against list) i ≡ Some n
    → (slice_get (flow_order against (list_at lists block)) i ≡ Some n) × (n < length nodes)
place_is against nodes lists block i n list are listed at =
    let same : list_at lists block ≡ list = get_or_from_slice_get lists block list [] listed in
    (ap (λ l. slice_get (flow_order against l) i) same ∙ at, flow_within against nodes list i n (are.blocks block list listed).chain at)

-- a block has as many nodes in the order of the flow
pub long_is : (against : Bool) (lists : List (List ℕ)) (block : ℕ) (list : List ℕ) → slice_get lists block ≡ Some list → length (flow_order against (list_at lists block)) ≡ length list
long_is against lists block list listed = let same : list_at lists block ≡ list = get_or_from_slice_get lists block list [] listed in length_flow_order against (list_at lists block) ∙ ap length same

-- ---- the blocks of a problem

-- the node at this place of a block, in the order of the flow
pub node_in : (p : Problem) (block place n : ℕ) (list : List ℕ) → IsProblem p → slice_get p.blocks.now.lists block ≡ Some list → slice_get (flow_order p.against list) place ≡ Some n → (slice_get (orders p block) place ≡ Some n) × (n < length p.graph.now.nodes)
node_in p block place n list is listed at = place_is p.against p.graph.now.nodes p.blocks.now.lists block place n list is.blocks_are.are listed at
