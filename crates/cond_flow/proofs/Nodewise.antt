-- From states of the blocks to states of the nodes: what solves the flow over blocks gives states of the graph, and the
-- least solution the least states.
use Rattle.std.proofs.Common.{◌≡◌, ℕ, zero, suc, ◌+◌, ◌*◌, ◌-◌, ◌<◌, ◌≤◌, ◌/◌, ◌%◌, ◌⊎◌, inl, inr, Bool, true, false, if◌then◌else◌, nat_eq, eq-eqb, eqb-true, List, [], ◌∷◌, ◌++◌, length, take, slice_get, slice_index_or, Option, Some, None, refl, sym, ap, ◌∙◌, subst, arith}
use Rattle.std.proofs.lemmas.Bool.{cases_lt}
use Rattle.std.proofs.lemmas.Option.{slice_get_within, get_or_from_slice_get, same_Some}
use Rattle.fix_solve.specs.Net.{Net, Solves, IsLeastSolution}
use Rattle.flow_graph.specs.declared.nodes.Node.{Node}
use Rattle.flow_graph.specs.Blocks.{IsBlocks, IsChain, IsGlued, StandsIn}
use Rattle.flow_graph.specs.BlockLaws.{begin_of, chain_ends, chain_inner, chain_on, chain_within, glued_edge, one_block, one_place, only_from, only_slot, only_to}
use Rattle.flow_graph.specs.BoundLaws.{edge_within, slot_low, slot_within}
use Rattle.flow_graph.specs.Graphs.{AllWithin, IsEdge, node_succs, succs_of}
use Rattle.flow_graph.specs.ListLaws.{some_at, take_next}
use Rattle.flow_graph.specs.PathLaws.{end_stands, first_begins}
use Rattle.flow_graph.specs.Paths.{Begins, Ends}
use Rattle.flow_graph.specs.NumberTables.{number_at}
use Rattle.cond_flow.specs.Rules.{Rules, OrderRules}
use Rattle.cond_flow.specs.States.{NodeState, Unreached, Knows, BelowState, size_of}
use Rattle.cond_flow.specs.Solutions.{AreStates, AreLeastStates}
use Rattle.cond_flow.specs.Blockwise.{Along, AlongLaws, along_at, through_nodes, last_of, out_of, block_at, state_net, IsStateNet}
use Rattle.cond_flow.specs.StateLaws.{below_refl, below_trans, below_size, unreached_below}
use Rattle.cond_flow.specs.FlowLaws.{at_rises, net_laws, through_rises, through_size}

-- ---- lists

-- what passes through one node more
pub through_more : {K : Type 0} (along : Along K) (nodes : List Node) (list : List ℕ) (n : ℕ) (s : NodeState K) → through_nodes along nodes (list ++ n ∷ []) s ≡ along_at along (slice_get nodes n) 0 (through_nodes along nodes list s)
through_more along nodes [] n s = refl
through_more along nodes (m ∷ list) n s = through_more along nodes list n (along_at along (slice_get nodes m) 0 s)

-- the block of an edge, and its slot
half : (b slot : ℕ) → slot < 2 → (2 * b + slot) / 2 ≡ b
half b slot low = omega arith

-- the slot of an edge is the remainder of its number by 2
odd : (b slot : ℕ) → slot < 2 → (2 * b + slot) % 2 ≡ slot
odd b slot low = omega arith

-- ---- the states of the nodes

module _ {K : Type 0} (along : Along K) (nodes : List Node) (lists : List (List ℕ)) (blocks : IsBlocks nodes lists) (v : ℕ → NodeState K) where
  stands_within : (b n : ℕ) → StandsIn lists b n → n < length nodes
  stands_within b n s = chain_within nodes s.list s.place n (λ m k edge. edge_within nodes m k edge) (blocks.blocks b s.list s.listed).chain s.is

  chosen : (n : ℕ) → (n < length nodes) ⊎ (length nodes ≤ n) → NodeState K
  chosen n (inl lt) = let s = blocks.every n lt in through_nodes along nodes (take s.1.place s.1.list) (v s.0)
  chosen n (inr ge) = Unreached 0

  -- what passes from the first node of its block
  pub state_of : ℕ → NodeState K
  state_of n = chosen n (cases_lt n (length nodes))

  stands_alike : (b c n : ℕ) (s : StandsIn lists b n) (t : StandsIn lists c n) → through_nodes along nodes (take s.place s.list) (v b) ≡ through_nodes along nodes (take t.place t.list) (v c)
  stands_alike b c n s t =
      let same_b : b ≡ c = one_block nodes lists b c n blocks s t in
      let same_l : s.list ≡ t.list = same_Some s.list t.list (sym s.listed ∙ ap (slice_get lists) same_b ∙ t.listed) in
      let same_p : s.place ≡ t.place = one_place nodes s.list s.place t.place n (blocks.blocks b s.list s.listed) s.is (subst (λ l. slice_get l t.place ≡ Some n) (sym same_l) t.is) in
      ap (λ p. through_nodes along nodes (take p s.list) (v b)) same_p ∙ ap (λ l. through_nodes along nodes (take t.place l) (v b)) same_l ∙ ap (λ k. through_nodes along nodes (take t.place t.list) (v k)) same_b

  chosen_is : (b n : ℕ) (s : StandsIn lists b n) (o : (n < length nodes) ⊎ (length nodes ≤ n)) → chosen n o ≡ through_nodes along nodes (take s.place s.list) (v b)
  unfolding chosen
  chosen_is b n s (inl lt) = let t = blocks.every n lt in stands_alike t.0 b n t.1 s
  chosen_is b n s (inr ge) = absurd (omega (arith, ge, stands_within b n s))

  -- wherever the node is found to stand
  pub state_at : (b n : ℕ) (s : StandsIn lists b n) → state_of n ≡ through_nodes along nodes (take s.place s.list) (v b)
  unfolding state_of
  state_at b n s = chosen_is b n s (cases_lt n (length nodes))

  -- the first node of a block has the state of the block
  pub state_first : (b n : ℕ) (s : StandsIn lists b n) → s.place ≡ 0 → state_of n ≡ v b
  state_first b n s first = state_at b n s ∙ ap (λ p. through_nodes along nodes (take p s.list) (v b)) first

  -- the others have what passes from the node before
  pub state_glued : (m n : ℕ) → IsGlued nodes m n → state_of n ≡ along_at along (slice_get nodes m) 0 (state_of m)
  state_glued m n glued =
      let s = blocks.every m (edge_within nodes m n (glued_edge nodes m n glued)) in
      let block = blocks.blocks s.0 s.1.list s.1.listed in
      elim (chain_on nodes s.1.list s.1.place m block.chain s.1.is) as (λ _. state_of n ≡ along_at along (slice_get nodes m) 0 (state_of m)) [
        | inl ends ↦ absurd (block.last m ends n glued)
        | inr next ↦
            let both : next.0 ∷ [] ≡ n ∷ [] = sym next.2.leaves ∙ glued.leaves in
            let same : next.0 ≡ n = cc in
            let t : StandsIn lists s.0 n = record { list = s.1.list; listed = s.1.listed; place = suc s.1.place; is = next.1 ∙ ap Some same } in
            state_at s.0 n t ∙ ap (λ l. through_nodes along nodes l (v s.0)) (take_next s.1.list s.1.place m s.1.is) ∙ through_more along nodes (take s.1.place s.1.list) m (v s.0)
            ∙ ap (along_at along (slice_get nodes m) 0) (sym (state_at s.0 m s.1))
      ]

-- ---- solutions of the flow

module _ {K : Type 0} {below : K → K → Type 0} {rules : Rules K} {along : Along K} (order : OrderRules below rules) (laws : AlongLaws below along) (zeros : List K) (nodes : List Node) (lists : List (List ℕ)) (entry : ℕ) (targets : List ℕ) (is : IsStateNet nodes lists entry targets) (within : AllWithin nodes) (no_entry : (m slot : ℕ) → IsEdge nodes m slot 0 → ⊥) where
  abbrev net : Net (NodeState K)
  net = state_net rules.height along zeros nodes lists entry targets

  abbrev Standing : ℕ → Type 0
  Standing n = (b : ℕ) × StandsIn lists b n

  listed_within : (b n : ℕ) → StandsIn lists b n → b < length lists
  listed_within b n s = slice_get_within lists b s.list s.listed

  edge_source : (n slot s : ℕ) → IsEdge nodes n slot s → Standing n
  edge_source n slot s edge = is.blocks.every n (slot_within nodes n slot s edge)

  edge_target : (n slot s : ℕ) → IsEdge nodes n slot s → Standing s
  edge_target n slot s edge = is.blocks.every s (within n slot s edge)

  -- where an edge leads to the first node of a block, it leaves the last of one
  leaves_last : (n slot s c : ℕ) (t : StandsIn lists c s) → t.place ≡ 0 → IsEdge nodes n slot s → (b : ℕ) (u : StandsIn lists b n) → Ends n u.list
  leaves_last n slot s c t first edge b u = elim (chain_on nodes u.list u.place n (is.blocks.blocks b u.list u.listed).chain u.is) as (λ _. Ends n u.list) [
    | inl ends ↦ ends
    | inr next ↦
        let same : s ≡ next.0 = only_to nodes n next.0 s next.2.leaves (slot, edge) in
        let begins : Begins s t.list = first_begins t.list s (subst (λ p. slice_get t.list p ≡ Some s) first t.is) in
        absurd ((is.blocks.blocks c t.list t.listed).first s begins n (subst (IsGlued nodes n) (sym same) next.2))
  ]

  -- and the last node of a block leads only to first nodes
  enters_first : (n slot s c b : ℕ) (t : StandsIn lists c s) (u : StandsIn lists b n) → Ends n u.list → IsEdge nodes n slot s → t.place ≡ 0
  enters_first n slot s c b t u ends edge = by_place t.place refl
    where
      by_place : (p : ℕ) → t.place ≡ p → t.place ≡ 0
      by_place zero e = e
      by_place (suc p) e =
          let before = chain_inner nodes t.list p s (is.blocks.blocks c t.list t.listed).chain (subst (λ q. slice_get t.list q ≡ Some s) e t.is) in
          let same : n ≡ before.0 = only_from nodes before.0 s n before.2.enters (slot, edge) in
          absurd ((is.blocks.blocks b u.list u.listed).last n ends s (subst (λ m. IsGlued nodes m s) (sym same) before.2))

  -- Start is the first node of its block
  entry_first : is.entry_is.place ≡ 0
  entry_first = by_place is.entry_is.place refl
    where
      by_place : (p : ℕ) → is.entry_is.place ≡ p → is.entry_is.place ≡ 0
      by_place zero e = e
      by_place (suc p) e =
          let before = chain_inner nodes is.entry_is.list p 0 (is.blocks.blocks entry is.entry_is.list is.entry_is.listed).chain (subst (λ q. slice_get is.entry_is.list q ≡ Some 0) e is.entry_is.is) in
          let edge = glued_edge nodes before.0 0 before.2 in
          absurd (no_entry before.0 edge.0 edge.1)

  -- the number of the edge at a slot of the last node of a block
  edge_low : (b slot : ℕ) → b < length lists → slot < 2 → 2 * b + slot < length targets
  edge_low b slot lt low = let long : length targets ≡ 2 * length lists = is.targets_are.long in omega arith

  module _ (v : ℕ → NodeState K) (solves : Solves (BelowState below) (state_net rules.height along zeros nodes lists entry targets) v) where
    abbrev states : ℕ → NodeState K
    states = state_of along nodes lists is.blocks v

    value_size : (b : ℕ) → b < length lists → size_of (v b) ≡ (length zeros)
    value_size b lt = sym (below_size order (net.first b) (v b) (solves.above_first b lt)) ∙ (net_laws order laws zeros nodes lists entry targets is).first_size b lt

    -- what leaves the last node of a block is below what is at its target
    out_below : (n slot s b c : ℕ) (node : Node) (u : StandsIn lists b n) (t : StandsIn lists c s) → Ends n u.list → t.place ≡ 0 → slice_get nodes n ≡ Some node → IsEdge nodes n slot s → BelowState below (along node slot (states n)) (states s)
    out_below n slot s b c node u t ends first here edge =
        let low : slot < 2 = slot_low node slot s (ap (λ o. slice_get (succs_of o) slot) (sym here) ∙ edge) in
        let few : 2 * b + slot < length targets = edge_low b slot (listed_within b n u) low in
        let long : length targets ≡ 2 * length lists = is.targets_are.long in
        let source_is : (2 * b + slot) / 2 ≡ b = half b slot low in
        let slot_is : (2 * b + slot) % 2 ≡ slot = odd b slot low in
        let list_is : block_at lists ((2 * b + slot) / 2) ≡ u.list = ap (block_at lists) source_is ∙ get_or_from_slice_get lists b u.list [] u.listed in
        let at : slice_get u.list (length u.list - 1) ≡ Some n = end_stands u.list n ends in
        let last_is : last_of u.list ≡ n = get_or_from_slice_get u.list (length u.list - 1) n 0 at in
        let place_is : length u.list - 1 ≡ u.place = one_place nodes u.list (length u.list - 1) u.place n (is.blocks.blocks b u.list u.listed) at u.is in
        let out_is : out_of along nodes u.list slot (v b) ≡ along node slot (states n) =
        ap (λ k. along_at along (slice_get nodes k) slot (through_nodes along nodes (take (length u.list - 1) u.list) (v b))) last_is
        ∙ ap (λ p. along_at along (slice_get nodes n) slot (through_nodes along nodes (take p u.list) (v b))) place_is
        ∙ ap (along_at along (slice_get nodes n) slot) (sym (state_at along nodes lists is.blocks v b n u)) ∙ ap (λ o. along_at along o slot (states n)) here in
        let to_target : StandsIn lists (number_at targets (2 * b + slot)) s =
        (is.targets_are.each (2 * b + slot) (omega arith)).leads s (subst (λ k. IsEdge nodes k ((2 * b + slot) % 2) s) (sym (ap last_of list_is ∙ last_is)) (subst (λ k. IsEdge nodes n k s) (sym slot_is) edge)) in
        let target_is : number_at targets (2 * b + slot) ≡ c = one_block nodes lists (number_at targets (2 * b + slot)) c s is.blocks to_target t in
        let above : BelowState below (out_of along nodes (block_at lists ((2 * b + slot) / 2)) ((2 * b + slot) % 2) (v ((2 * b + slot) / 2))) (v (number_at targets (2 * b + slot))) = solves.above_edges (2 * b + slot) few in
        let above1 = subst (λ l. BelowState below (out_of along nodes l ((2 * b + slot) % 2) (v ((2 * b + slot) / 2))) (v (number_at targets (2 * b + slot)))) list_is above in
        let above2 = subst (λ k. BelowState below (out_of along nodes u.list k (v ((2 * b + slot) / 2))) (v (number_at targets (2 * b + slot)))) slot_is above1 in
        let above3 = subst (λ k. BelowState below (out_of along nodes u.list slot (v k)) (v (number_at targets (2 * b + slot)))) source_is above2 in
        let above4 = subst (λ k. BelowState below (out_of along nodes u.list slot (v b)) (v k)) target_is above3 in
        let above5 = subst (λ x. BelowState below x (v c)) out_is above4 in
        subst (BelowState below (along node slot (states n))) (sym (state_first along nodes lists is.blocks v c s t first)) above5

    edge_below : (n slot s : ℕ) (node : Node) → slice_get nodes n ≡ Some node → IsEdge nodes n slot s → (c : ℕ) (t : StandsIn lists c s) (p : ℕ) → t.place ≡ p → BelowState below (along node slot (states n)) (states s)
    edge_below n slot s node here edge c t zero first =
        let u = edge_source n slot s edge in
        out_below n slot s u.0 c node u.1 t (leaves_last n slot s c t first edge u.0 u.1) first here edge
    edge_below n slot s node here edge c t (suc p) inner =
        let before = chain_inner nodes t.list p s (is.blocks.blocks c t.list t.listed).chain (subst (λ q. slice_get t.list q ≡ Some s) inner t.is) in
        let from : n ≡ before.0 = only_from nodes before.0 s n before.2.enters (slot, edge) in
        let glued : IsGlued nodes n s = subst (λ m. IsGlued nodes m s) (sym from) before.2 in
        let zero_is : slot ≡ 0 = only_slot s slot s (ap (λ l. slice_get l slot) (sym glued.leaves) ∙ edge) in
        let same : states s ≡ along node slot (states n) =
        state_glued along nodes lists is.blocks v n s glued ∙ ap (λ o. along_at along o 0 (states n)) here ∙ ap (λ k. along node k (states n)) (sym zero_is) in
        subst (BelowState below (along node slot (states n))) (sym same) (below_refl order (along node slot (states n)))

    states_size : (n : ℕ) → n < length nodes → (t : Standing n) → size_of (states n) ≡ (length zeros)
    states_size n lt t = ap size_of (state_at along nodes lists is.blocks v t.0 n t.1) ∙ through_size laws nodes (take t.1.place t.1.list) (v t.0) ∙ value_size t.0 (listed_within t.0 n t.1)

    entry_below : BelowState below (Knows zeros) (v entry)
    entry_below =
        let first : BelowState below (if nat_eq entry entry then Knows zeros else Unreached (length zeros)) (v entry) = solves.above_first entry (listed_within entry 0 is.entry_is) in
        subst (λ b. BelowState below (if b then Knows zeros else Unreached (length zeros)) (v entry)) (eq-eqb entry entry refl) first

    -- what solves the flow over blocks gives states of the graph
    pub are_states : AreStates below along zeros nodes states
    are_states = record {
      sizes = λ n lt. states_size n lt (is.blocks.every n lt);
      start = subst (BelowState below (Knows zeros)) (sym (state_first along nodes lists is.blocks v entry 0 is.entry_is entry_first)) entry_below;
      edges = λ n slot s node here edge. let t = edge_target n slot s edge in edge_below n slot s node here edge t.0 t.1 t.1.place refl;
    }

  -- ---- states of the graph give a solution of the flow

  module _ (others : ℕ → NodeState K) (are : AreStates below along zeros nodes others) where
    abbrev head : ℕ → ℕ
    head b = slice_index_or (block_at lists b) 0 0

    head_is : (b n : ℕ) (s : StandsIn lists b n) → s.place ≡ 0 → head b ≡ n
    head_is b n s first =
        ap (λ l. slice_index_or l 0 0) (get_or_from_slice_get lists b s.list [] s.listed) ∙ get_or_from_slice_get s.list 0 n 0 (subst (λ p. slice_get s.list p ≡ Some n) first s.is)

    -- what passes from the first node of a block is below what is at the others
    through_below : (list : List ℕ) (h : ℕ) → IsChain nodes list → slice_get list 0 ≡ Some h → (i n : ℕ) → slice_get list i ≡ Some n → BelowState below (through_nodes along nodes (take i list) (others h)) (others n)
    through_below list h chain begins zero n at = let same : h ≡ n = cc in subst (λ k. BelowState below (others h) (others k)) same (below_refl order (others h))
    through_below list h chain begins (suc i) n at =
        let before = chain_inner nodes list i n chain at in
        let edge : IsEdge nodes before.0 0 n = ap (λ l. slice_get l 0) before.2.leaves in
        let node = some_at nodes before.0 (slot_within nodes before.0 0 n edge) in
        let so_far = through_below list h chain begins i before.0 before.1 in
        let passed = at_rises laws (slice_get nodes before.0) 0 _ _ so_far in
        let on : BelowState below (along node.0 0 (others before.0)) (others n) = are.edges before.0 0 n node.0 node.1 edge in
        let on' : BelowState below (along_at along (slice_get nodes before.0) 0 (others before.0)) (others n) = subst (λ o. BelowState below (along_at along o 0 (others before.0)) (others n)) (sym node.1) on in
        let both = below_trans order _ _ _ passed on' in
        let is_more : through_nodes along nodes (take (suc i) list) (others h) ≡ along_at along (slice_get nodes before.0) 0 (through_nodes along nodes (take i list) (others h)) =
        ap (λ l. through_nodes along nodes l (others h)) (take_next list i before.0 before.1) ∙ through_more along nodes (take i list) before.0 (others h) in
        subst (λ x. BelowState below x (others n)) (sym is_more) both

    -- the first node of a block
    head_stands : (b : ℕ) → b < length lists → StandsIn lists b (head b)
    head_stands b low =
        let list = some_at lists b low in
        let h = begin_of nodes list.0 (is.blocks.blocks b list.0 list.1).chain in
        let same : head b ≡ h.0 = ap (λ l. slice_index_or l 0 0) (get_or_from_slice_get lists b list.0 [] list.1) ∙ get_or_from_slice_get list.0 0 h.0 0 h.2 in
        record { list = list.0; listed = list.1; place = 0; is = h.2 ∙ ap Some (sym same) }

    -- and what leaves the last node is below what is at the target
    leaving_below : (b n slot target : ℕ) (node : Node) (u : StandsIn lists b n) → Ends n u.list → slice_get nodes n ≡ Some node → target < length lists → ((s : ℕ) → IsEdge nodes n slot s → StandsIn lists target s)
        → BelowState below (along node slot (others n)) (others (head target))
    leaving_below b n slot target node u ends here low leads = by_slot (slice_get (node_succs node) slot) refl
      where
        sized : size_of (others n) ≡ (length zeros)
        sized = are.sizes n (slice_get_within nodes n node here)

        by_slot : (o : Option ℕ) → slice_get (node_succs node) slot ≡ o → BelowState below (along node slot (others n)) (others (head target))
        by_slot None e =
            subst (λ x. BelowState below x (others (head target))) (sym (laws.no_edge node slot (others n) e))
            (unreached_below order (size_of (others n)) (others (head target)) (sized ∙ sym (are.sizes (head target) (stands_within along nodes lists is.blocks others target (head target) (head_stands target low)))))
        by_slot (Some s) e =
            let edge : IsEdge nodes n slot s = ap (λ o. slice_get (succs_of o) slot) here ∙ e in
            let t = leads s edge in
            let first = enters_first n slot s target b t u ends edge in
            subst (λ k. BelowState below (along node slot (others n)) (others k)) (sym (head_is target s t first)) (are.edges n slot s node here edge)

    abbrev heads : ℕ → NodeState K
    heads b = others (head b)

    block_of_number : (b : ℕ) → b < length lists → (list : List ℕ) × (slice_get lists b ≡ Some list)
    block_of_number b lt = some_at lists b lt

    out_is_below : (e b : ℕ) → e < length targets → e / 2 ≡ b → BelowState below (out_of along nodes (block_at lists (e / 2)) (e % 2) (heads (e / 2))) (heads (number_at targets e))
    out_is_below e b few source_is =
        let long : length targets ≡ 2 * length lists = is.targets_are.long in
        let b_low : e / 2 < length lists = omega arith in
        let list = block_of_number (e / 2) b_low in
        let block = is.blocks.blocks (e / 2) list.0 list.1 in
        let list_is : block_at lists (e / 2) ≡ list.0 = get_or_from_slice_get lists (e / 2) list.0 [] list.1 in
        let h = begin_of nodes list.0 block.chain in
        let m = chain_ends nodes list.0 block.chain in
        let at : slice_get list.0 (length list.0 - 1) ≡ Some m.0 = end_stands list.0 m.0 m.1 in
        let last_is : last_of list.0 ≡ m.0 = get_or_from_slice_get list.0 (length list.0 - 1) m.0 0 at in
        let u : StandsIn lists (e / 2) m.0 = record { list = list.0; listed = list.1; place = length list.0 - 1; is = at } in
        let first : StandsIn lists (e / 2) h.0 = record { list = list.0; listed = list.1; place = 0; is = h.2 } in
        let head_at : head (e / 2) ≡ h.0 = head_is (e / 2) h.0 first refl in
        let m_low : m.0 < length nodes = stands_within along nodes lists is.blocks others (e / 2) m.0 u in
        let node = some_at nodes m.0 m_low in
        let target = is.targets_are.each e (omega arith) in
        let leads : (s : ℕ) → IsEdge nodes m.0 (e % 2) s → StandsIn lists (number_at targets e) s = λ s edge. target.leads s (subst (λ k. IsEdge nodes k (e % 2) s) (sym (ap last_of list_is ∙ last_is)) edge) in
        let so_far : BelowState below (through_nodes along nodes (take (length list.0 - 1) list.0) (others h.0)) (others m.0) = through_below list.0 h.0 block.chain h.2 (length list.0 - 1) m.0 at in
        let passed = at_rises laws (slice_get nodes m.0) (e % 2) _ _ so_far in
        let on = leaving_below (e / 2) m.0 (e % 2) (number_at targets e) node.0 u m.1 node.1 target.within leads in
        let on' : BelowState below (along_at along (slice_get nodes m.0) (e % 2) (others m.0)) (heads (number_at targets e)) = subst (λ o. BelowState below (along_at along o (e % 2) (others m.0)) (heads (number_at targets e))) (sym node.1) on in
        let both = below_trans order _ _ _ passed on' in
        let same : out_of along nodes (block_at lists (e / 2)) (e % 2) (heads (e / 2)) ≡ along_at along (slice_get nodes m.0) (e % 2) (through_nodes along nodes (take (length list.0 - 1) list.0) (others h.0)) =
        ap (λ l. out_of along nodes l (e % 2) (heads (e / 2))) list_is ∙ ap (λ k. out_of along nodes list.0 (e % 2) (others k)) head_at
        ∙ ap (λ k. along_at along (slice_get nodes k) (e % 2) (through_nodes along nodes (take (length list.0 - 1) list.0) (others h.0))) last_is in
        subst (λ x. BelowState below x (heads (number_at targets e))) (sym same) both

    first_below : (b : ℕ) → b < length lists → (c : Bool) → nat_eq b entry ≡ c → BelowState below (if c then Knows zeros else Unreached (length zeros)) (heads b)
    first_below b lt true e =
        let same : b ≡ entry = eqb-true b entry e in
        let at : head b ≡ 0 = ap head same ∙ head_is entry 0 is.entry_is entry_first in
        subst (λ k. BelowState below (Knows zeros) (others k)) (sym at) are.start
    first_below b lt false e =
        let list = block_of_number b lt in
        let h = begin_of nodes list.0 (is.blocks.blocks b list.0 list.1).chain in
        let s : StandsIn lists b h.0 = record { list = list.0; listed = list.1; place = 0; is = h.2 } in
        let at : head b ≡ h.0 = head_is b h.0 s refl in
        unreached_below order (length zeros) (heads b) (sym (ap (λ k. size_of (others k)) at ∙ are.sizes h.0 (stands_within along nodes lists is.blocks others b h.0 s)))

    pub heads_solve : Solves (BelowState below) (state_net rules.height along zeros nodes lists entry targets) heads
    heads_solve = record {
      above_first = λ b lt. first_below b lt (nat_eq b entry) refl;
      above_edges = λ e few. out_is_below e (e / 2) few refl;
    }

  -- the least solution of the flow gives the least states
  module _ (v : ℕ → NodeState K) (least : IsLeastSolution (BelowState below) (state_net rules.height along zeros nodes lists entry targets) v) where
    below_others : (others : ℕ → NodeState K) → AreStates below along zeros nodes others → (n : ℕ) → (t : Standing n) → BelowState below (state_of along nodes lists is.blocks v n) (others n)
    below_others others are n t =
        let block = is.blocks.blocks t.0 t.1.list t.1.listed in
        let h = begin_of nodes t.1.list block.chain in
        let first : StandsIn lists t.0 h.0 = record { list = t.1.list; listed = t.1.listed; place = 0; is = h.2 } in
        let at_head : BelowState below (v t.0) (others (head others are t.0)) = least.least (heads others are) (heads_solve others are) t.0 (listed_within t.0 n t.1) in
        let at_head' : BelowState below (v t.0) (others h.0) = subst (λ k. BelowState below (v t.0) (others k)) (head_is others are t.0 h.0 first refl) at_head in
        let passed = through_rises laws nodes (take t.1.place t.1.list) (v t.0) (others h.0) at_head' in
        let on = through_below others are t.1.list h.0 block.chain h.2 t.1.place n t.1.is in
        subst (λ x. BelowState below x (others n)) (sym (state_at along nodes lists is.blocks v t.0 n t.1)) (below_trans order _ _ _ passed on)

    pub are_least : AreLeastStates below along zeros nodes (state_of along nodes lists is.blocks v)
    are_least = record {
      are = are_states v least.solves;
      least = λ others are n lt. below_others others are n (is.blocks.every n lt);
    }
