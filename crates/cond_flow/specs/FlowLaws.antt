-- The flow over blocks keeps the laws of flows. Cited by the ghost members of `StateFlow`.
use Rattle.std.proofs.Common.{◌≡◌, ℕ, ◌+◌, ◌*◌, ◌-◌, ◌<◌, ◌/◌, ◌%◌, Bool, true, false, nat_eq, List, [], ◌∷◌, length, take, slice_get, Option, Some, None, refl, ◌∙◌, subst, arith, ◌≤◌}
use Rattle.fix_solve.specs.Net.{NetLaws}
use Rattle.flow_graph.specs.declared.nodes.Node.{Node}
use Rattle.cond_flow.specs.declared.flow.StateFlow.{StateFlow}
use Rattle.cond_flow.specs.Rules.{Rules, OrderRules, RisingRules}
use Rattle.cond_flow.specs.States.{NodeState, BelowState, size_of, state_rank, state_where}
use Rattle.cond_flow.specs.Passing.{first_known}
use Rattle.cond_flow.specs.Blockwise.{Along, AlongLaws, along_at, through_nodes, last_of, out_of, block_at, state_net, IsStateNet}
use Rattle.cond_flow.specs.Flows.{IsStateFlow, net_of}
use Rattle.cond_flow.specs.StateLaws.{rank_bound}
use Rattle.cond_flow.specs.Outsides.{outside_of, rules_in}
use Rattle.cond_flow.specs.PassingLaws.{passing_laws}
use Rattle.cond_flow.specs.WithinLaws.{order_within, rising_within}

-- ---- what passes through nodes

module _ {K : Type 0} {below : K → K → Type 0} {along : Along K} (laws : AlongLaws below along) where
  -- the number of variables stays
  pub at_size : (o : Option Node) (slot : ℕ) (s : NodeState K) → size_of (along_at along o slot s) ≡ size_of s
  at_size None slot s = refl
  at_size (Some node) slot s = laws.sized node slot s

  -- the surer the state, the surer what passes
  pub at_rises : (o : Option Node) (slot : ℕ) (s t : NodeState K) → BelowState below s t
      → BelowState below (along_at along o slot s) (along_at along o slot t)
  at_rises None slot s t p = p
  at_rises (Some node) slot s t p = laws.rises node slot s t p

  -- the same of what passes through several nodes
  pub through_size : (nodes : List Node) (list : List ℕ) (s : NodeState K)
      → size_of (through_nodes along nodes list s) ≡ size_of s
  through_size nodes [] s = refl
  through_size nodes (n ∷ list) s =
      through_size nodes list (along_at along (slice_get nodes n) 0 s) ∙ at_size (slice_get nodes n) 0 s

  -- and it rises
  pub through_rises : (nodes : List Node) (list : List ℕ) (s t : NodeState K) → BelowState below s t
      → BelowState below (through_nodes along nodes list s) (through_nodes along nodes list t)
  through_rises nodes [] s t p = p
  through_rises nodes (n ∷ list) s t p =
      through_rises nodes list (along_at along (slice_get nodes n) 0 s) (along_at along (slice_get nodes n) 0 t)
      (at_rises (slice_get nodes n) 0 s t p)

  -- the same of what leaves a block
  pub out_size : (nodes : List Node) (list : List ℕ) (slot : ℕ) (s : NodeState K)
      → size_of (out_of along nodes list slot s) ≡ size_of s
  out_size nodes list slot s =
      at_size (slice_get nodes (last_of list)) slot _ ∙ through_size nodes (take (length list - 1) list) s

  -- and it rises
  pub out_rises : (nodes : List Node) (list : List ℕ) (slot : ℕ) (s t : NodeState K) → BelowState below s t
      → BelowState below (out_of along nodes list slot s) (out_of along nodes list slot t)
  out_rises nodes list slot s t p =
      at_rises (slice_get nodes (last_of list)) slot _ _ (through_rises nodes (take (length list - 1) list) s t p)

-- ---- the flow

-- a state by a truth value and a list speaks of the variables of the list
pub where_size : {K : Type 0} (reached : Bool) (known : List K) → size_of (state_where reached known) ≡ length known
where_size true known = refl
where_size false known = refl

-- sizes are kept and the transfers are monotone, so the flow over blocks keeps the laws
pub net_laws : {K : Type 0} {below : K → K → Type 0} {rules : Rules K} {along : Along K} (order : OrderRules below rules)
    (laws : AlongLaws below along) (zeros : List K) (nodes : List Node) (lists : List (List ℕ)) (entry : ℕ)
    (targets : List ℕ) → IsStateNet nodes lists entry targets
    → NetLaws (BelowState below) size_of (state_rank rules.rank) (state_net rules.height along zeros nodes lists entry targets)
net_laws {rules = rules} order laws zeros nodes lists entry targets is =
    let long : length targets ≡ 2 * length lists = is.targets_are.long in
    record {
      sources = λ e h. let h' : e < length targets = h in omega arith;
      targets = λ e h. let h' : e < length targets = h in (is.targets_are.each e (omega arith)).within;
      starts = λ b h. let h' : b < length lists = h in omega arith;
      stops = λ b h. let h' : b < length lists = h in omega arith;
      within = λ b e h late early. omega (arith, late, early);
      from_start = λ e h. omega arith;
      to_stop = λ e h. omega arith;
      first_size = λ b h. where_size (nat_eq b entry) zeros;
      transfer_size = λ e s h sized. out_size laws nodes (block_at lists (e / 2)) (e % 2) s ∙ sized;
      monotone = λ e s t h sized p. out_rises laws nodes (block_at lists (e / 2)) (e % 2) s t p;
      ranks = λ s sized. ranks s sized;
    }
  where
    ranks : (s : NodeState _) → size_of s ≡ length zeros → state_rank rules.rank s ≤ rules.height * length zeros + 1
    ranks s sized = subst (λ n. state_rank rules.rank s ≤ rules.height * n + 1) sized (rank_bound order s)

-- the same of the flow as `StateFlow` has it
pub flow_laws : {K : Type 0} {below : K → K → Type 0} {rules : Rules K} (order : OrderRules below rules)
    (rising : RisingRules below rules) {L : Type 0} (f : StateFlow K L) → IsStateFlow rules f
    → NetLaws (BelowState below) size_of (state_rank rules.rank) (net_of rules f)
flow_laws {rules = rules} order rising f is =
    let order' = order_within (outside_of f.outside.now) order in
    let rising' = rising_within (outside_of f.outside.now) rising in
    net_laws order' (passing_laws order' rising' f.graph.now.shared f.graph.now.received)
    (first_known (rules_in f.outside.now rules) f.graph.now.shared (length f.graph.now.vars)) f.graph.now.nodes
    f.blocks.now.lists f.entry f.targets.now is.is_net
