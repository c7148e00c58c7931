-- The nodes of the blocks, rewritten one after the other, and what is known before a node.
use Rattle.std.proofs.Common.{◌≡◌, ℕ, ◌+◌, ◌<◌, ◌⊎◌, inl, inr, List, length, take, slice_get, slice_set, Bool, Option, Some, Vec, option_map, sym, ap, ◌∙◌, subst, arith}
use Rattle.std.proofs.lemmas.Bool.{cases_eq, cases_lt}
use Rattle.std.proofs.lemmas.List.{length-set, get_or_default}
use Rattle.std.proofs.lemmas.Option.{same_Some, slice_get_past, slice_get_within}
use Rattle.fix_solve.specs.Net.{value_at}
use Rattle.flow_graph.specs.declared.nodes.Node.{Node}
use Rattle.flow_graph.specs.Blocks.{BlocksShape, StandsIn}
use Rattle.flow_graph.specs.Graphs.{AllWithin, GraphShape, IsEdge}
use Rattle.flow_graph.specs.ListLaws.{set_here, set_elsewhere, some_at}
use Rattle.flow_graph.specs.OneLaws.{same_places}
use Rattle.cond_flow.specs.Rules.{Rules, OrderRules, RisingRules}
use Rattle.cond_flow.specs.States.{NodeState, Unreached, size_of, state_where}
use Rattle.cond_flow.specs.FlowLaws.{where_size}
use Rattle.cond_flow.specs.PassingLaws.{length_first}
use Rattle.cond_flow.specs.Handing.{AreHanded}
use Rattle.cond_flow.specs.KnownBefore.{AreKnownBefore, IsKnownBefore, PassesTo, state_of_known}
use Rattle.cond_flow.specs.Telling.{IsToldAt, IsToldOf, Teller, TellsBlock, TellsBlocks, TellsHanded, TellsStates}
use Rattle.cond_flow.specs.Passing.{first_known, passed_along}
use Rattle.cond_flow.specs.Becoming.{becomes_at, nodes_become}
use Rattle.cond_flow.specs.BecomingLaws.{become_get, length_become}
use Rattle.cond_flow.specs.Solutions.{HasLeastStates}
use Rattle.cond_flow.specs.PassingLaws.{passing_laws}
use Rattle.cond_flow.specs.Blockwise.{Along, AreLeastOver, net_in, through_nodes}
use Rattle.cond_flow.specs.Rewriting.{AreThrough, AreThroughBlocks, HasBecome, HaveBecome, IsAmong, RewritesBlock, RewritesBlocks, value_of}
use Rattle.cond_flow.proofs.Nodewise.{are_least, state_at, state_of}

-- ---- the nodes of one block

module _ {K : Type 0} (rules : Rules K) (along : Along K) (nodes : List Node) (list : List ℕ) (s : NodeState K) (old : List Node) where
  -- the next node
  pub rewrites_more : (i n : ℕ) (node : Node) (t : NodeState K) (made new : List Node) → RewritesBlock rules along nodes list s i old made → slice_get list i ≡ Some n → slice_get nodes n ≡ Some node → t ≡ through_nodes along nodes (take i list) s → n < length made → new ≡ slice_set made n (becomes_at rules t node) → RewritesBlock rules along nodes list s (i + 1) old new
  rewrites_more i n node t made new so_far at here state_is lt new_is = record {
    long = ap length new_is ∙ length-set made n (becomes_at rules t node) ∙ so_far.long;
    become = become;
  }
    where
      become : (states : ℕ → NodeState K) → AreThrough along nodes list s states → (m : ℕ) → HasBecome rules states nodes old m ⊎ IsAmong list (i + 1) m → HasBecome rules states nodes new m
      become states are m known = elim (cases_eq m n) as (λ _. HasBecome rules states nodes new m) [
        | inl same ↦ λ other there.
            let is_node : node ≡ other = same_Some node other (sym here ∙ ap (slice_get nodes) (sym same) ∙ there) in
            let its_state : t ≡ states m = state_is ∙ sym (are i n at) ∙ ap states (sym same) in
            ap (slice_get new) same ∙ ap (λ l. slice_get l n) new_is ∙ set_here made n (becomes_at rules t node) lt ∙ ap (λ x. Some (becomes_at rules x node)) its_state ∙ ap (λ x. Some (becomes_at rules (states m) x)) is_node
        | inr apart ↦ λ other there.
            let before = so_far.become states are m (earlier m apart known) other there in
            ap (λ l. slice_get l m) new_is ∙ set_elsewhere made n m (becomes_at rules t node) apart ∙ before
      ]
        where
          earlier : (m : ℕ) → (m ≡ n → ⊥) → HasBecome rules states nodes old m ⊎ IsAmong list (i + 1) m → HasBecome rules states nodes old m ⊎ IsAmong list i m
          earlier m apart (inl before) = inl before
          earlier m apart (inr among) = elim (cases_eq among.0 i) as (λ _. HasBecome rules states nodes old m ⊎ IsAmong list i m) [
            | inl e ↦ absurd (apart (same_Some m n (sym among.2 ∙ ap (slice_get list) e ∙ at)))
            | inr d ↦ let lt : among.0 < i + 1 = among.1 in inr (among.0, omega (arith, lt, d), among.2)
          ]

-- ---- the nodes of all blocks

module _ {K : Type 0} (rules : Rules K) (along : Along K) (nodes : List Node) (lists : List (List ℕ)) (values : List (NodeState K)) where
  -- the next block
  pub blocks_more : (b : ℕ) (list : List ℕ) (s : NodeState K) (made new : List Node) → RewritesBlocks rules along nodes lists values b made → slice_get lists b ≡ Some list → s ≡ value_of values b → RewritesBlock rules along nodes list s (length list) made new → RewritesBlocks rules along nodes lists values (b + 1) new
  blocks_more b list s made new so_far listed state_is block = record {
    long = block.long ∙ so_far.long;
    become = λ states are c i n other lt listed' at.
        let through_block : AreThrough along nodes list s states = subst (λ x. AreThrough along nodes list x states) (sym state_is) (are b list listed) in
        elim (cases_eq c b) as (λ _. HasBecome rules states nodes new n) [
          | inl same ↦
              let is_list : other ≡ list = same_Some other list (sym listed' ∙ ap (slice_get lists) same ∙ listed) in
              let at' : slice_get list i ≡ Some n = subst (λ l. slice_get l i ≡ Some n) is_list at in
              block.become states through_block n (inr (i, slice_get_within list i n at', at'))
          | inr apart ↦ block.become states through_block n (inl (so_far.become states are c i n other (omega (arith, lt, apart)) listed' at))
        ];
  }

-- what is told of the next node
module _ {K : Type 0} {B : Type 0} (Tells : Teller K B) (along : Along K) (nodes : List Node) (list : List ℕ) (s : NodeState K) (old : List B) where
  pub tells_more : (i n : ℕ) (t : NodeState K) (all new : List B) → TellsBlock Tells along nodes list s i old all → slice_get list i ≡ Some n → t ≡ through_nodes along nodes (take i list) s → n < length all → IsToldOf Tells n t all new → TellsBlock Tells along nodes list s (i + 1) old new
  tells_more i n t all new so_far at state_is lt put = record {
    long = ap length put.2 ∙ length-set all n put.0 ∙ so_far.long;
    tells = λ states are m known. elim (cases_eq m n) as (λ _. IsToldAt Tells states new m) [
      | inl same ↦ λ told there.
          let its_state : t ≡ states m = state_is ∙ sym (are i n at) ∙ ap states (sym same) in
          let here : slice_get new m ≡ Some put.0 = ap (slice_get new) same ∙ ap (λ l. slice_get l n) put.2 ∙ set_here all n put.0 lt in
          subst (Tells m (states m)) (same_Some put.0 told (sym here ∙ there)) (subst (λ k. Tells k (states m) put.0) (sym same) (subst (λ x. Tells n x put.0) its_state put.1))
      | inr apart ↦ λ told there.
          so_far.tells states are m (earlier states m apart known) told (sym (ap (λ l. slice_get l m) put.2 ∙ set_elsewhere all n m put.0 apart) ∙ there)
    ];
  }
    where
      earlier : (states : ℕ → NodeState K) (m : ℕ) → (m ≡ n → ⊥) → IsToldAt Tells states old m ⊎ IsAmong list (i + 1) m → IsToldAt Tells states old m ⊎ IsAmong list i m
      earlier states m apart (inl before) = inl before
      earlier states m apart (inr among) = elim (cases_eq among.0 i) as (λ _. IsToldAt Tells states old m ⊎ IsAmong list i m) [
        | inl e ↦ absurd (apart (same_Some m n (sym among.2 ∙ ap (slice_get list) e ∙ at)))
        | inr d ↦ let lt : among.0 < i + 1 = among.1 in inr (among.0, omega (arith, lt, d), among.2)
      ]

module _ {K : Type 0} {B : Type 0} (Tells : Teller K B) (along : Along K) (nodes : List Node) (lists : List (List ℕ)) (values : List (NodeState K)) where
  -- the next block of which is told
  pub tell_blocks_more : (b : ℕ) (list : List ℕ) (s : NodeState K) (all new : List B) → TellsBlocks Tells along nodes lists values b all → slice_get lists b ≡ Some list → s ≡ value_of values b → TellsBlock Tells along nodes list s (length list) all new → TellsBlocks Tells along nodes lists values (b + 1) new
  tell_blocks_more b list s all new so_far listed state_is block = record {
    long = block.long ∙ so_far.long;
    tells = λ states are c i n other lt listed' at.
        let through_block : AreThrough along nodes list s states = subst (λ x. AreThrough along nodes list x states) (sym state_is) (are b list listed) in
        elim (cases_eq c b) as (λ _. IsToldAt Tells states new n) [
          | inl same ↦
              let is_list : other ≡ list = same_Some other list (sym listed' ∙ ap (slice_get lists) same ∙ listed) in
              let at' : slice_get list i ≡ Some n = subst (λ l. slice_get l i ≡ Some n) is_list at in
              block.tells states through_block n (inr (i, slice_get_within list i n at', at'))
          | inr apart ↦ block.tells states through_block n (inl (so_far.tells states are c i n other (omega (arith, lt, apart)) listed' at))
        ];
  }

-- once all blocks are done, the nodes are folded by the least states
module _ {K : Type 0} {below : K → K → Type 0} {rules : Rules K} (order : OrderRules below rules) (rising : RisingRules below rules) (graph : GraphShape) (blocks : BlocksShape) (values : List (NodeState K)) (within : AllWithin graph.nodes) (no_entry : (m slot : ℕ) → IsEdge graph.nodes m slot 0 → ⊥) (are : AreLeastOver below rules graph blocks values) where
  abbrev value : ℕ → NodeState K
  value b = value_at (net_in rules graph blocks are.entry are.targets) values b

  abbrev states : ℕ → NodeState K
  states n = state_of (passed_along rules graph.shared graph.received) graph.nodes blocks.lists are.is_net.blocks value n

  all_through : AreThroughBlocks (passed_along rules graph.shared graph.received) graph.nodes blocks.lists values states
  all_through b list listed i n at =
      let s : StandsIn blocks.lists b n = record { list = list; listed = listed; place = i; is = at } in
      let b_low : b < length values = omega (arith, slice_get_within blocks.lists b list listed, are.long) in
      state_at (passed_along rules graph.shared graph.received) graph.nodes blocks.lists are.is_net.blocks value b n s
      ∙ ap (through_nodes (passed_along rules graph.shared graph.received) graph.nodes (take i list)) (get_or_default values b ((net_in rules graph blocks are.entry are.targets).first b) (Unreached 0) b_low)

  least_states : HasLeastStates below rules graph states
  least_states = are_least order (passing_laws order rising graph.shared graph.received) (first_known rules graph.shared (length graph.vars)) graph.nodes blocks.lists are.entry are.targets are.is_net within no_entry value are.least

  -- what passes to a node from the first node of its block is what is known before the node
  pub passes_known : (b node : ℕ) (list : List ℕ) (s : NodeState K) (reaches : Bool) (known : List K) (told : Option (List K)) → node < length graph.nodes → slice_get blocks.lists b ≡ Some list → s ≡ value_of values b
      → PassesTo rules graph list node s (state_where reaches known) → state_of_known (length known) told ≡ state_where reaches known → IsKnownBefore below rules graph node told
  passes_known b node list s reaches known told lt listed state_is passes told_is =
      let here : states node ≡ state_where reaches known = all_through b list listed passes.place node passes.stands ∙ ap (through_nodes (passed_along rules graph.shared graph.received) graph.nodes (take passes.place list)) (sym state_is) ∙ sym passes.passes in
      let long : length known ≡ length graph.vars = sym (where_size reaches known) ∙ ap size_of (sym here) ∙ least_states.are.sizes node lt ∙ length_first rules graph.shared (length graph.vars) in
      record {
        states = states;
        least = least_states;
        here = here ∙ sym told_is ∙ ap (λ n. state_of_known n told) long;
      }

  -- once all blocks are told of, so are all nodes
  pub all_told : {A : Type 0} (all : List (Option (Vec K A))) → TellsBlocks TellsStates (passed_along rules graph.shared graph.received) graph.nodes blocks.lists values (length blocks.lists) all → AreKnownBefore below rules graph all
  all_told all tells = λ n known there.
      let lt : n < length graph.nodes = omega (arith, slice_get_within all n known there, tells.long) in
      let stands = are.is_net.blocks.every n lt in
      let told = tells.tells states all_through stands.0 stands.1.place n stands.1.list (slice_get_within blocks.lists stands.0 stands.1.list stands.1.listed) stands.1.listed stands.1.is known there in
      record {
        states = states;
        least = least_states;
        here = told ∙ ap (λ size. state_of_known size (option_map (λ list. list.items) known)) (least_states.are.sizes n lt ∙ length_first rules graph.shared (length graph.vars));
      }

  -- and once all hand over what they do
  pub all_handed : {A : Type 0} (all : List (Option (Vec K A))) → TellsBlocks (TellsHanded rules graph) (passed_along rules graph.shared graph.received) graph.nodes blocks.lists values (length blocks.lists) all → AreHanded below rules graph all
  all_handed {A = A} all tells = record {
    states = states;
    least = least_states;
    long = tells.long;
    each = λ n node here.
        let lt : n < length graph.nodes = slice_get_within graph.nodes n node here in
        let stands = are.is_net.blocks.every n lt in
        λ told there. tells.tells states all_through stands.0 stands.1.place n stands.1.list (slice_get_within blocks.lists stands.0 stands.1.list stands.1.listed) stands.1.listed stands.1.is told there node here;
  }

  module _ (made : List Node) (folds : RewritesBlocks rules (passed_along rules graph.shared graph.received) graph.nodes blocks.lists values (length blocks.lists) made) where
    by_place : (n : ℕ) → slice_get made n ≡ slice_get (nodes_become rules states graph.nodes) n
    by_place n = elim (cases_lt n (length graph.nodes)) as (λ _. slice_get made n ≡ slice_get (nodes_become rules states graph.nodes) n) [
      | inl lt ↦
          let node = some_at graph.nodes n lt in
          let s = are.is_net.blocks.every n lt in
          folds.become states all_through s.0 s.1.place n s.1.list (slice_get_within blocks.lists s.0 s.1.list s.1.listed) s.1.listed s.1.is node.0 node.1
          ∙ sym (become_get rules states graph.nodes n ∙ ap (option_map (becomes_at rules (states n))) node.1)
      | inr ge ↦ slice_get_past made n (omega (arith, ge, folds.long)) ∙ sym (slice_get_past (nodes_become rules states graph.nodes) n (omega (arith, ge, length_become rules states graph.nodes)))
    ]

    pub blocks_all : HaveBecome below rules graph made
    blocks_all = record {
      states = states;
      least = least_states;
      are = same_places made (nodes_become rules states graph.nodes) by_place;
    }
