-- The graph that is made as a whole: exactly the nodes whose state is reached are kept, and divisions stay.
use Rattle.std.proofs.Common.{◌≡◌, ◌↔◌, ℕ, ◌<◌, Bool, true, false, if◌then◌else◌, List, length, slice_get, slice_index_or, Option, Some, None, option_map, refl, sym, ap, ◌∙◌, subst, arith, ℤ}
use Rattle.std.proofs.lemmas.Bool.{and_parts}
use Rattle.std.proofs.lemmas.Option.{slice_get_within, slice_get-get_or, get_or_from_slice_get, slice_get-map}
use Rattle.mir_base.specs.declared.operators.Op.{Op}
use Rattle.mir_base.specs.declared.instructions.Operand.{Operand}
use Rattle.mir_base.specs.declared.instructions.Rhs.TheVariants.{Binary}
use Rattle.mir_base.specs.Numbers.{is_dividing}
use Rattle.mir_base.specs.Expressions.{may_be_zero}
use Rattle.flow_graph.specs.declared.nodes.Node.{Node}
use Rattle.flow_graph.specs.declared.nodes.Node.TheVariants.{Assign}
use Rattle.flow_graph.specs.Dividing.{DividesOf}
use Rattle.flow_graph.specs.Graphs.{AllWithin, GraphShape, IsEdge, Reached as IsReachedNode, at_start, along as goes_along, node_succs, succs_of}
use Rattle.flow_graph.specs.Retained.{AreRetained, IsMade, marked, marked_below, redirected}
use Rattle.flow_graph.specs.RetainedLaws.{at_rank, rank_below}
use Rattle.cond_flow.specs.Rules.{Rules, OrderRules, RewritingRules}
use Rattle.cond_flow.specs.States.{NodeState, Unreached, Knows, BelowState, is_reached, size_of}
use Rattle.cond_flow.specs.StateLaws.{unreached_below}
use Rattle.cond_flow.specs.Passing.{first_known, known_after, passed_along, passes}
use Rattle.cond_flow.specs.Becoming.{becomes_at, node_becomes, nodes_become}
use Rattle.cond_flow.specs.BecomingLaws.{become_get, length_become}
use Rattle.cond_flow.specs.Solutions.{AreStates, HasLeastStates}
use Rattle.cond_flow.specs.Rewritten.{IsRewritten, KeepsDivisions}
use Rattle.cond_flow.proofs.Shapes.{node_back, node_on}

-- a state that is reached
known_of_reached : {K : Type 0} (s : NodeState K) → is_reached s ≡ true → (ks : List K) × (s ≡ Knows ks)
known_of_reached (Unreached n) h = cc
known_of_reached (Knows ks) h = (ks, refl)

-- what is above it is reached
above_reached : {K : Type 0} (below : K → K → Type 0) (ks : List K) (t : NodeState K) → BelowState below (Knows ks) t → is_reached t ≡ true
above_reached below ks (Unreached n) p = absurd p
above_reached below ks (Knows ls) p = refl

-- ---- what is reached

module _ {K : Type 0} {below : K → K → Type 0} {rules : Rules K} (order : OrderRules below rules) (shared : ℕ) (received : List ℕ) (nodes : List Node) (size : ℕ) (states : ℕ → NodeState K) (are : AreStates below (passed_along rules shared received) (first_known rules shared size) nodes states) where
  abbrev zeros_long : ℕ
  zeros_long = length (first_known rules shared size)

  abbrev after : List Node
  after = nodes_become rules states nodes

  folded_here : (n : ℕ) (ks : List K) → states n ≡ Knows ks → slice_get after n ≡ option_map (node_becomes rules ks) (slice_get nodes n)
  folded_here n ks known = become_get rules states nodes n ∙ ap (λ s. option_map (becomes_at rules s) (slice_get nodes n)) known

  -- along an edge that passes a state a node is reached
  passed : (n slot s : ℕ) (ks : List K) (node : Node) → states n ≡ Knows ks → slice_get nodes n ≡ Some node → slice_get (node_succs node) slot ≡ Some s → passes rules node slot ks ≡ true → is_reached (states s) ≡ true
  passed n slot s ks node known here leads passing =
      let edge : IsEdge nodes n slot s = ap (λ o. slice_get (succs_of o) slot) here ∙ leads in
      let above : BelowState below (passed_along rules shared received node slot (states n)) (states s) = are.edges n slot s node here edge in
      let above' : BelowState below (passed_along rules shared received node slot (Knows ks)) (states s) = subst (λ t. BelowState below (passed_along rules shared received node slot t) (states s)) known above in
      let above'' : BelowState below (Knows (known_after rules shared received node slot ks)) (states s) = subst (λ b. BelowState below (if b then Knows (known_after rules shared received node slot ks) else Unreached (length ks)) (states s)) passing above' in
      above_reached below (known_after rules shared received node slot ks) (states s) above''

  leads_on : (n slot s : ℕ) (ks : List K) (o : Option Node) → states n ≡ Knows ks → slice_get nodes n ≡ o → slice_get (succs_of (option_map (node_becomes rules ks) o)) slot ≡ Some s → is_reached (states s) ≡ true
  leads_on n slot s ks None known here leads = cc
  leads_on n slot s ks (Some node) known here leads = let back = node_back rules ks node slot s leads in passed n back.0 s ks node known here back.1 back.2

  -- a node that is kept has a state that is reached
  pub kept_reached : (n : ℕ) → IsReachedNode after n → is_reached (states n) ≡ true
  kept_reached n at_start = above_reached below (first_known rules shared size) (states 0) are.start
  kept_reached n (goes_along m slot s before edge) =
      let k = known_of_reached (states m) (kept_reached m before) in
      leads_on m slot s k.0 (slice_get nodes m) k.1 refl (ap (λ o. slice_get (succs_of o) slot) (sym (folded_here m k.0 k.1)) ∙ edge)

  -- ---- the states are least: where the others are not kept, they could be unreached
  module _ (least : (others : ℕ → NodeState K) → AreStates below (passed_along rules shared received) (first_known rules shared size) nodes others → (n : ℕ) → n < length nodes → BelowState below (states n) (others n)) (within : AllWithin nodes) (kept : List Node) (are_retained : AreRetained after kept) where
    abbrev bits : ℕ → Bool
    bits n = slice_index_or are_retained.marks n false

    marks_long : length are_retained.marks ≡ length nodes
    marks_long = are_retained.are_marks.long ∙ length_become rules states nodes

    bits_kept : (n : ℕ) → n < length nodes → bits n ≡ true → IsReachedNode after n
    bits_kept n lt on =
        (are_retained.are_marks.exact n (subst (λ k. n < k) (sym (length_become rules states nodes)) lt)).0 (slice_get-get_or are_retained.marks n false (omega (arith, lt, marks_long)) ∙ ap Some on)

    kept_bits : (n : ℕ) → n < length nodes → IsReachedNode after n → bits n ≡ true
    kept_bits n lt reached =
        get_or_from_slice_get are_retained.marks n true false ((are_retained.are_marks.exact n (subst (λ k. n < k) (sym (length_become rules states nodes)) lt)).1 reached)

    abbrev others : ℕ → NodeState K
    others n = if bits n then states n else Unreached zeros_long

    some_node : 0 < length nodes → bits 0 ≡ true
    some_node lt = kept_bits 0 lt at_start

    others_size : (n : ℕ) → n < length nodes → size_of (others n) ≡ zeros_long
    others_size n lt = cases (bits n)
      where
        cases : (b : Bool) → size_of (if b then states n else Unreached zeros_long) ≡ zeros_long
        cases true = are.sizes n lt
        cases false = refl

    -- an edge from a kept node to one that is not kept passes nothing
    stopped : (n slot s : ℕ) (node : Node) (state : NodeState K) → states n ≡ state → slice_get nodes n ≡ Some node → IsEdge nodes n slot s → bits n ≡ true → bits s ≡ false → BelowState below (passed_along rules shared received node slot state) (Unreached zeros_long)
    stopped n slot s node (Unreached k) known here edge on off = sym (ap size_of known) ∙ are.sizes n (slice_get_within nodes n node here)
    stopped n slot s node (Knows ks) known here edge on off = cases (passes rules node slot ks) refl
      where
        lt : n < length nodes
        lt = slice_get_within nodes n node here

        cases : (b : Bool) → passes rules node slot ks ≡ b → BelowState below (if b then Knows (known_after rules shared received node slot ks) else Unreached (length ks)) (Unreached zeros_long)
        cases true passing =
            let more = node_on rules ks node slot s (ap (λ o. slice_get (succs_of o) slot) (sym here) ∙ edge) passing in
            let there : slice_get after n ≡ Some (node_becomes rules ks node) = folded_here n ks known ∙ ap (option_map (node_becomes rules ks)) here in
            let edge' : IsEdge after n more.0 s = ap (λ o. slice_get (succs_of o) more.0) there ∙ more.1 in
            let on' : bits s ≡ true = kept_bits s (within n slot s edge) (goes_along n more.0 s (bits_kept n lt on) edge') in
            absurd (cc)
        cases false passing = sym (ap size_of known) ∙ are.sizes n lt

    others_along : (n slot s : ℕ) (node : Node) → slice_get nodes n ≡ Some node → IsEdge nodes n slot s → (b b' : Bool) → bits n ≡ b → bits s ≡ b' → BelowState below (passed_along rules shared received node slot (if b then states n else Unreached zeros_long)) (if b' then states s else Unreached zeros_long)
    others_along n slot s node here edge true true on on' = are.edges n slot s node here edge
    others_along n slot s node here edge true false on off = stopped n slot s node (states n) refl here edge on off
    others_along n slot s node here edge false true off on = unreached_below order zeros_long (states s) (sym (are.sizes s (within n slot s edge)))
    others_along n slot s node here edge false false off off' = refl

    others_are : 0 < length nodes → AreStates below (passed_along rules shared received) (first_known rules shared size) nodes others
    others_are lt = record {
      sizes = others_size;
      start = subst (λ b. BelowState below (Knows (first_known rules shared size)) (if b then states 0 else Unreached zeros_long)) (sym (some_node lt)) are.start;
      edges = λ n slot s node here edge. others_along n slot s node here edge (bits n) (bits s) refl refl;
    }

    in_bits : (n : ℕ) (b : Bool) → bits n ≡ b → is_reached (states n) ≡ true → BelowState below (states n) (if b then states n else Unreached zeros_long) → bits n ≡ true
    in_bits n true is on p = is
    in_bits n false is on p = let k = known_of_reached (states n) on in absurd (subst (λ s. BelowState below s (Unreached zeros_long)) k.1 p)

    -- so a node whose state is reached is kept
    pub reached_kept : (n : ℕ) → n < length nodes → is_reached (states n) ≡ true → IsReachedNode after n
    reached_kept n lt on = bits_kept n lt (in_bits n (bits n) refl on (least others (others_are (omega (arith, lt))) n lt))

-- exactly those nodes are kept whose state is reached
pub exactly_kept : {K : Type 0} {below : K → K → Type 0} {rules : Rules K} (order : OrderRules below rules) (graph made : GraphShape) (states : ℕ → NodeState K) → AllWithin graph.nodes → HasLeastStates below rules graph states → IsMade graph.name graph.shared graph.vars graph.received (nodes_become rules states graph.nodes) made
    → (n : ℕ) → n < length graph.nodes → IsReachedNode (nodes_become rules states graph.nodes) n ↔ (is_reached (states n) ≡ true)
exactly_kept order graph made states within least is_made n lt = (
  kept_reached order graph.shared graph.received graph.nodes (length graph.vars) states least.are n,
  reached_kept order graph.shared graph.received graph.nodes (length graph.vars) states least.are least.least within made.nodes is_made.nodes_are n lt,
)

-- ---- divisions

module _ {K : Type 0} {below : K → K → Type 0} {holds : K → ℤ → Type 0} {rules : Rules K} (laws : RewritingRules holds rules) (graph made : GraphShape) (is : IsRewritten below rules graph made) where
  abbrev marks : List Bool
  marks = is.made.nodes_are.marks

  after_long : length (nodes_become rules is.states graph.nodes) ≡ length graph.nodes
  after_long = length_become rules is.states graph.nodes

  -- a node whose state is reached is marked, and stands at the number of those marked below it
  is_marked : (n : ℕ) → n < length graph.nodes → is_reached (is.states n) ≡ true → slice_get marks n ≡ Some true
  is_marked n lt on = (is.made.nodes_are.are_marks.exact n (subst (λ k. n < k) (sym after_long) lt)).1 ((is.kept n lt).1 on)

  stands : (n : ℕ) (node : Node) → slice_get graph.nodes n ≡ Some node → is_reached (is.states n) ≡ true → slice_get made.nodes (marked_below marks n) ≡ Some (redirected (marked_below marks) (becomes_at rules (is.states n) node))
  stands n node here on =
      ap (λ l. slice_get l (marked_below marks n)) is.made.nodes_are.are ∙ slice_get-map (redirected (marked_below marks)) (marked marks (nodes_become rules is.states graph.nodes)) (marked_below marks n)
      ∙ ap (option_map (redirected (marked_below marks))) (at_rank marks (nodes_become rules is.states graph.nodes) n (is_marked n (slice_get_within graph.nodes n node here) on) is.made.nodes_are.are_marks.long
      ∙ become_get rules is.states graph.nodes n ∙ ap (option_map (becomes_at rules (is.states n))) here)

  assigned : (n x : ℕ) (op : Op) (left right : Operand) (known : List K) (d : DividesOf graph.nodes n x op left right) → is.states n ≡ Knows known → slice_get made.nodes (marked_below marks n) ≡ Some (Assign x (rules.rhs known (Binary op left right)) (marked_below marks d.next))
  assigned n x op left right known d reached = stands n (Assign x (Binary op left right) d.next) d.is (ap is_reached reached) ∙ ap (λ s. Some (redirected (marked_below marks) (becomes_at rules s (Assign x (Binary op left right) d.next)))) reached

  pub keeps_divisions : KeepsDivisions below rules graph made
  keeps_divisions = record {
    states = is.states;
    least = is.least;
    place = marked_below marks;
    variable = λ n x op left right known d reached. record { next = marked_below marks d.next; is = assigned n x op left right known d reached };
    operator = λ n x op left right known d reached low.
        let parts = and_parts (is_dividing op) (may_be_zero right) d.may_trap in
        let stays = laws.divides known op left right parts.0 low in
        record {
          next = marked_below marks d.next;
          is = assigned n x op left right known d reached ∙ ap (λ r. Some (Assign x r (marked_below marks d.next))) stays;
          may_trap = rw (parts.0, laws.vanishes known right low) refl;
        };
    in_order = λ n m x y op other d d' on lt. rank_below marks n m (is_marked n (slice_get_within graph.nodes n _ d.of.is) on) lt;
  }
