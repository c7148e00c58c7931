-- A graph can be made of what the nodes become, and they make no other calls.
use Rattle.std.proofs.Common.{◌≡◌, ℕ, ℤ, zero, suc, ◌<◌, Bool, true, false, List, [], ◌∷◌, ◌++◌, length, map, flat_map, slice_get, Option, Some, None, option_map, refl, sym, ap, ◌∙◌, subst}
use Rattle.std.proofs.lemmas.List.{length-map}
use Rattle.mir_base.specs.declared.instructions.Operand.{Operand}
use Rattle.mir_base.specs.declared.instructions.Test as tests
use Rattle.mir_base.specs.declared.instructions.Test.TheVariants.{Rel, Holds, Fails}
use Rattle.mir_base.specs.Shapes.{AllBelow, operand_vars, test_vars, into_vars}
use Rattle.mir_base.specs.BelowLaws.{all_below_left, all_below_right, all_below_append}
use Rattle.flow_graph.specs.declared.nodes.Node.{Node}
use Rattle.flow_graph.specs.declared.nodes.Node.TheVariants.{Start, Skip, Assign, Print, Guard, Call, Test, Return}
use Rattle.flow_graph.specs.Calls.{NodesCall, node_call}
use Rattle.flow_graph.specs.Graphs.{CanMake, IsEdge, node_succs, node_vars, succs_of}
use Rattle.flow_graph.specs.NodeLaws.{mapped_from}
use Rattle.cond_flow.specs.Rules.{Rules, RewritingRules}
use Rattle.cond_flow.specs.States.{NodeState, Unreached, Knows}
use Rattle.cond_flow.specs.Passing.{passes, passes_by}
use Rattle.cond_flow.specs.Becoming.{becomes_at, decided_node, guarded_node, node_becomes, nodes_become, test_becomes}
use Rattle.cond_flow.specs.BecomingLaws.{become_get, length_become}

-- ---- edges

module _ {K : Type 0} (rules : Rules K) where
  -- an edge of the node that passes its state
  PassingEdge : List K → Node → ℕ → Type 0
  PassingEdge ks node s = (slot : ℕ) × (slice_get (node_succs node) slot ≡ Some s) × (passes rules node slot ks ≡ true)

  -- the only edge of a node
  one_back : (ks : List K) (node : Node) (next slot s : ℕ) → node_succs node ≡ next ∷ [] → passes rules node 0 ks ≡ true → slice_get (next ∷ []) slot ≡ Some s → PassingEdge ks node s
  unfolding PassingEdge
  one_back ks node next zero s is passing e = (0, ap (λ l. slice_get l 0) is ∙ e, passing)
  one_back ks node next (suc slot) s is passing e = cc

  -- the edges of a Test
  test_back : (ks : List K) (test test' : tests.Test) (taken other : ℕ) (p q : Bool) → rules.goes test true ks ≡ p → rules.goes test false ks ≡ q → (slot s : ℕ) → slice_get (node_succs (decided_node test' taken other p q)) slot ≡ Some s → PassingEdge ks (Test test taken other) s
  unfolding PassingEdge
  test_back ks test test' taken other true q is is' zero s e = (0, first q e, is)
    where
      first : (q : Bool) → slice_get (node_succs (decided_node test' taken other true q)) 0 ≡ Some s → slice_get (taken ∷ other ∷ []) 0 ≡ Some s
      first true e = e
      first false e = e
  test_back ks test test' taken other true true is is' (suc zero) s e = (1, e, is')
  test_back ks test test' taken other true true is is' (suc (suc slot)) s e = cc
  test_back ks test test' taken other true false is is' (suc slot) s e = cc
  test_back ks test test' taken other false true is is' zero s e = (1, e, is')
  test_back ks test test' taken other false true is is' (suc slot) s e = cc
  test_back ks test test' taken other false false is is' slot s e = cc

  -- a Guard keeps its only edge
  guard_succs : (test : tests.Test) (number next : ℕ) (p : Bool) → node_succs (guarded_node test number next p) ≡ next ∷ []
  guard_succs test number next true = refl
  guard_succs test number next false = refl

  -- each edge of what a node becomes is an edge of the node that passes its state
  back : (ks : List K) (node : Node) (slot s : ℕ) → slice_get (node_succs (node_becomes rules ks node)) slot ≡ Some s → PassingEdge ks node s
  back ks (Start next) slot s e = one_back ks (Start next) next slot s refl refl e
  back ks (Skip next) slot s e = one_back ks (Skip next) next slot s refl refl e
  back ks (Assign x rhs next) slot s e = one_back ks (Assign x rhs next) next slot s refl refl e
  back ks (Print a next) slot s e = one_back ks (Print a next) next slot s refl refl e
  back ks (Guard test number next) slot s e =
      one_back ks (Guard test number next) next slot s refl refl (ap (λ l. slice_get l slot) (sym (guard_succs (test_becomes rules ks test) number next (rules.goes test true ks))) ∙ e)
  back ks (Call into unit operands next) slot s e = one_back ks (Call into unit operands next) next slot s refl refl e
  back ks (Test test taken other) slot s e = test_back ks test (test_becomes rules ks test) taken other (rules.goes test true ks) (rules.goes test false ks) refl refl slot s e
  back ks (Return a) slot s e = cc

  -- the same, for proofs elsewhere
  pub node_back : (ks : List K) (node : Node) (slot s : ℕ) → slice_get (node_succs (node_becomes rules ks node)) slot ≡ Some s → (slot' : ℕ) × (slice_get (node_succs node) slot' ≡ Some s) × (passes rules node slot' ks ≡ true)
  unfolding PassingEdge
  node_back ks node slot s e = back ks node slot s e

  -- the same of a node that is not reached
  at_back : (state : NodeState K) (node : Node) (slot s : ℕ) → slice_get (node_succs (becomes_at rules state node)) slot ≡ Some s → (slot' : ℕ) × (slice_get (node_succs node) slot' ≡ Some s)
  at_back (Unreached n) node slot s e = (slot, e)
  at_back (Knows ks) node slot s e = let one = node_back ks node slot s e in (one.0, one.1)

  -- an edge of a Test along which the state passes is an edge of what the Test becomes
  test_on : (test : tests.Test) (taken other : ℕ) (p q : Bool) (slot s : ℕ) → slice_get (taken ∷ other ∷ []) slot ≡ Some s → passes_by slot p q ≡ true → (slot' : ℕ) × (slice_get (node_succs (decided_node test taken other p q)) slot' ≡ Some s)
  test_on test taken other true true slot s e passing = (slot, e)
  test_on test taken other true false zero s e passing = (0, e)
  test_on test taken other true false (suc zero) s e passing = cc
  test_on test taken other true false (suc (suc slot)) s e passing = cc
  test_on test taken other false true zero s e passing = cc
  test_on test taken other false true (suc zero) s e passing = (0, e)
  test_on test taken other false true (suc (suc slot)) s e passing = cc
  test_on test taken other false false zero s e passing = cc
  test_on test taken other false false (suc zero) s e passing = cc
  test_on test taken other false false (suc (suc slot)) s e passing = cc

  -- and each edge that passes the state is an edge of what the node becomes
  pub node_on : (ks : List K) (node : Node) (slot s : ℕ) → slice_get (node_succs node) slot ≡ Some s → passes rules node slot ks ≡ true → (slot' : ℕ) × (slice_get (node_succs (node_becomes rules ks node)) slot' ≡ Some s)
  node_on ks (Start next) slot s e passing = (slot, e)
  node_on ks (Skip next) slot s e passing = (slot, e)
  node_on ks (Assign x rhs next) slot s e passing = (slot, e)
  node_on ks (Print a next) slot s e passing = (slot, e)
  node_on ks (Guard test number next) slot s e passing = (slot, ap (λ l. slice_get l slot) (guard_succs (test_becomes rules ks test) number next (rules.goes test true ks)) ∙ e)
  node_on ks (Call into unit operands next) slot s e passing = (slot, e)
  node_on ks (Test test taken other) slot s e passing = test_on (test_becomes rules ks test) taken other (rules.goes test true ks) (rules.goes test false ks) slot s e passing
  node_on ks (Return a) slot s e passing = cc

-- ---- variables

module _ {K : Type 0} {holds : K → ℤ → Type 0} {rules : Rules K} (laws : RewritingRules holds rules) (k : ℕ) where
  operands_below : (ks : List K) (operands : List Operand) → AllBelow k (flat_map operand_vars operands) → AllBelow k (flat_map operand_vars (map (rules.operand ks) operands))
  operands_below ks [] low = tt
  operands_below ks (a ∷ operands) low =
      all_below_append k (operand_vars (rules.operand ks a)) (flat_map operand_vars (map (rules.operand ks) operands)) (laws.operand_below k ks a (all_below_left k (operand_vars a) (flat_map operand_vars operands) low))
      (operands_below ks operands (all_below_right k (operand_vars a) (flat_map operand_vars operands) low))

  pair_below : (ks : List K) (a b : Operand) → AllBelow k (operand_vars a ++ operand_vars b) → AllBelow k (operand_vars (rules.operand ks a) ++ operand_vars (rules.operand ks b))
  pair_below ks a b low =
      all_below_append k (operand_vars (rules.operand ks a)) (operand_vars (rules.operand ks b)) (laws.operand_below k ks a (all_below_left k (operand_vars a) (operand_vars b) low)) (laws.operand_below k ks b (all_below_right k (operand_vars a) (operand_vars b) low))

  test_below : (ks : List K) (test : tests.Test) → AllBelow k (test_vars test) → AllBelow k (test_vars (test_becomes rules ks test))
  test_below ks (Rel op a b) low = pair_below ks a b low
  test_below ks (Holds a) low = laws.operand_below k ks a low
  test_below ks (Fails a) low = laws.operand_below k ks a low

  decided_below : (test : tests.Test) (taken other : ℕ) (p q : Bool) → AllBelow k (test_vars test) → AllBelow k (node_vars (decided_node test taken other p q))
  decided_below test taken other true true low = low
  decided_below test taken other true false low = tt
  decided_below test taken other false true low = tt
  decided_below test taken other false false low = tt

  guard_below : (test : tests.Test) (number next : ℕ) (p : Bool) → AllBelow k (test_vars test) → AllBelow k (node_vars (guarded_node test number next p))
  guard_below test number next true low = low
  guard_below test number next false low = tt

  node_below : (ks : List K) (node : Node) → AllBelow k (node_vars node) → AllBelow k (node_vars (node_becomes rules ks node))
  node_below ks (Start next) low = low
  node_below ks (Skip next) low = low
  node_below ks (Assign x rhs next) low = (low.0, laws.right_side_below k ks rhs low.1)
  node_below ks (Print a next) low = laws.operand_below k ks a low
  node_below ks (Guard test number next) low = guard_below (test_becomes rules ks test) number next (rules.goes test true ks) (test_below ks test low)
  node_below ks (Call into unit operands next) low =
      all_below_append k (into_vars into) (flat_map operand_vars (map (rules.operand ks) operands)) (all_below_left k (into_vars into) (flat_map operand_vars operands) low)
      (operands_below ks operands (all_below_right k (into_vars into) (flat_map operand_vars operands) low))
  node_below ks (Test test taken other) low = decided_below (test_becomes rules ks test) taken other (rules.goes test true ks) (rules.goes test false ks) (test_below ks test low)
  node_below ks (Return a) low = laws.operand_below k ks a low

  at_below : (state : NodeState K) (node : Node) → AllBelow k (node_vars node) → AllBelow k (node_vars (becomes_at rules state node))
  at_below (Unreached n) node low = low
  at_below (Knows ks) node low = node_below ks node low

-- ---- Start and calls

-- only Start becomes Start
test_start : (test : tests.Test) (taken other s : ℕ) (p q : Bool) → decided_node test taken other p q ≡ Start s → ⊥
test_start test taken other s true true e = cc
test_start test taken other s true false e = cc
test_start test taken other s false true e = cc
test_start test taken other s false false e = cc

-- nor does a Guard become Start
guard_start : (test : tests.Test) (number next s : ℕ) (p : Bool) → guarded_node test number next p ≡ Start s → ⊥
guard_start test number next s true e = cc
guard_start test number next s false e = cc

-- a Test makes no call
test_call : (test : tests.Test) (taken other : ℕ) (p q : Bool) → node_call (decided_node test taken other p q) ≡ None
test_call test taken other true true = refl
test_call test taken other true false = refl
test_call test taken other false true = refl
test_call test taken other false false = refl

-- nor does a Guard
guard_call : (test : tests.Test) (number next : ℕ) (p : Bool) → node_call (guarded_node test number next p) ≡ None
guard_call test number next true = refl
guard_call test number next false = refl

module _ {K : Type 0} (rules : Rules K) where
  -- of any node
  node_start : (state : NodeState K) (node : Node) (s : ℕ) → becomes_at rules state node ≡ Start s → (t : ℕ) × (node ≡ Start t)
  node_start (Unreached n) node s e = (s, e)
  node_start (Knows ks) (Start next) s e = (next, refl)
  node_start (Knows ks) (Skip next) s e = cc
  node_start (Knows ks) (Assign x rhs next) s e = cc
  node_start (Knows ks) (Print a next) s e = cc
  node_start (Knows ks) (Guard test number next) s e = absurd (guard_start (test_becomes rules ks test) number next s (rules.goes test true ks) e)
  node_start (Knows ks) (Call into unit operands next) s e = cc
  node_start (Knows ks) (Test test taken other) s e = absurd (test_start (test_becomes rules ks test) taken other s (rules.goes test true ks) (rules.goes test false ks) e)
  node_start (Knows ks) (Return a) s e = cc

  -- and it stays
  start_stays : (state : NodeState K) (s : ℕ) → becomes_at rules state (Start s) ≡ Start s
  start_stays (Unreached n) s = refl
  start_stays (Knows ks) s = refl

  -- each node makes the call that it made
  at_call : (state : NodeState K) (node : Node) → node_call (becomes_at rules state node) ≡ node_call node
  at_call (Unreached n) node = refl
  at_call (Knows ks) (Start next) = refl
  at_call (Knows ks) (Skip next) = refl
  at_call (Knows ks) (Assign x rhs next) = refl
  at_call (Knows ks) (Print a next) = refl
  at_call (Knows ks) (Guard test number next) = guard_call (test_becomes rules ks test) number next (rules.goes test true ks)
  at_call (Knows ks) (Call into unit operands next) = ap (λ n. Some (unit, n)) (length-map operands (rules.operand ks))
  at_call (Knows ks) (Test test taken other) = test_call (test_becomes rules ks test) taken other (rules.goes test true ks) (rules.goes test false ks)
  at_call (Knows ks) (Return a) = refl

-- ---- the nodes

module _ {K : Type 0} {holds : K → ℤ → Type 0} {rules : Rules K} (laws : RewritingRules holds rules) (states : ℕ → NodeState K) (nodes : List Node) where
  -- what stands at a place came from the node there
  pub become_from_node : (n : ℕ) (node : Node) → slice_get (nodes_become rules states nodes) n ≡ Some node → (before : Node) × (slice_get nodes n ≡ Some before) × (becomes_at rules (states n) before ≡ node)
  become_from_node n node e = let from = mapped_from (becomes_at rules (states n)) (slice_get nodes n) node (sym (become_get rules states nodes n) ∙ e) in (from.0, from.1, from.2)

  -- each edge was there
  pub edge_back : (m slot s : ℕ) → IsEdge (nodes_become rules states nodes) m slot s → (slot' : ℕ) × IsEdge nodes m slot' s
  edge_back m slot s e = by_node (slice_get nodes m) refl
    where
      by_node : (o : Option Node) → slice_get nodes m ≡ o → (slot' : ℕ) × IsEdge nodes m slot' s
      by_node None here = let none : slice_get (succs_of (option_map (becomes_at rules (states m)) None)) slot ≡ Some s = ap (λ o. slice_get (succs_of (option_map (becomes_at rules (states m)) o)) slot) (sym here) ∙ ap (λ o. slice_get (succs_of o) slot) (sym (become_get rules states nodes m)) ∙ e in cc
      by_node (Some node) here =
          let leads : slice_get (node_succs (becomes_at rules (states m) node)) slot ≡ Some s = ap (λ o. slice_get (succs_of (option_map (becomes_at rules (states m)) o)) slot) (sym here) ∙ ap (λ o. slice_get (succs_of o) slot) (sym (become_get rules states nodes m)) ∙ e in
          let back = at_back rules (states m) node slot s leads in
          (back.0, ap (λ o. slice_get (succs_of o) back.0) here ∙ back.1)

  pub become_can_make : (vars : List (List ℕ)) (received : List ℕ) → CanMake vars received nodes → CanMake vars received (nodes_become rules states nodes)
  become_can_make vars received can = record {
    start = (can.start.0, become_get rules states nodes 0 ∙ ap (option_map (becomes_at rules (states 0))) can.start.1 ∙ ap Some (start_stays rules (states 0) can.start.0));
    only = λ n s e. let from = become_from_node n (Start s) e in let was = node_start rules (states n) from.0 s from.2 in can.only n was.0 (from.1 ∙ ap Some was.1);
    succs = λ m slot s edge. let back = edge_back m slot s edge in let low = can.succs m back.0 s back.1 in (low.0, subst (λ n. s < n) (sym (length_become rules states nodes)) low.1);
    below = λ n node e. let from = become_from_node n node e in subst (λ x. AllBelow (length vars) (node_vars x)) from.2 (at_below laws (length vars) (states n) from.0 (can.below n from.0 from.1));
    received_below = can.received_below;
    received_differ = can.received_differ;
    names = can.names;
  }

  -- each call was there
  pub become_calls : (called count : ℕ) → NodesCall (nodes_become rules states nodes) called count → NodesCall nodes called count
  become_calls called count c =
      let from = become_from_node c.number c.node c.here in
      record { number = c.number; node = from.0; here = from.1; calls = sym (at_call rules (states c.number) from.0) ∙ ap node_call from.2 ∙ c.calls }
