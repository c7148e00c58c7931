-- A graph can be made of the numbered nodes, all of them are reached, and they make no other calls.
use Rattle.std.proofs.Common.{◌≡◌, ℕ, ◌<◌, List, length, slice_get, Option, Some, None, refl, sym, ap, ◌∙◌, subst, arith}
use Rattle.std.proofs.lemmas.Option.{same_Some, slice_get_within}
use Rattle.mir_base.specs.Shapes.{AllBelow}
use Rattle.flow_graph.specs.declared.nodes.Node.{Node}
use Rattle.flow_graph.specs.declared.nodes.Node.TheVariants.{Start, Skip, Assign, Print, Guard, Call, Test, Return}
use Rattle.flow_graph.specs.Calls.{NodesCall, node_call}
use Rattle.flow_graph.specs.Graphs.{AllReached, CanMake, Reached, at_start, along, node_vars}
use Rattle.flow_graph.specs.ListLaws.{some_at}
use Rattle.value_number.specs.Terms.{Term, Terms}
use Rattle.value_number.specs.Numbered.{AreNumbered, IsHolder, numbered_node}
use Rattle.value_number.specs.NumberedLaws.{numbered_shares, same_succs}

-- ---- what a node becomes

-- only a Start becomes one
becomes_start : (node : Node) (holder : Option ℕ) (s : ℕ) → numbered_node node holder ≡ Start s → node ≡ Start s
becomes_start node None s e = e
becomes_start (Start next) (Some v) s e = e
becomes_start (Skip next) (Some v) s e = e
becomes_start (Assign x rhs next) (Some v) s e = cc
becomes_start (Print a next) (Some v) s e = e
becomes_start (Guard test number next) (Some v) s e = e
becomes_start (Call into unit operands next) (Some v) s e = e
becomes_start (Test test taken other) (Some v) s e = e
becomes_start (Return a) (Some v) s e = e

-- and a Start stays one
start_becomes : (holder : Option ℕ) (s : ℕ) → numbered_node (Start s) holder ≡ Start s
start_becomes None s = refl
start_becomes (Some v) s = refl

-- its call stays
becomes_call : (node : Node) (holder : Option ℕ) → node_call (numbered_node node holder) ≡ node_call node
becomes_call = numbered_shares node_call (λ x rhs other next. refl)

-- a holder is a variable of the graph
holder_below : (count : ℕ) (terms : Terms) (o : Option Term) (v : ℕ) → IsHolder count terms o (Some v) → v < count
holder_below count terms None v is = cc
holder_below count terms (Some t) v is = is.0

-- so its variables are in range
becomes_below : (count : ℕ) (node : Node) (holder : Option ℕ) → ((v : ℕ) → holder ≡ Some v → v < count) → AllBelow count (node_vars node) → AllBelow count (node_vars (numbered_node node holder))
becomes_below count node None low below = below
becomes_below count (Start next) (Some v) low below = below
becomes_below count (Skip next) (Some v) low below = below
becomes_below count (Assign x rhs next) (Some v) low below = (below.0, (low v refl, tt))
becomes_below count (Print a next) (Some v) low below = below
becomes_below count (Guard test number next) (Some v) low below = below
becomes_below count (Call into unit operands next) (Some v) low below = below
becomes_below count (Test test taken other) (Some v) low below = below
becomes_below count (Return a) (Some v) low below = below

-- ---- all nodes

module _ (shared count : ℕ) (nodes result : List Node) (numbered : AreNumbered shared count nodes result) where
  -- a node of the result was some node
  record Becomes (n : ℕ) (made : Node) : Type 0 where
    node : Node
    holder : Option ℕ
    here : slice_get nodes n ≡ Some node
    low : (v : ℕ) → holder ≡ Some v → v < count
    is : numbered_node node holder ≡ made

  -- so each one is
  becomes : (n : ℕ) (made : Node) → slice_get result n ≡ Some made → Becomes n made
  becomes n made at =
      let there = some_at nodes n (omega (arith, slice_get_within result n made at, numbered.long)) in
      let to = numbered.each n there.0 there.1 in
      record {
        node = there.0;
        holder = to.holder;
        here = there.1;
        low = λ v e. holder_below count _ _ v (subst (IsHolder count _ _) e to.holds.is);
        is = same_Some _ _ (sym to.is ∙ at);
      }

  -- it makes no calls but those of the nodes
  pub numbered_calls : (called arity : ℕ) → NodesCall result called arity → NodesCall nodes called arity
  numbered_calls called arity c = let b = becomes c.number c.node c.here in record { number = c.number; node = b.node; here = b.here; calls = sym (becomes_call b.node b.holder) ∙ ap node_call b.is ∙ c.calls }

  -- every node is reached where it was
  reaches : (n : ℕ) → Reached nodes n → Reached result n
  reaches n at_start = at_start
  reaches n (along m slot s reached edge) = along m slot s (reaches m reached) (ap (λ l. slice_get l slot) (same_succs shared count nodes result numbered m) ∙ edge)

  -- so all are, where all were
  pub numbered_reached : AllReached nodes → AllReached result
  numbered_reached all n lt = reaches n (all n (omega (arith, lt, numbered.long)))

-- a graph can be made of the numbered nodes
pub numbered_can_make : (shared : ℕ) (vars : List (List ℕ)) (received : List ℕ) (nodes result : List Node) → CanMake vars received nodes → AreNumbered shared (length vars) nodes result → CanMake vars received result
numbered_can_make shared vars received nodes result can numbered = record {
  start = let to = numbered.each 0 (Start can.start.0) can.start.1 in (can.start.0, to.is ∙ ap Some (start_becomes to.holder can.start.0));
  only = λ n s at. let b = becomes shared (length vars) nodes result numbered n (Start s) at in can.only n s (b.here ∙ ap Some (becomes_start b.node b.holder s b.is));
  succs = λ m slot s edge. let r = can.succs m slot s (sym (ap (λ l. slice_get l slot) (same_succs shared (length vars) nodes result numbered m)) ∙ edge) in (r.0, omega (arith, r.1, numbered.long));
  below = λ n node at. let b = becomes shared (length vars) nodes result numbered n node at in
      subst (λ k. AllBelow (length vars) (node_vars k)) b.is (becomes_below (length vars) b.node b.holder b.low (can.below n b.node b.here));
  received_below = can.received_below;
  received_differ = can.received_differ;
  names = can.names;
}
