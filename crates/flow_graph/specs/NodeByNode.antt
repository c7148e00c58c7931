-- Laws of passes that put each node anew in its place, and leave where it leads, its call, and which nodes are Start and
-- Skips: a graph can be made of the new nodes, with the edges and the calls of the old ones, split where that is.
-- For proofs only, here and above.
use Rattle.std.proofs.Common.{◌≡◌, ℕ, suc, ◌<◌, List, [], ◌∷◌, length, slice_get, Option, Some, None, option_map, refl, sym, ap, ◌∙◌, subst, true}
use Rattle.mir_base.specs.declared.instructions.Operand.{Operand}
use Rattle.mir_base.specs.declared.instructions.Rhs.{Rhs}
use Rattle.mir_base.specs.declared.instructions.Rhs.TheVariants.{Binary}
use Rattle.mir_base.specs.declared.instructions.Test.{Test as Condition}
use Rattle.mir_base.specs.declared.operators.Op.{Op}
use Rattle.mir_base.specs.Expressions.{divides}
use Rattle.mir_base.specs.Shapes.{AllBelow}
use Rattle.flow_graph.specs.declared.nodes.Node.{Node}
use Rattle.flow_graph.specs.declared.nodes.Node.TheVariants.{Start, Skip, Assign, Guard, Test}
use Rattle.flow_graph.specs.Calls.{NodesCall, node_call}
use Rattle.flow_graph.specs.Dividing.{DividesOf, DividesUnchanged}
use Rattle.flow_graph.specs.EdgeLaws.{edges_alike}
use Rattle.flow_graph.specs.Edges.{IsSplit, edges_from, preds_among, preds_of}
use Rattle.flow_graph.specs.Graphs.{AllReached, CanMake, IsEdge, Reached, at_start, along, node_succs, node_vars, succs_at, succs_of}
use Rattle.flow_graph.specs.NodeLaws.{mapped_from}

-- ---- one node

-- what the new node has of the old one
pub record IsInPlace (old new : Node) : Type 0 where
  pub succs : node_succs new ≡ node_succs old
  pub call : node_call new ≡ node_call old
  pub was_start : (s : ℕ) → new ≡ Start s → old ≡ Start s
  pub start : (s : ℕ) → old ≡ Start s → new ≡ Start s
  pub skip : (s : ℕ) → old ≡ Skip s → new ≡ Skip s

-- a node has all of itself
pub in_place_itself : (node : Node) → IsInPlace node node
in_place_itself node = record { succs = refl; call = refl; was_start = λ s e. e; start = λ s e. e; skip = λ s e. e }

-- an assignment may have another right side
pub in_place_assign : (x : ℕ) (rhs new : Rhs) (next : ℕ) → IsInPlace (Assign x rhs next) (Assign x new next)
in_place_assign x rhs new next = record { succs = refl; call = refl; was_start = λ s e. cc; start = λ s e. cc; skip = λ s e. cc }

-- a guard and a test another condition
pub in_place_guard : (test new : Condition) (number next : ℕ) → IsInPlace (Guard test number next) (Guard new number next)
in_place_guard test new number next = record { succs = refl; call = refl; was_start = λ s e. cc; start = λ s e. cc; skip = λ s e. cc }

pub in_place_test : (test new : Condition) (taken other : ℕ) → IsInPlace (Test test taken other) (Test new taken other)
in_place_test test new taken other = record { succs = refl; call = refl; was_start = λ s e. cc; start = λ s e. cc; skip = λ s e. cc }

-- ---- all nodes

-- each new node comes from the old one of its number
pub record IsNodeByNode (old nodes : List Node) : Type 0 where
  pub becomes : ℕ → Node → Node
  pub in_place : (n : ℕ) (node : Node) → IsInPlace node (becomes n node)
  pub nodes_are : (n : ℕ) → slice_get nodes n ≡ option_map (becomes n) (slice_get old n)

-- lists of which one is made of the other place by place are equally long
made_length : (xs ys : List Node) (f : ℕ → Node → Node) → ((n : ℕ) → slice_get xs n ≡ option_map (f n) (slice_get ys n)) → length xs ≡ length ys
made_length [] [] f are = refl
made_length [] (y ∷ ys) f are = let e : None ≡ Some (f 0 y) = are 0 in cc
made_length (x ∷ xs) [] f are = let e : Some x ≡ None = are 0 in cc
made_length (x ∷ xs) (y ∷ ys) f are = ap suc (made_length xs ys (λ n. f (suc n)) (λ n. are (suc n)))

module _ (old nodes : List Node) (by : IsNodeByNode old nodes) where
  pub kept_length : length nodes ≡ length old
  kept_length = made_length nodes old by.becomes by.nodes_are

  succs_of_new : (n : ℕ) (o : Option Node) → succs_of (option_map (by.becomes n) o) ≡ succs_of o
  succs_of_new n None = refl
  succs_of_new n (Some node) = (by.in_place n node).succs

  -- each node has the successors that it had
  pub kept_succs : (n : ℕ) → succs_at nodes n ≡ succs_at old n
  kept_succs n = ap succs_of (by.nodes_are n) ∙ succs_of_new n (slice_get old n)

  -- an edge stays
  edge_on : (m slot s : ℕ) → IsEdge old m slot s → IsEdge nodes m slot s
  edge_on m slot s edge = ap (λ l. slice_get l slot) (kept_succs m) ∙ edge

  -- and none is new
  edge_back : (m slot s : ℕ) → IsEdge nodes m slot s → IsEdge old m slot s
  edge_back m slot s edge = ap (λ l. slice_get l slot) (sym (kept_succs m)) ∙ edge

  -- so a node stays reached
  reached_on : (n : ℕ) → Reached old n → Reached nodes n
  reached_on n at_start = at_start
  reached_on n (along m slot s reached edge) = along m slot n (reached_on m reached) (edge_on m slot n edge)

  -- and all nodes do
  pub kept_reached : AllReached old → AllReached nodes
  kept_reached reached n lt = reached_on n (reached n (subst (λ k. n < k) kept_length lt))

  -- what stands at a place came from the node there
  pub came_from : (n : ℕ) (node : Node) → slice_get nodes n ≡ Some node → (before : Node) × (slice_get old n ≡ Some before) × (by.becomes n before ≡ node)
  came_from n node e = mapped_from (by.becomes n) (slice_get old n) node (sym (by.nodes_are n) ∙ e)

  -- no call is new
  pub kept_calls : (called count : ℕ) → NodesCall nodes called count → NodesCall old called count
  kept_calls called count c =
      let from = came_from c.number c.node c.here in
      record { number = c.number; node = from.0; here = from.1; calls = sym (by.in_place c.number from.0).call ∙ ap node_call from.2 ∙ c.calls }

  -- ---- splitness: the edges are the same, and Skips stay

  kept_edges : edges_from 0 nodes ≡ edges_from 0 old
  kept_edges = edges_alike 0 nodes old kept_length kept_succs

  kept_preds : (s : ℕ) → preds_of nodes s ≡ preds_of old s
  kept_preds s = ap (preds_among s) kept_edges

  skip_stays : (n s : ℕ) → slice_get old n ≡ Some (Skip s) → slice_get nodes n ≡ Some (Skip s)
  skip_stays n s here = by.nodes_are n ∙ ap (option_map (by.becomes n)) here ∙ ap Some ((by.in_place n (Skip s)).skip s refl)

  -- a split graph stays split
  pub kept_split : IsSplit old → IsSplit nodes
  kept_split split = record {
    by_skips = λ s i n s_in many at.
        skip_stays n s (split.by_skips s i n (subst (λ l. s < l) kept_length s_in) (subst (λ l. 1 < length l) (kept_preds s) many) (sym (ap (λ l. slice_get l i) (kept_preds s)) ∙ at));
    once = λ s i j n s_in many at at'.
        split.once s i j n (subst (λ l. s < l) kept_length s_in) (subst (λ l. 1 < length l) (kept_preds s) many) (sym (ap (λ l. slice_get l i) (kept_preds s)) ∙ at) (sym (ap (λ l. slice_get l j) (kept_preds s)) ∙ at');
  }

  -- ---- divisions

  -- they all stay as they are, where each becomes itself
  pub kept_divides : ((n x : ℕ) (op : Op) (left right : Operand) (next : ℕ) → divides (Binary op left right) ≡ true → by.becomes n (Assign x (Binary op left right) next) ≡ Assign x (Binary op left right) next) → DividesUnchanged old nodes
  kept_divides same = record { place = λ n. n; stays = stays; in_order = λ n m x y op other at at' lt. lt }
    where
      stays : (n x : ℕ) (op : Op) (left right : Operand) → DividesOf old n x op left right → DividesOf nodes n x op left right
      stays n x op left right at = record {
        next = at.next;
        is = by.nodes_are n ∙ ap (option_map (by.becomes n)) at.is ∙ ap Some (same n x op left right at.next at.may_trap);
        may_trap = at.may_trap;
      }

  -- ---- a graph can be made of the new nodes, where their variables are in range

  pub kept_can : (vars : List (List ℕ)) (received : List ℕ) → CanMake vars received old
      → ((n : ℕ) (node : Node) → slice_get old n ≡ Some node → AllBelow (length vars) (node_vars (by.becomes n node)))
      → CanMake vars received nodes
  kept_can vars received can below = record {
    start = (can.start.0, by.nodes_are 0 ∙ ap (option_map (by.becomes 0)) can.start.1 ∙ ap Some ((by.in_place 0 (Start can.start.0)).start can.start.0 refl));
    only = λ n s here. let from = came_from n (Start s) here in can.only n s (from.1 ∙ ap Some ((by.in_place n from.0).was_start s from.2));
    succs = λ m slot s edge. let low = can.succs m slot s (edge_back m slot s edge) in (low.0, subst (λ n. s < n) (sym kept_length) low.1);
    below = λ n node here. let from = came_from n node here in subst (λ x. AllBelow (length vars) (node_vars x)) from.2 (below n from.0 from.1);
    received_below = can.received_below;
    received_differ = can.received_differ;
    names = can.names;
  }
