-- Laws of an editor: each edit of a graph gives a graph, what a change leaves as it is, and that old nodes are still
-- reached. For proofs only, of src/editor.rt and motion_rewrite.
use Rattle.std.proofs.Common.{◌≡◌, ℕ, zero, suc, ◌<◌, ◌≤◌, if◌then◌else◌, List, [], ◌∷◌, map, length, slice_get, Some, option_map, ◌⊎◌, inl, inr, refl, sym, ap, ◌∙◌, subst, arith, length-append}
use Rattle.std.proofs.lemmas.Bool.{cases_eq, cases_lt, eq-eqb, ne_eqb}
use Rattle.std.proofs.lemmas.List.{length-map}
use Rattle.std.proofs.lemmas.Option.{slice_get-map, slice_get_within, same_Some}
use Rattle.mir_base.specs.declared.instructions.Rhs.{Rhs}
use Rattle.mir_base.specs.Shapes.{AllBelow, rhs_vars}
use Rattle.flow_graph.specs.ListLaws.{get_left, get_right_at}
use Rattle.flow_graph.specs.declared.nodes.Node.{Node}
use Rattle.flow_graph.specs.declared.nodes.Node.TheVariants.{Start, Assign}
use Rattle.flow_graph.specs.NodeLaws.{mapped_from, redirected_start, redirected_succs, redirected_vars}
use Rattle.graph_edit.specs.ChangeLaws.{changed_below, changed_not, changed_start, changed_succs}
use Rattle.flow_graph.specs.Graphs.{node_succs, succs_of, node_vars, IsEdge, Reached, at_start, along, IsGraph}
use Rattle.flow_graph.specs.Retained.{redirected}
use Rattle.graph_edit.specs.Insertions.{Change, Unchanged, changed, ChangeBelow}
use Rattle.graph_edit.specs.InsertionNodes.{edge_node}
use Rattle.graph_edit.specs.Editing.{past, put_before, change_at, change_each}
use Rattle.mir_base.specs.ItemLaws.{one_item}

-- ---- where edges lead

-- an edge to the node now leads to the new one
pub past_same : (node new : ℕ) → past node new node ≡ new
past_same node new = ap (λ b. (if b then new else node)) (eq-eqb node node refl)

-- and any other edge where it led
pub past_other : (node new n : ℕ) → (n ≡ node → ⊥) → past node new n ≡ n
past_other node new n differ = ap (λ b. (if b then new else n)) (ne_eqb n node differ)

-- ---- one node put before another

module _ (vars : List (List ℕ)) (received : List ℕ) (nodes : List Node)
    (is_graph : IsGraph vars received nodes) (node x : ℕ) (rhs : Rhs) (some : 1 ≤ node)
    (within : node < length nodes) (var : x < length vars)
    (below : AllBelow (length vars) (rhs_vars rhs)) where
  abbrev to : ℕ → ℕ
  to = past node (length nodes)

  abbrev result : List Node
  result = put_before node x rhs nodes

  result_length : length result ≡ suc (length nodes)
  result_length = omega (arith, length-append (map (redirected to) nodes) (Assign x rhs node ∷ []), length-map nodes (redirected to))

  old_at : (m : ℕ) (old : Node) → slice_get nodes m ≡ Some old → slice_get result m ≡ Some (redirected to old)
  old_at m old was =
      let lt : m < length (map (redirected to) nodes) = omega (arith, slice_get_within nodes m old was, length-map nodes (redirected to)) in
      get_left (map (redirected to) nodes) (Assign x rhs node ∷ []) m lt ∙ slice_get-map (redirected to) nodes m ∙ ap (option_map (redirected to)) was

  new_at : slice_get result (length nodes) ≡ Some (Assign x rhs node)
  new_at = get_right_at (map (redirected to) nodes) (Assign x rhs node ∷ []) (length nodes) 0 (omega (arith, length-map nodes (redirected to)))

  edge_to : (m slot s : ℕ) → IsEdge nodes m slot s → IsEdge result m slot (to s)
  edge_to m slot s edge =
      let old = edge_node nodes m slot s edge in
      ap (λ o. slice_get (succs_of o) slot) (old_at m old.0 old.1)
      ∙ ap (λ l. slice_get l slot) (redirected_succs to old.0)
      ∙ slice_get-map to (node_succs old.0) slot
      ∙ ap (option_map to) old.2

  abbrev Place : ℕ → Node → Type 0
  Place m found = ((old : Node) × (slice_get nodes m ≡ Some old) × (found ≡ redirected to old)) ⊎ ((m ≡ length nodes) × (found ≡ Assign x rhs node))

  place : (m : ℕ) (found : Node) → slice_get result m ≡ Some found → Place m found
  place m found at = elim (cases_lt m (length nodes)) [
    | inl lt ↦
        let from = mapped_from (redirected to) (slice_get nodes m) found (sym (slice_get-map (redirected to) nodes m) ∙ sym (get_left (map (redirected to) nodes) (Assign x rhs node ∷ []) m (omega (arith, lt, length-map nodes (redirected to)))) ∙ at) in
        inl (from.0, from.1, sym from.2)
    | inr ge ↦
        let is : m ≡ length nodes = omega (arith, ge, slice_get_within result m found at, result_length) in
        inr (is, same_Some _ _ (sym at ∙ ap (slice_get result) is ∙ new_at))
  ]

  past_within : (s : ℕ) → 1 ≤ s → s < length nodes → (1 ≤ to s) × (to s < suc (length nodes))
  past_within s one lt = elim (cases_eq s node) [
    | inl is ↦ let e : to s ≡ length nodes = ap to is ∙ past_same node (length nodes) in (omega (arith, e, lt), omega (arith, e))
    | inr differ ↦ let e = past_other node (length nodes) s differ in (omega (arith, e, one), omega (arith, e, lt))
  ]

  edge_in : (m slot s : ℕ) → IsEdge result m slot s → (1 ≤ s) × (s < length result)
  edge_in m slot s edge =
      let found = edge_node result m slot s edge in
      elim (place m found.0 found.1) [
        | inl old ↦
            let leads : slice_get (map to (node_succs old.0)) slot ≡ Some s = sym (ap (λ n. slice_get (node_succs n) slot) old.2 ∙ ap (λ l. slice_get l slot) (redirected_succs to old.0)) ∙ found.2 in
            let from = mapped_from to (slice_get (node_succs old.0) slot) s (sym (slice_get-map to (node_succs old.0) slot) ∙ leads) in
            let target = is_graph.can.succs m slot from.0 (ap (λ o. slice_get (succs_of o) slot) old.1 ∙ from.1) in
            let is = past_within from.0 target.0 target.1 in
            (omega (arith, is.0, from.2), omega (arith, is.1, from.2, result_length))
        | inr new ↦
            let is = sym (one_item node s slot (sym (ap (λ n. slice_get (node_succs n) slot) new.1) ∙ found.2)) in
            (omega (arith, is, some), omega (arith, is, within, result_length))
      ]

  -- each node is still reached
  old_reached : (n : ℕ) → Reached nodes n → Reached result n
  old_reached n at_start = at_start
  old_reached n (along m slot s reached edge) = elim (cases_eq n node) [
    | inl is ↦
        let e : to n ≡ length nodes = ap to is ∙ past_same node (length nodes) in
        let new : Reached result (length nodes) = along m slot (length nodes) (old_reached m reached) (subst (IsEdge result m slot) e (edge_to m slot n edge)) in
        subst (Reached result) (sym is) (along (length nodes) 0 node new (ap (λ o. slice_get (succs_of o) 0) new_at))
    | inr differ ↦ along m slot n (old_reached m reached) (subst (IsEdge result m slot) (past_other node (length nodes) n differ) (edge_to m slot n edge))
  ]

  new_reached : (n : ℕ) → n ≡ node → Reached nodes n → Reached result (length nodes)
  new_reached n is at_start = absurd (omega (arith, is, some))
  new_reached n is (along m slot s reached edge) =
      let e : to n ≡ length nodes = ap to is ∙ past_same node (length nodes) in
      along m slot (length nodes) (old_reached m reached) (subst (IsEdge result m slot) e (edge_to m slot n edge))

  pub put_graph : IsGraph vars received (put_before node x rhs nodes)
  put_graph =
      let can = is_graph.can in
      record {
        can = record {
          start = (to can.start.0, old_at 0 (Start can.start.0) can.start.1);
          only = λ n s at. elim (place n (Start s) at) [
            | inl old ↦ let was = redirected_start to old.0 s (sym old.2) in can.only n was.0 (old.1 ∙ ap Some was.1)
            | inr new ↦ let never = new.1 in absurd (cc)
          ];
          succs = edge_in;
          below = λ n found at. elim (place n found at) [
            | inl old ↦ subst (AllBelow (length vars)) (sym (ap node_vars old.2 ∙ redirected_vars to old.0)) (can.below n old.0 old.1)
            | inr new ↦ subst (λ q. AllBelow (length vars) (node_vars q)) (sym new.1) (var, below)
          ];
          received_below = can.received_below;
          received_differ = can.received_differ;
          names = can.names;
        };
        reached = λ n lt. elim (cases_lt n (length nodes)) [
          | inl old ↦ old_reached n (is_graph.reached n old)
          | inr ge ↦
              let is : length nodes ≡ n = omega (arith, ge, lt, result_length) in
              subst (Reached result) is (new_reached node refl (is_graph.reached node within))
        ];
      }

-- ---- one node changed

-- there are equally many nodes
pub change_length : (n : ℕ) (change : Change) (nodes : List Node) → length (change_at n change nodes) ≡ length nodes
change_length n change [] = refl
change_length zero change (node ∷ nodes) = refl
change_length (suc n) change (node ∷ nodes) = ap suc (change_length n change nodes)

-- and after a change of each node
pub change_each_length : (changes : ℕ → Change) (count n : ℕ) (nodes : List Node)
    → length (change_each changes count n nodes) ≡ length nodes
change_each_length changes zero n nodes = refl
change_each_length changes (suc count) n nodes = change_each_length changes count (suc n) (change_at n (changes n) nodes) ∙ change_length n (changes n) nodes

-- each node has its successors
pub change_succs : (n : ℕ) (change : Change) (nodes : List Node) (m : ℕ)
    → succs_of (slice_get (change_at n change nodes) m) ≡ succs_of (slice_get nodes m)
change_succs n change [] m = refl
change_succs zero change (node ∷ nodes) zero = changed_succs change node
change_succs zero change (node ∷ nodes) (suc m) = refl
change_succs (suc n) change (node ∷ nodes) zero = refl
change_succs (suc n) change (node ∷ nodes) (suc m) = change_succs n change nodes m

-- a node after the change is the old one or the old one changed
change_get : (n : ℕ) (change : Change) (nodes : List Node) (m : ℕ) (found : Node)
    → slice_get (change_at n change nodes) m ≡ Some found
    → (old : Node) × (slice_get nodes m ≡ Some old) × ((found ≡ old) ⊎ (found ≡ changed change old))
change_get n change [] m found at = cc
change_get zero change (node ∷ nodes) zero found at = (node, refl, inr (sym (same_Some (changed change node) found at)))
change_get zero change (node ∷ nodes) (suc m) found at = (found, at, inl refl)
change_get (suc n) change (node ∷ nodes) zero found at = (found, at, inl refl)
change_get (suc n) change (node ∷ nodes) (suc m) found at = change_get n change nodes m found at

-- a change leaves Start as it is
change_start : (n : ℕ) (change : Change) (nodes : List Node) (s : ℕ)
    → slice_get nodes 0 ≡ Some (Start s) → slice_get (change_at n change nodes) 0 ≡ Some (Start s)
change_start n change [] s at = cc
change_start zero change (node ∷ nodes) s at = ap (λ q. Some (changed change q)) (same_Some node (Start s) at)
change_start (suc n) change (node ∷ nodes) s at = at

-- so the changed nodes are a graph
pub change_graph : (vars : List (List ℕ)) (received : List ℕ) (nodes : List Node) (n : ℕ) (change : Change)
    → IsGraph vars received nodes → ChangeBelow (length vars) change
    → IsGraph vars received (change_at n change nodes)
change_graph vars received nodes n change is_graph fits =
    let can = is_graph.can in
    let long = change_length n change nodes in
    let edge_back = λ (m slot s : ℕ) (edge : IsEdge (change_at n change nodes) m slot s). (ap (λ l. slice_get l slot) (sym (change_succs n change nodes m)) ∙ edge) in
    record {
      can = record {
        start = (can.start.0, change_start n change nodes can.start.0 can.start.1);
        only = λ m s at. (let old = change_get n change nodes m (Start s) at in elim old.2 [
          | inl same ↦ can.only m s (old.1 ∙ ap Some (sym same))
          | inr is ↦ let was = changed_start change old.0 s (sym is) in can.only m was.0 (old.1 ∙ ap Some was.1)
        ]);
        succs = λ m slot s edge. (let target = can.succs m slot s (edge_back m slot s edge) in (target.0, omega (arith, target.1, long)));
        below = λ m found at. (let old = change_get n change nodes m found at in elim old.2 [
          | inl same ↦ subst (λ q. AllBelow (length vars) (node_vars q)) (sym same) (can.below m old.0 old.1)
          | inr is ↦ subst (λ q. AllBelow (length vars) (node_vars q)) (sym is) (changed_below change (length vars) fits old.0 (can.below m old.0 old.1))
        ]);
        received_below = can.received_below;
        received_differ = can.received_differ;
        names = can.names;
      };
      reached = λ m lt. still m (is_graph.reached m (omega (arith, lt, long)));
    }
  where
    still : (m : ℕ) → Reached nodes m → Reached (change_at n change nodes) m
    still m at_start = at_start
    still m (along k slot s reached edge) = along k slot m (still k reached) (ap (λ l. slice_get l slot) (change_succs n change nodes k) ∙ edge)

-- the other nodes stay, and so does one that is kept
pub change_other : (n m : ℕ) (change : Change) (nodes : List Node) → (m ≡ n → ⊥)
    → slice_get (change_at n change nodes) m ≡ slice_get nodes m
change_other n m change [] differ = refl
change_other zero zero change (node ∷ nodes) differ = absurd (differ refl)
change_other zero (suc m) change (node ∷ nodes) differ = refl
change_other (suc n) zero change (node ∷ nodes) differ = refl
change_other (suc n) (suc m) change (node ∷ nodes) differ = change_other n m change nodes (λ e. differ (ap suc e))

-- a change that keeps a node changes nothing
pub change_none : (n : ℕ) (nodes : List Node) → change_at n Unchanged nodes ≡ nodes
change_none n [] = refl
change_none zero (node ∷ nodes) = ap (λ q. q ∷ nodes) (changed_not node)
change_none (suc n) (node ∷ nodes) = ap (λ l. node ∷ l) (change_none n nodes)
