-- Laws: a graph can be made of nodes with assignments in the place of one and with further variables, and they make no
-- calls but those of the nodes. For proofs only.
use Rattle.std.proofs.Common.{◌≡◌, ◌⊎◌, inl, inr, ℕ, zero, suc, ◌+◌, ◌<◌, ◌≤◌, List, [], ◌∷◌, ◌++◌, length, take, length-append, slice_get, slice_set, Option, Some, None, refl, sym, ap, ◌∙◌, subst, arith}
use Rattle.std.proofs.lemmas.Bool.{cases_eq}
use Rattle.std.proofs.lemmas.List.{length-set, take-append-le}
use Rattle.mir_base.specs.BelowLaws.{all_below_more}
use Rattle.mir_base.specs.Shapes.{AllBelow, AllDiffer, rhs_vars}
use Rattle.flow_graph.specs.declared.nodes.Node.{Node}
use Rattle.flow_graph.specs.declared.nodes.Node.TheVariants.{Start, Skip, Assign}
use Rattle.flow_graph.specs.Calls.{NodesCall, node_call}
use Rattle.flow_graph.specs.Graphs.{CanMake, GraphShape, node_succs, node_vars, succs_of}
use Rattle.graph_edit.specs.Insertions.{Insertion, InsertionsBelow, chain, entry_among}
use Rattle.flow_graph.specs.ListLaws.{get_append, set_elsewhere, set_here}
use Rattle.program_pass.specs.ChainLaws.{chain_long, stood_kept, stood_long}
use Rattle.program_pass.specs.Chains.{stood}

-- a node that is new: the first of the assignments, a later one, or the Skip where there are none. It leads to the end
-- or to a new node
pub record IsNew (vars : ℕ) (first last end : ℕ) (node : Node) : Type 0 where
  pub succs : (slot s : ℕ) → slice_get (node_succs node) slot ≡ Some s
      → (s ≡ end) ⊎ ((first ≤ s) × (s < last))
  pub below : AllBelow vars (node_vars node)
  pub call : node_call node ≡ None
  pub no_start : (s : ℕ) → node ≡ Start s → ⊥

-- an assignment that leads to the end or to a new node is such a node
new_assign : (vars first last end : ℕ) (put : Insertion) (next : ℕ)
    → (put.var < vars) × AllBelow vars (rhs_vars put.rhs) → (next ≡ end) ⊎ ((first ≤ next) × (next < last))
    → IsNew vars first last end (Assign put.var put.rhs next)
new_assign vars first last end put next below to = record {
  succs = λ slot s e. only slot s e;
  below = below;
  call = refl;
  no_start = λ s e. cc;
}
  where
    only : (slot s : ℕ) → slice_get (next ∷ []) slot ≡ Some s → (s ≡ end) ⊎ ((first ≤ s) × (s < last))
    only zero s e = let same : next ≡ s = cc in subst (λ n. (n ≡ end) ⊎ ((first ≤ n) × (n < last))) same to
    only (suc slot) s e = cc

-- where assignments that are numbered from `fresh` on are entered
entry_to : (first fresh last end : ℕ) (puts : List Insertion) → first ≤ fresh → fresh + length puts ≤ last
    → (entry_among end fresh puts ≡ end) ⊎ ((first ≤ entry_among end fresh puts) × (entry_among end fresh puts < last))
entry_to first fresh last end [] le room = inl refl
entry_to first fresh last end (put ∷ puts) le room = inr (le, omega (arith, room))

-- a node of a chain
chain_new : (vars first last end : ℕ) (puts : List Insertion) (fresh : ℕ) → first ≤ fresh → fresh + length puts ≤ last
    → InsertionsBelow vars puts → (i : ℕ) (node : Node) → slice_get (chain end fresh puts) i ≡ Some node
    → IsNew vars first last end node
chain_new vars first last end [] fresh le room below i node e = cc
chain_new vars first last end (put ∷ puts) fresh le room below zero node e =
    let same : Assign put.var put.rhs (entry_among end (suc fresh) puts) ≡ node = cc in
    subst (IsNew vars first last end) same (new_assign vars first last end put (entry_among end (suc fresh) puts) below.0 (entry_to first (suc fresh) last end puts (omega (arith, le)) (omega (arith, room))))
chain_new vars first last end (put ∷ puts) fresh le room below (suc i) node e = chain_new vars first last end puts (suc fresh) (omega (arith, le)) (omega (arith, room)) below.1 i node e

-- a node was there before, or is new
pub stood_node : (vars : ℕ) (nodes : List Node) (n : ℕ) (puts : List Insertion) (end : ℕ) → n < length nodes
    → InsertionsBelow vars puts → (m : ℕ) (node : Node) → slice_get (stood nodes n puts end) m ≡ Some node
    → ((m ≡ n → ⊥) × (slice_get nodes m ≡ Some node)) ⊎ ((1 ≤ m) ⊎ (m ≡ n)) × IsNew vars (length nodes) (length (stood nodes n puts end)) end node
stood_node vars nodes n [] end lt below m node e = elim (cases_eq m n) [
  | inl same ↦
      let is : Skip end ≡ node = let both : Some (Skip end) ≡ Some node = sym (set_here nodes n (Skip end) lt) ∙ ap (slice_get (slice_set nodes n (Skip end))) (sym same) ∙ e in cc in
      inr (
        inr same,
        subst (IsNew vars (length nodes) (length (stood nodes n [] end)) end) is (record {
          succs = λ slot s f. only slot s f;
          below = tt;
          call = refl;
          no_start = λ s f. cc;
        }),
      )
  | inr apart ↦ inl (apart, sym (set_elsewhere nodes n m (Skip end) apart) ∙ e)
]
  where
    only : (slot s : ℕ) → slice_get (end ∷ []) slot ≡ Some s → (s ≡ end) ⊎ ((length nodes ≤ s) × (s < length (stood nodes n [] end)))
    only zero s f = let same : end ≡ s = cc in inl (sym same)
    only (suc slot) s f = cc
stood_node vars nodes n (put ∷ puts) end lt below m node e =
    let head : Node = Assign put.var put.rhs (entry_among end (length nodes) puts) in
    let olds : List Node = slice_set nodes n head in
    let news : List Node = chain end (length nodes) puts in
    let long : length (olds ++ news) ≡ length nodes + length puts = length-append olds news ∙ ap (λ k. k + length news) (length-set nodes n head) ∙ ap (λ k. length nodes + k) (chain_long end (length nodes) puts) in
    let room : length nodes + length puts ≤ length (olds ++ news) = omega (arith, long) in
    elim (get_append olds news m node e) [
      | inl old ↦ elim (cases_eq m n) [
        | inl same ↦
            let is : head ≡ node = let both : Some head ≡ Some node = sym (set_here nodes n head lt) ∙ ap (slice_get olds) (sym same) ∙ old in cc in
            inr (inr same, subst (IsNew vars (length nodes) (length (olds ++ news)) end) is (new_assign vars (length nodes) (length (olds ++ news)) end put (entry_among end (length nodes) puts) below.0 (entry_to (length nodes) (length nodes) (length (olds ++ news)) end puts (omega arith) room)))
        | inr apart ↦ inl (apart, sym (set_elsewhere nodes n m head apart) ∙ old)
      ]
      | inr new ↦
          let at : m ≡ length olds + new.0 = new.1 in
          inr (inl (omega (arith, at, length-set nodes n head, lt)), chain_new vars (length nodes) (length (olds ++ news)) end puts (length nodes) (omega arith) room below.1 new.0 node new.2)
    ]

-- a graph can be made of them, where one can be made of the nodes and the new ones lead to a node that is not the first
pub stood_can : (vars : List (List ℕ)) (received : List ℕ) (nodes : List Node) (n : ℕ) (puts : List Insertion) (end : ℕ)
    → CanMake vars received nodes → n < length nodes → 1 ≤ n → (1 ≤ end) × (end < length nodes)
    → InsertionsBelow (length vars) puts → CanMake vars received (stood nodes n puts end)
stood_can vars received nodes n puts end can lt some to below = record {
  start = (can.start.0, stood_kept nodes n puts end 0 (λ same. omega (arith, same, some)) (omega (arith, lt)) ∙ can.start.1);
  only = λ m s e. elim (stood_node (length vars) nodes n puts end lt below m (Start s) e) [
    | inl old ↦ can.only m s old.1
    | inr new ↦ absurd (new.1.no_start s refl)
  ];
  succs = λ m slot s edge. edge_to m slot s (slice_get (stood nodes n puts end) m) refl edge;
  below = λ m node e. elim (stood_node (length vars) nodes n puts end lt below m node e) [ inl old ↦ can.below m node old.1 | inr new ↦ new.1.below ];
  received_below = can.received_below;
  received_differ = can.received_differ;
  names = can.names;
}
  where
    more : length nodes ≤ length (stood nodes n puts end)
    more = stood_long nodes n puts end

    edge_to : (m slot s : ℕ) (o : Option Node) → slice_get (stood nodes n puts end) m ≡ o
        → slice_get (succs_of o) slot ≡ Some s → (1 ≤ s) × (s < length (stood nodes n puts end))
    edge_to m slot s None e edge = cc
    edge_to m slot s (Some node) e edge = elim (stood_node (length vars) nodes n puts end lt below m node e) [
      | inl old ↦ let there = can.succs m slot s (ap (λ o. slice_get (succs_of o) slot) old.1 ∙ edge) in (there.0, omega (arith, there.1, stood_long nodes n puts end))
      | inr new ↦ elim (new.1.succs slot s edge) [
        | inl same ↦ (omega (arith, same, to.0), omega (arith, same, to.1, stood_long nodes n puts end))
        | inr within ↦ (omega (arith, within.0, lt), within.1)
      ]
    ]

-- they make no calls but those of the nodes
pub stood_calls : (vars : ℕ) (nodes : List Node) (n : ℕ) (puts : List Insertion) (end : ℕ) → n < length nodes
    → InsertionsBelow vars puts → (called count : ℕ) → NodesCall (stood nodes n puts end) called count
    → NodesCall nodes called count
stood_calls vars nodes n puts end lt below called count c = elim (stood_node vars nodes n puts end lt below c.number c.node c.here) [
  | inl old ↦ record { number = c.number; node = c.node; here = old.1; calls = c.calls }
  | inr new ↦ absurd (let e : None ≡ Some (called, count) = sym new.1.call ∙ c.calls in cc)
]

-- joined lists
pub below_append : (vars : ℕ) (puts others : List Insertion) → InsertionsBelow vars puts → InsertionsBelow vars others → InsertionsBelow vars (puts ++ others)
below_append vars [] others b c = c
below_append vars (put ∷ puts) others b c = (b.0, below_append vars puts others b.1 c)

-- a graph can be made with further variables
pub wide_can : (vars names : List (List ℕ)) (received : List ℕ) (nodes : List Node) → CanMake vars received nodes
    → AllDiffer (vars ++ names) → CanMake (vars ++ names) received nodes
wide_can vars names received nodes can differ =
    let more : length vars ≤ length (vars ++ names) = omega (arith, length-append vars names) in
    record {
      start = can.start;
      only = can.only;
      succs = can.succs;
      below = λ n node here. all_below_more (length vars) (length (vars ++ names)) (node_vars node) more (can.below n node here);
      received_below = all_below_more (length vars) (length (vars ++ names)) received more can.received_below;
      received_differ = can.received_differ;
      names = differ;
    }

-- with further variables after its own a graph has its globals
pub globals_stay : (shared : ℕ) (vars names : List (List ℕ)) (made : GraphShape) → shared ≤ length vars
    → made.shared ≡ shared → made.vars ≡ vars ++ names → take made.shared made.vars ≡ take shared vars
globals_stay shared vars names made least shared_is vars_are = ap (λ k. take k made.vars) shared_is ∙ ap (take shared) vars_are ∙ take-append-le shared vars names least
