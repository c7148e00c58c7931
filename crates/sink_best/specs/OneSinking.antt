-- A sinking of a graph is one as the laws of images ask. For proofs only.
use Rattle.std.proofs.Common.{◌≡◌, ◌⊎◌, ◌+◌, ◌<◌, ◌≤◌, ℕ, Bool, true, false, nat_eq, nat_lt, ◌||◌, List, [], ◌∷◌, length, slice_get, Option, Some, None, option_map, inl, inr, refl, sym, ap, ◌∙◌, subst, arith}
use Rattle.std.specs.List.{list_any}
use Rattle.std.proofs.lemmas.Bool.{cases_Bool, cases_lt, eq-eqb, eqb-true, false≢true, le-ltb, lt-ltb, or_cases, or_left, or_right, true≢false}
use Rattle.std.proofs.lemmas.Option.{none-some, same_Some, slice_get_past, slice_get_within}
use Rattle.mir_base.specs.ItemLaws.{one_item}
use Rattle.mir_base.specs.Expressions.{divides}
use Rattle.mir_base.specs.Shapes.{rhs_vars}
use Rattle.mir_base.specs.declared.instructions.Rhs.{Rhs}
use Rattle.flow_graph.specs.declared.nodes.Node.{Node}
use Rattle.flow_graph.specs.declared.nodes.Node.TheVariants.{Start, Skip, Assign, Print, Guard, Call, Test, Return}
use Rattle.flow_graph.specs.Graphs.{GraphShape, IsGraph, assigns, is_start, node_reads, succs_of}
use Rattle.flow_graph.specs.ListLaws.{some_at}
use Rattle.flow_graph.specs.Numbering.{is_in}
use Rattle.flow_graph.specs.Retained.{redirected}
use Rattle.graph_edit.specs.Accesses.{blocks_at, blocks_pattern, is_occurrence, is_sinkable, occurs_at}
use Rattle.graph_edit.specs.ChangeLaws.{changed_not}
use Rattle.graph_edit.specs.InsertionGraphs.{rewritten_graph}
use Rattle.graph_edit.specs.InsertionNodes.{node_at, old_get}
use Rattle.graph_edit.specs.Insertions.{Change, Insertion, Removed, Replaced, Rewriting, Unchanged, changed, entry, put_below, rewritten, rewritten_nodes}
use Rattle.graph_edit.specs.OccurrenceLaws.{assigning_blocks, is_occurrence_of, occurrence_is, reading_blocks, sinkable_is}
use Rattle.sink_code.specs.DelayLaws.{delayed_apart, delayed_sinkable}
use Rattle.sink_code.specs.Delaying.{IsDelayedTo}
use Rattle.sink_code.specs.Sinking.{put_for}
use Rattle.sink_rounds.specs.Steps.{IsSinking}
use Rattle.sink_rounds.specs.Maximal.{late_delayed}
use Rattle.sink_rounds.specs.StepLaws.{step_fits}
use Rattle.path_images.specs.Ends.{IsEndOf, end_rest, end_through}
use Rattle.path_images.specs.Images.{Ask, Is, Reads, Sets}
use Rattle.path_images.specs.Order.{Clash, both_set, read_set, set_read}
use Rattle.path_images.specs.Sunk.{Goes, IsOneSinking, Passes, Put}
use Rattle.sink_best.specs.GraphWalks.{IsWalk, firm_at, graph_does, is_firm, last_edge, node_does, sinkable_loose, walk_alone, walk_shorter, walk_within}
use Rattle.sink_best.specs.Chains.{InChain, assignment_of, chain_before, down, down_at, down_end, in_chain, listed_put, one_listed, pattern, put_listed}

-- ---- what a pattern does

-- what an assignment of the pattern does
abbrev pub pattern_does : Ask Insertion → Insertion → Bool
pattern_does (Reads y) p = is_in y (rhs_vars p.rhs)
pattern_does (Sets y) p = nat_eq y p.var
pattern_does (Is q) p = is_occurrence q.var q.rhs (Some (Assign p.var p.rhs 0))

-- its assignment does the same
pub assign_does : (graph : GraphShape) (q : Ask Insertion) (x : ℕ) (t : Rhs) (next : ℕ)
    → node_does graph q (Some (Assign x t next)) ≡ pattern_does q (pattern x t)
assign_does graph (Reads y) x t next = refl
assign_does graph (Sets y) x t next = refl
assign_does graph (Is p) x t next = refl

-- it is a change to a Skip
abbrev pub is_removed : Change → Bool
is_removed Unchanged = false
is_removed (Replaced rhs) = false
is_removed Removed = true

-- such a change is the removal
removed_is : (c : Change) → is_removed c ≡ true → c ≡ Removed
removed_is Unchanged e = absurd (false≢true e)
removed_is (Replaced rhs) e = absurd (false≢true e)
removed_is Removed e = refl

-- what is delayed of y, as a pattern
pub late_is : (y : ℕ) (o : Option Rhs) (p : Insertion) → option_map (pattern y) o ≡ Some p → (o ≡ Some p.rhs) × (p.var ≡ y)
late_is y None p e = absurd (none-some p e)
late_is y (Some t) p e = (let same : pattern y t ≡ p = same_Some (pattern y t) p e in (ap (λ (q : Insertion). Some q.rhs) same, ap (λ (q : Insertion). q.var) (sym same)))

-- where no pattern of y is delayed, no right side is
late_none : (y : ℕ) (o : Option Rhs) → option_map (pattern y) o ≡ None → o ≡ None
late_none y None e = refl
late_none y (Some t) e = absurd (none-some (pattern y t) (sym e))

-- ---- what a node blocks

-- `list_any` is true where the test holds of a number of the list
pub any_of : (f : ℕ → Bool) (y : ℕ) (xs : List ℕ) → is_in y xs ≡ true → f y ≡ true → list_any f xs ≡ true
any_of f y [] among is = absurd (false≢true among)
any_of f y (z ∷ xs) among is = elim (or_cases (nat_eq z y) (is_in y xs) among) [
  | inl same ↦ or_left (f z) (list_any f xs) (ap f (eqb-true z y same) ∙ is)
  | inr later ↦ or_right (f z) (list_any f xs) (any_of f y xs later is)
]

-- and where it is true, there is such a number
pub some_of : (f : ℕ → Bool) (xs : List ℕ) → list_any f xs ≡ true → (y : ℕ) × (is_in y xs ≡ true) × (f y ≡ true)
some_of f [] e = absurd (false≢true e)
some_of f (z ∷ xs) e = elim (or_cases (f z) (list_any f xs) e) [
  | inl is ↦ (z, or_left (nat_eq z z) (is_in z xs) (eq-eqb z z refl), is)
  | inr later ↦ (let r = some_of f xs later in (r.0, or_right (nat_eq z r.0) (is_in r.0 xs) r.1, r.2))
]

module _ (graph : GraphShape) (p : Insertion) where
  abbrev OnNode : Option Node → Type 0
  OnNode o = Clash Insertion (λ q. pattern_does q p) (λ q. node_does graph q o)

  -- a node that clashes with a pattern blocks it
  pub clash_blocks : (o : Option Node) → OnNode o → blocks_pattern graph p.var p.rhs o ≡ true
  clash_blocks None (both_set y a b) = absurd (false≢true b)
  clash_blocks None (set_read y a b) = absurd (false≢true b)
  clash_blocks None (read_set y a b) = absurd (false≢true b)
  clash_blocks (Some node) (both_set y a b) = assigning_blocks graph p.var p.rhs node (ap (λ z. assigns graph z node) (sym (eqb-true y p.var a)) ∙ b)
  clash_blocks (Some node) (set_read y a b) = reading_blocks graph p.var p.rhs node (ap (λ z. is_in z (node_reads graph node)) (sym (eqb-true y p.var a)) ∙ b)
  clash_blocks (Some node) (read_set y a b) =
      let some = any_of (λ z. assigns graph z node) y (rhs_vars p.rhs) a b in
      or_right (is_start node) _ (or_right (is_in p.var (node_reads graph node)) _ (or_right (assigns graph p.var node) (list_any (λ z. assigns graph z node) (rhs_vars p.rhs)) some))

  -- and a node that blocks it is Start or clashes with it
  pub blocks_clash : (node : Node) → blocks_pattern graph p.var p.rhs (Some node) ≡ true → (is_start node ≡ true) ⊎ OnNode (Some node)
  blocks_clash node e = elim (or_cases (is_start node) (is_in p.var (node_reads graph node) || (assigns graph p.var node || list_any (λ z. assigns graph z node) (rhs_vars p.rhs))) e) [
    | inl start ↦ inl start
    | inr rest ↦ elim (or_cases (is_in p.var (node_reads graph node)) (assigns graph p.var node || list_any (λ z. assigns graph z node) (rhs_vars p.rhs)) rest) [
      | inl reads ↦ inr (set_read p.var (eq-eqb p.var p.var refl) reads)
      | inr more ↦ elim (or_cases (assigns graph p.var node) (list_any (λ z. assigns graph z node) (rhs_vars p.rhs)) more) [
        | inl sets ↦ inr (both_set p.var (eq-eqb p.var p.var refl) sets)
        | inr any ↦ (let r = some_of (λ z. assigns graph z node) (rhs_vars p.rhs) any in inr (read_set r.0 r.1 r.2))
      ]
    ]
  ]

-- ---- a node that leads elsewhere

-- it reads the same variables
redirected_reads : (graph new : GraphShape) → new.shared ≡ graph.shared → (y : ℕ) (go : ℕ → ℕ) (node : Node)
    → is_in y (node_reads new (redirected go node)) ≡ is_in y (node_reads graph node)
redirected_reads graph new same y go (Start next) = refl
redirected_reads graph new same y go (Skip next) = refl
redirected_reads graph new same y go (Assign x rhs next) = refl
redirected_reads graph new same y go (Print a next) = refl
redirected_reads graph new same y go (Guard test number next) = refl
redirected_reads graph new same y go (Call into unit operands next) = ap (λ k. is_in y (node_reads (record graph { shared = k }) (Call into unit operands next))) same
redirected_reads graph new same y go (Test test taken other) = refl
redirected_reads graph new same y go (Return a) = ap (λ k. is_in y (node_reads (record graph { shared = k }) (Return a))) same

-- it assigns the same variables
redirected_sets : (graph new : GraphShape) → new.shared ≡ graph.shared → (y : ℕ) (go : ℕ → ℕ) (node : Node)
    → assigns new y (redirected go node) ≡ assigns graph y node
redirected_sets graph new same y go (Start next) = refl
redirected_sets graph new same y go (Skip next) = refl
redirected_sets graph new same y go (Assign x rhs next) = refl
redirected_sets graph new same y go (Print a next) = refl
redirected_sets graph new same y go (Guard test number next) = refl
redirected_sets graph new same y go (Call None unit operands next) = ap (λ k. nat_lt y k) same
redirected_sets graph new same y go (Call (Some x) unit operands next) = ap (λ k. nat_lt y k || nat_eq y x) same
redirected_sets graph new same y go (Test test taken other) = refl
redirected_sets graph new same y go (Return a) = refl

-- it is an occurrence of the same patterns
redirected_is : (x : ℕ) (t : Rhs) (go : ℕ → ℕ) (node : Node) → is_occurrence x t (Some (redirected go node)) ≡ is_occurrence x t (Some node)
redirected_is x t go (Start next) = refl
redirected_is x t go (Skip next) = refl
redirected_is x t go (Assign y rhs next) = refl
redirected_is x t go (Print a next) = refl
redirected_is x t go (Guard test number next) = refl
redirected_is x t go (Call into unit operands next) = refl
redirected_is x t go (Test test taken other) = refl
redirected_is x t go (Return a) = refl

-- so it does the same
pub redirected_does : (graph new : GraphShape) → new.shared ≡ graph.shared
    → (q : Ask Insertion) (go : ℕ → ℕ) (node : Node)
    → node_does new q (Some (redirected go node)) ≡ node_does graph q (Some node)
redirected_does graph new same (Reads y) go node = redirected_reads graph new same y go node
redirected_does graph new same (Sets y) go node = redirected_sets graph new same y go node
redirected_does graph new same (Is p) go node = redirected_is p.var p.rhs go node

-- and it is firm where the node is
pub redirected_firm : (go : ℕ → ℕ) (node : Node) → is_firm (Some (redirected go node)) ≡ is_firm (Some node)
redirected_firm go (Start next) = refl
redirected_firm go (Skip next) = refl
redirected_firm go (Assign y rhs next) = refl
redirected_firm go (Print a next) = refl
redirected_firm go (Guard test number next) = refl
redirected_firm go (Call into unit operands next) = refl
redirected_firm go (Test test taken other) = refl
redirected_firm go (Return a) = refl

-- ---- a sinking

module _ (graph : GraphShape) (is_graph : IsGraph graph.vars graph.received graph.nodes) (r : Rewriting) (late : ℕ → ℕ → Option Rhs) (sinks : IsSinking graph r late) where
  abbrev Walk : List ℕ → Type 0
  Walk = IsWalk graph.nodes

  abbrev new : GraphShape
  new = rewritten r [] graph

  abbrev raw : List Node
  raw = rewritten_nodes r graph.nodes

  abbrev to : ℕ → ℕ
  to = entry r.inserts (length graph.nodes)

  abbrev pub is_old : ℕ → Bool
  is_old k = nat_lt k (length graph.nodes)

  abbrev pub goes_away : ℕ → Bool
  goes_away n = is_removed (r.changes n)

  abbrev pub late_of : ℕ → ℕ → Option Insertion
  late_of n y = option_map (pattern y) (late n y)

  abbrev pub chain : ℕ → List ℕ
  chain = chain_before r graph.nodes

  abbrev pub what : ℕ → Insertion
  what c = assignment_of (slice_get (rewritten_nodes r graph.nodes) c)

  abbrev PutAt : Insertion → ℕ → Type 0
  PutAt p n = Put Insertion Walk (graph_does graph) pattern_does is_old goes_away late_of chain what (graph_does new) p n

  abbrev PassesAt : Insertion → ℕ → ℕ → Type 0
  PassesAt p y n = Passes Insertion Walk (graph_does graph) pattern_does is_old goes_away late_of chain what (graph_does new) p y n

  -- ---- chains

  pub in_it : (n c : ℕ) (rest : List ℕ) → IsEndOf (c ∷ rest) (chain n) → InChain r graph.nodes n c rest
  in_it n c rest at = in_chain r graph.nodes sinks.past n c rest at

  what_in : (n c : ℕ) (rest : List ℕ) (at : IsEndOf (c ∷ rest) (chain n)) → what c ≡ (in_it n c rest at).put
  what_in n c rest at = ap assignment_of (in_it n c rest at).is

  pub put_of : (n y : ℕ) (t : Rhs) → put_for (r.inserts n) y ≡ Some t → PutAt (pattern y t) n
  put_of n y t put =
      let l = put_listed (r.inserts n) y t put in
      let first = length graph.nodes + put_below r.inserts n in
      let at = down_at first (length (r.inserts n)) l.0 (slice_get_within (r.inserts n) l.0 (pattern y t) l.1) in
      let i = in_it n (first + l.0) (down first l.0) at in
      let there = i.at in
      let same : i.j ≡ l.0 = omega (arith, there) in
      record {
        node = first + l.0;
        rest = down first l.0;
        at = at;
        is = what_in n (first + l.0) (down first l.0) at ∙ same_Some i.put (pattern y t) (sym i.listed ∙ ap (slice_get (r.inserts n)) same ∙ l.1);
      }

  chain_put : (n c : ℕ) (rest : List ℕ) → IsEndOf (c ∷ rest) (chain n) → put_for (r.inserts n) (what c).var ≡ Some (what c).rhs
  chain_put n c rest at =
      let i = in_it n c rest at in
      ap (λ (p : Insertion). put_for (r.inserts n) p.var) (what_in n c rest at) ∙ listed_put (r.inserts n) i.j i.put (sinks.apart n) i.listed ∙ ap (λ (p : Insertion). Some p.rhs) (sym (what_in n c rest at))

  pub put_for_of : (p : Insertion) (n : ℕ) → PutAt p n → put_for (r.inserts n) p.var ≡ Some p.rhs
  put_for_of p n put = ap (λ (q : Insertion). put_for (r.inserts n) q.var) (sym put.is) ∙ chain_put n put.node put.rest put.at ∙ ap (λ (q : Insertion). Some q.rhs) put.is

  -- a pattern that is put is delayed there by every path
  pub put_delayed_to : (n x : ℕ) (t : Rhs) → put_for (r.inserts n) x ≡ Some t → IsDelayedTo graph x t n
  put_delayed_to n x t put = late_delayed graph r late sinks n x t (sinks.put n x t put)

  put_loose : (n x : ℕ) (t : Rhs) → n < length graph.nodes → put_for (r.inserts n) x ≡ Some t → divides t ≡ false
  put_loose n x t lt put = delayed_sinkable graph is_graph n x t lt (put_delayed_to n x t put)

  -- ---- old nodes

  kept_does : (n : ℕ) → n < length graph.nodes → goes_away n ≡ false → (q : Ask Insertion) → graph_does new q n ≡ graph_does graph q n
  kept_does n lt kept q = elim (sinks.only n) [
    | inl unchanged ↦
        let node = some_at graph.nodes n lt in
        ap (node_does new q) (old_get r graph.nodes n node.0 node.1 ∙ ap (λ c. Some (redirected to (changed c node.0))) unchanged)
        ∙ redirected_does graph new refl q to (changed Unchanged node.0) ∙ ap (λ m. node_does graph q (Some m)) (changed_not node.0) ∙ ap (node_does graph q) (sym node.1)
    | inr both ↦ absurd (true≢false (sym (ap is_removed both.0) ∙ kept))
  ]

  gone_is : (n : ℕ) → goes_away n ≡ true → is_sinkable (slice_get graph.nodes n) ≡ true
  gone_is n is = elim (sinks.only n) [
    | inl unchanged ↦ absurd (true≢false (sym is ∙ ap is_removed unchanged))
    | inr both ↦ both.1
  ]

  gone_node : (n : ℕ) → goes_away n ≡ true → (next : ℕ) × (slice_get raw n ≡ Some (Skip next))
  gone_node n is =
      let w = sinkable_is (slice_get graph.nodes n) (gone_is n is) in
      (to w.2, old_get r graph.nodes n (Assign w.0 w.1 w.2) w.3 ∙ ap (λ c. Some (redirected to (changed c (Assign w.0 w.1 w.2)))) (removed_is (r.changes n) is))

  skip_does : (g : GraphShape) (q : Ask Insertion) (next : ℕ) → node_does g q (Some (Skip next)) ≡ false
  skip_does g (Reads y) next = refl
  skip_does g (Sets y) next = refl
  skip_does g (Is p) next = refl

  pub gone_loose : (n : ℕ) → goes_away n ≡ true → firm_at graph.nodes n ≡ false
  gone_loose n is = sinkable_loose (slice_get graph.nodes n) (gone_is n is)

  pub firm_kept : (n : ℕ) → firm_at graph.nodes n ≡ true → goes_away n ≡ false
  firm_kept n is = elim (cases_Bool (goes_away n)) [
    | inl gone ↦ absurd (true≢false (sym is ∙ gone_loose n gone))
    | inr kept ↦ kept
  ]

  -- ---- what is firm

  pub new_loose : (n c : ℕ) (rest : List ℕ) → IsEndOf (c ∷ rest) (chain n) → firm_at raw c ≡ false
  new_loose n c rest at =
      let i = in_it n c rest at in
      ap is_firm i.is ∙ put_loose n i.put.var i.put.rhs i.below (listed_put (r.inserts n) i.j i.put (sinks.apart n) i.listed)

  new_firm : (k : ℕ) → length graph.nodes ≤ k → (o : Option Node) → slice_get raw k ≡ o → is_firm o ≡ false
  new_firm k ge None e = refl
  new_firm k ge (Some node) e = elim (node_at r graph.nodes k node e) [
    | inl o ↦ (let lt = slice_get_within graph.nodes k o.old o.was in absurd (omega (arith, lt, ge)))
    | inr w ↦ ap (λ m. is_firm (Some m)) w.is ∙ put_loose w.n w.put.var w.put.rhs w.below (listed_put (r.inserts w.n) w.j w.put (sinks.apart w.n) w.listed)
  ]

  -- each number is firm as before
  pub same_firm : (k : ℕ) → firm_at raw k ≡ firm_at graph.nodes k
  same_firm k = elim (cases_lt k (length graph.nodes)) [
    | inl lt ↦ elim (cases_Bool (goes_away k)) [
      | inl gone ↦ ap is_firm (gone_node k gone).1 ∙ sym (gone_loose k gone)
      | inr kept ↦ elim (sinks.only k) [
        | inl unchanged ↦
            let node = some_at graph.nodes k lt in
            ap is_firm (old_get r graph.nodes k node.0 node.1 ∙ ap (λ c. Some (redirected to (changed c node.0))) unchanged)
            ∙ redirected_firm to (changed Unchanged node.0) ∙ ap (λ m. is_firm (Some m)) (changed_not node.0) ∙ ap is_firm (sym node.1)
        | inr both ↦ absurd (true≢false (sym (ap is_removed both.0) ∙ kept))
      ]
    ]
    | inr ge ↦ new_firm k ge (slice_get raw k) refl ∙ ap is_firm (sym (slice_get_past graph.nodes k ge))
  ]

  -- ---- it is one

  one_goes : (n : ℕ) → goes_away n ≡ true → Goes Insertion Walk (graph_does graph) pattern_does is_old goes_away late_of chain what (graph_does new) n
  one_goes n is =
      let w = sinkable_is (slice_get graph.nodes n) (gone_is n is) in
      record {
        pattern = pattern w.0 w.1;
        var = w.0;
        is = ap (is_occurrence w.0 w.1) w.3 ∙ is_occurrence_of w.0 w.1 w.2 w.4;
        sets = eq-eqb w.0 w.0 refl;
        on = λ s path walk.
            (let edge = last_edge graph.nodes s n path walk in
            let leads : w.2 ≡ s = one_item w.2 s edge.0 (sym (ap (λ (o : Option Node). slice_get (succs_of o) edge.0) w.3) ∙ edge.1) in
            ap (option_map (pattern w.0)) (sinks.removed n s w.0 w.1 (w.3 ∙ ap (λ k. Some (Assign w.0 w.1 k)) leads) (removed_is (r.changes n) is)));
      }

  occurs_does : (n : ℕ) (p : Insertion) → occurs_at p.var p.rhs graph n ≡ true → (q : Ask Insertion) → graph_does graph q n ≡ pattern_does q p
  occurs_does n p is q = (let w = occurrence_is p.var p.rhs (slice_get graph.nodes n) is in ap (node_does graph q) w.1 ∙ assign_does graph q p.var p.rhs w.0)

  same_assign : (x y : ℕ) (t u : Rhs) (next next' : ℕ) → Assign x t next ≡ Assign y u next' → (x ≡ y) × (t ≡ u)
  same_assign x y t u next next' e = (cc, cc)

  pub occurs_one : (n : ℕ) (p p' : Insertion) → occurs_at p.var p.rhs graph n ≡ true → occurs_at p'.var p'.rhs graph n ≡ true → p ≡ p'
  occurs_one n p p' is is' =
      let w = occurrence_is p.var p.rhs (slice_get graph.nodes n) is in
      let w' = occurrence_is p'.var p'.rhs (slice_get graph.nodes n) is' in
      let both = same_assign p.var p'.var p.rhs p'.rhs w.0 w'.0 (same_Some (Assign p.var p.rhs w.0) (Assign p'.var p'.rhs w'.0) (sym w.1 ∙ w'.1)) in
      ap (λ y. pattern y p.rhs) both.0 ∙ ap (pattern p'.var) both.1

  one_passes : (n y : ℕ) (t : Rhs) → blocks_at y t graph n ≡ false → late n y ≡ Some t → put_for (r.inserts n) y ≡ None → PassesAt (pattern y t) y n
  one_passes n y t free is none = record {
    free = λ clash. true≢false (sym (clash_blocks graph (pattern y t) (slice_get graph.nodes n) clash) ∙ free);
    was_late = ap (option_map (pattern y)) is;
    unput = λ put. none-some t (sym none ∙ put_for_of (pattern y t) n put);
  }

  apart_of : (n c d : ℕ) (rest rest' : List ℕ) → IsEndOf (c ∷ rest) (chain n) → IsEndOf (d ∷ rest') rest
      → Clash Insertion (λ q. pattern_does q (what c)) (λ q. pattern_does q (what d)) → ⊥
  apart_of n c d rest rest' at_c under clash = by i.put j.put i.listed j.listed (subst (λ p. Clash Insertion (λ q. pattern_does q p) (λ q. pattern_does q j.put)) (what_in n c rest at_c) (subst (λ p. Clash Insertion (λ q. pattern_does q (what c)) (λ q. pattern_does q p)) (what_in n d rest' at_d) clash))
    where
      at_d : IsEndOf (d ∷ rest') (chain n)
      at_d = end_through (d ∷ rest') rest (chain n) under (end_rest c rest (chain n) at_c)

      i : InChain r graph.nodes n c rest
      i = in_it n c rest at_c

      j : InChain r graph.nodes n d rest'
      j = in_it n d rest' at_d

      differ : i.put.var ≡ j.put.var → ⊥
      differ same =
          let index = one_listed (r.inserts n) i.j j.j i.put j.put (sinks.apart n) i.listed j.listed same in
          let rest_is = i.before in
          let first = length graph.nodes + put_below r.inserts n in
          let low = down_end first i.j d rest' (subst (IsEndOf (d ∷ rest')) rest_is under) in
          let less = low.1 in
          let there = low.2 in
          let here = j.at in
          omega (arith, index, less, there, here)

      delayed : (index : ℕ) (put : Insertion) → slice_get (r.inserts n) index ≡ Some put → IsDelayedTo graph put.var put.rhs n
      delayed index put listed = put_delayed_to n put.var put.rhs (listed_put (r.inserts n) index put (sinks.apart n) listed)

      differ_of : (a b : Insertion) → slice_get (r.inserts n) i.j ≡ Some a → slice_get (r.inserts n) j.j ≡ Some b → a.var ≡ b.var → ⊥
      differ_of a b la lb same = differ (ap (λ (p : Insertion). p.var) (same_Some i.put a (sym i.listed ∙ la)) ∙ same ∙ ap (λ (p : Insertion). p.var) (same_Some b j.put (sym lb ∙ j.listed)))

      by : (a b : Insertion) → slice_get (r.inserts n) i.j ≡ Some a → slice_get (r.inserts n) j.j ≡ Some b
          → Clash Insertion (λ q. pattern_does q a) (λ q. pattern_does q b) → ⊥
      by a b la lb (both_set y p q) = differ_of a b la lb (sym (eqb-true y a.var p) ∙ eqb-true y b.var q)
      by a b la lb (set_read y p q) =
          let var : y ≡ a.var = eqb-true y a.var p in
          true≢false (sym (ap (λ z. is_in z (rhs_vars b.rhs)) (sym var) ∙ q) ∙ delayed_apart graph is_graph n b.var a.var b.rhs a.rhs i.below (delayed j.j b lb) (delayed i.j a la) (λ same. differ_of a b la lb (sym same)))
      by a b la lb (read_set y p q) =
          let var : y ≡ b.var = eqb-true y b.var q in
          true≢false (sym (ap (λ z. is_in z (rhs_vars a.rhs)) (sym var) ∙ p) ∙ delayed_apart graph is_graph n a.var b.var a.rhs b.rhs i.below (delayed i.j a la) (delayed j.j b lb) (differ_of a b la lb))

  pub one_sinking : IsOneSinking Insertion Walk (graph_does graph) pattern_does is_old goes_away late_of chain what (graph_does new)
  one_sinking = record {
    shorter = walk_shorter graph.nodes;
    all_old = λ n path walk. lt-ltb n (length graph.nodes) (walk_within graph is_graph n path walk);
    all_new = λ n c rest at. le-ltb c (length graph.nodes) (let there = (in_it n c rest at).at in omega (arith, there));
    sets_some = λ p. (p.var, eq-eqb p.var p.var refl);
    sets_one = λ y z p a b. eqb-true y p.var a ∙ sym (eqb-true z p.var b);
    late_sets = λ n y p is. eq-eqb y p.var (sym (late_is y (late n y) p is).1);
    occurs = occurs_does;
    occurs_one = occurs_one;
    goes = one_goes;
    start = λ s y walk. ap (λ m. option_map (pattern y) (late m y)) (walk_alone graph.nodes s walk) ∙ ap (option_map (pattern y)) (sinks.start y);
    back = λ s n y path p walk is.
        (let w = late_is y (late s y) p is in
        let same : pattern y p.rhs ≡ p = ap (λ z. pattern z p.rhs) (sym w.1) in
        elim (sinks.back n s y p.rhs (last_edge graph.nodes s n path walk) w.0) [
          | inl o ↦ inl (ap is_removed o.0, ap (λ z. occurs_at z p.rhs graph n) w.1 ∙ o.1)
          | inr on ↦ inr (subst (λ q. PassesAt q y n) same (one_passes n y p.rhs on.0 on.1.0 on.1.1))
        ]);
    lost = λ s n y path p walk none is.
        (let w = late_is y (late n y) p is in
        let same : pattern y p.rhs ≡ p = ap (λ z. pattern z p.rhs) (sym w.1) in
        subst (λ q. PutAt q n) same (put_of n y p.rhs (sym (sinks.lost n s y (last_edge graph.nodes s n path walk) (late_none y (late s y) none)) ∙ w.0)));
    blocked = λ n y path p walk is clash.
        (let w = late_is y (late n y) p is in
        let same : pattern y p.rhs ≡ p = ap (λ z. pattern z p.rhs) (sym w.1) in
        subst (λ q. PutAt q n) same (put_of n y p.rhs (sinks.blocked n y p.rhs w.0 (ap (λ z. blocks_at z p.rhs graph n) (sym w.1) ∙ clash_blocks graph p (slice_get graph.nodes n) clash))));
    put_late = λ n c y rest at sets.
        (let var : y ≡ (what c).var = eqb-true y (what c).var sets in
        ap (λ z. option_map (pattern z) (late n z)) var ∙ ap (option_map (pattern (what c).var)) (sinks.put n (what c).var (what c).rhs (chain_put n c rest at)));
    does_new = λ n c rest at q. (let i = in_it n c rest at in ap (node_does new q) i.is ∙ assign_does new q i.put.var i.put.rhs i.next ∙ ap (pattern_does q) (sym (what_in n c rest at)));
    does_gone = λ n path walk is q. (let g = gone_node n is in ap (node_does new q) g.1 ∙ skip_does new q g.0);
    does_kept = λ n path walk kept q. kept_does n (walk_within graph is_graph n path walk) kept q;
    apart = apart_of;
  }

  pub kept_alike : (n : ℕ) → n < length graph.nodes → goes_away n ≡ false → (q : Ask Insertion) → graph_does new q n ≡ graph_does graph q n
  kept_alike = kept_does

  pub new_graph : IsGraph new.vars new.received new.nodes
  new_graph = rewritten_graph r [] graph (step_fits graph is_graph r late sinks) is_graph
