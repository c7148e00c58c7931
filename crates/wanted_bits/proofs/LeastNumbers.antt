-- The least solution of the flow over blocks, walked back through each block, has the least wanted bits before each node.
use Rattle.std.proofs.Common.{◌≡◌, ◌⊎◌, ℕ, zero, suc, ◌<◌, ◌≤◌, min, max, Bool, true, false, if◌then◌else◌, inl, inr, List, [], ◌∷◌, drop, length, replicate, slice_get, slice_index_or, Option, Some, None, refl, sym, ap, ◌∙◌, subst, arith}
use Rattle.std.proofs.lemmas.Bool.{cases_lt}
use Rattle.std.proofs.lemmas.Grind.{get_or_default_zero}
use Rattle.std.proofs.lemmas.List.{get_or-replicate, get_or_past, length-map, length-replicate}
use Rattle.std.proofs.lemmas.List.FromFn.{length-map-range_with_len, get_or-map-range_with_len}
use Rattle.std.proofs.lemmas.Option.{get_or_from_slice_get, slice_get_within, slice_get-get_or}
use Rattle.fix_solve.specs.Net.{Solves, IsLeastSolution}
use Rattle.fix_solve.specs.Pointwise.{pointwise_length}
use Rattle.node_list.specs.Lists.{list_at}
use Rattle.mir_base.specs.declared.instructions.Rhs.{Rhs}
use Rattle.flow_graph.specs.declared.edges.Edge.{Edge}
use Rattle.flow_graph.specs.declared.nodes.Node.{Node}
use Rattle.flow_graph.specs.declared.nodes.Node.TheVariants.{Start, Skip, Assign, Print, Guard, Call, Test, Return}
use Rattle.flow_graph.specs.Blocks.{IsBlocks, IsChain, IsGlued}
use Rattle.flow_graph.specs.BlockLaws.{chain_inner, chain_within, edge_within, one_block, one_place, only_from, only_to}
use Rattle.flow_graph.specs.FlowEdges.{edge_at}
use Rattle.flow_graph.specs.Graphs.{AllWithin, CanMake, GraphShape, IsEdge, assigns, succs_at, succs_of}
use Rattle.flow_graph.specs.Paths.{Begins, Ends, HasEdge}
use Rattle.path_laws.specs.Between.{AreBetween}
use Rattle.wanted_bits.specs.declared.picking.Shift.{Shift}
use Rattle.wanted_bits.specs.Wanted.{AreLeastWantedBy, AreWantedBy, Asked, wanted_at, wanted_past, wanted_rhs}
use Rattle.wanted_bits.specs.MoreWanted.{more_past, most_past}
use Rattle.wanted_bits.specs.BitsOrder.{BelowLists, BelowNumber, HasFew}
use Rattle.wanted_bits.specs.Found.{behind_bits, noted_past}
use Rattle.wanted_bits.specs.KeptRows.{by_vars, end_node, greatest}
use Rattle.wanted_bits.specs.Walking.{HaveBacks, assigned_bits, before_list, bits_at, bits_past, bits_through}
use Rattle.wanted_bits.specs.WalkLaws.{AsksFew, FewerEach, list_few, list_long, list_more, own_bits, read_bits, read_most, through_is, through_long}
use Rattle.wanted_bits.specs.WantedNet.{capped, wanted_net}
use Rattle.wanted_bits.specs.WantedNetLaws.{below_fewer, capped_at, fewer_below}

-- ---- lists

-- a list from a place on
pub drop_some : (list : List ℕ) (i n : ℕ) → slice_get list i ≡ Some n → drop i list ≡ n ∷ drop (suc i) list
drop_some [] i n e = cc
drop_some (k ∷ list) zero n e = let same : k ≡ n = cc in ap (λ m. m ∷ list) same
drop_some (k ∷ list) (suc i) n e = drop_some list i n e

-- and past its end
pub drop_none : (list : List ℕ) (i : ℕ) → slice_get list i ≡ None → drop i list ≡ []
drop_none [] zero e = refl
drop_none [] (suc i) e = refl
drop_none (k ∷ list) zero e = cc
drop_none (k ∷ list) (suc i) e = drop_none list i e

-- an item that no other comes after is the last
pub ends_at_none : (list : List ℕ) (i n : ℕ) → slice_get list i ≡ Some n → slice_get list (suc i) ≡ None → Ends n list
ends_at_none [] i n e none = cc
ends_at_none (k ∷ []) zero n e none = cc
ends_at_none (k ∷ []) (suc i) n e none = cc
ends_at_none (k ∷ l ∷ list) zero n e none = cc
ends_at_none (k ∷ l ∷ list) (suc i) n e none = ends_at_none (l ∷ list) i n e none

-- where a list ends
pub end_is : (list : List ℕ) (m : ℕ) → Ends m list → end_node list ≡ m
end_is [] m e = absurd e
end_is (k ∷ []) m e = e
end_is (k ∷ l ∷ list) m e = end_is (l ∷ list) m e

-- the first item of a list that begins with it
begins_first : (list : List ℕ) (n : ℕ) → slice_get list 0 ≡ Some n → Begins n list
begins_first [] n e = cc
begins_first (k ∷ list) n e = cc

-- and the other way round
first_begins : (list : List ℕ) (n : ℕ) → Begins n list → slice_get list 0 ≡ Some n
first_begins [] n b = absurd b
first_begins (k ∷ list) n b = ap Some b

-- a number for each variable, of a variable of the graph
pub by_vars_at : (n : ℕ) (f : ℕ → ℕ) (x : ℕ) → x < n → bits_at (by_vars n f) x ≡ f x
by_vars_at n f x lt = get_or-map-range_with_len f 0 n x x 0 lt (omega arith)

-- at most 64 of each
by_vars_few : (n : ℕ) (f : ℕ → ℕ) → ((x : ℕ) → f x ≤ 64) → HasFew (by_vars n f)
by_vars_few n f few x = elim (cases_lt x n) [
  | inl lt ↦ omega (arith, by_vars_at n f x lt, few x)
  | inr ge ↦ omega (arith, get_or_past (by_vars n f) x 0 (omega (arith, length-map-range_with_len f 0 n, ge)))
]

-- each of some numbers is at most the greatest
greatest_has : (f : ℕ → ℕ) (list : List ℕ) (slot s : ℕ) → slice_get list slot ≡ Some s → f s ≤ greatest f list
greatest_has f [] slot s e = cc
greatest_has f (k ∷ list) zero s e = let same : k ≡ s = cc in omega (arith, ap f same)
greatest_has f (k ∷ list) (suc slot) s e = omega (arith, greatest_has f list slot s e)

-- and where each is at most a number, that is
greatest_most : (f : ℕ → ℕ) (list : List ℕ) (m : ℕ) → ((slot s : ℕ) → slice_get list slot ≡ Some s → f s ≤ m) → greatest f list ≤ m
greatest_most f [] m each = omega arith
greatest_most f (s ∷ list) m each = omega (arith, each 0 s refl, greatest_most f list m (λ slot t e. each (suc slot) t e))

module _ (graph : GraphShape) (asked : Asked) (asks : AsksFew asked) (shifts : ℕ → ℕ → Option Shift) (back : ℕ → Option Shift) (have : HaveBacks graph shifts back) (can : CanMake graph.vars graph.received graph.nodes) (lists : List (List ℕ)) (are : IsBlocks graph.nodes lists) (edges : List Edge) (firsts : List ℕ) (between : AreBetween true graph.nodes lists (length lists) edges firsts) where
  abbrev vars : ℕ
  vars = length graph.vars

  within : AllWithin graph.nodes
  within m slot s edge = (can.succs m slot s edge).1

  -- the block of a number
  listed_at : (b : ℕ) (list : List ℕ) → slice_get lists b ≡ Some list → list_at lists b ≡ list
  listed_at b list at = get_or_from_slice_get lists b list [] at

  -- ---- from block to block

  -- behind a node its block goes on, or it ends and an edge leads from the block of the successor, which begins with it
  record Crosses (b s : ℕ) : Type 0 where
    e : ℕ
    lt : e < length edges
    target : (edge_at edges e).target ≡ b
    next : List ℕ
    listed : slice_get lists (edge_at edges e).source ≡ Some next
    first : slice_get next 0 ≡ Some s

  over : (b i n s : ℕ) (list : List ℕ) → slice_get lists b ≡ Some list → slice_get list i ≡ Some n → HasEdge graph.nodes n s → slice_get list (suc i) ≡ None → Crosses b s
  over b i n s list listed at edge none =
      let st = are.every s (within n edge.0 s edge.1) in
      by st.0 st.1.list st.1.listed st.1.place st.1.is
    where
      by : (c : ℕ) (next : List ℕ) → slice_get lists c ≡ Some next → (j : ℕ) → slice_get next j ≡ Some s → Crosses b s
      by c next there (suc j) is =
          let before = chain_inner graph.nodes next j s (are.blocks c next there).chain is in
          let same : n ≡ before.0 = only_from graph.nodes before.0 s n before.2.enters edge in
          absurd ((are.blocks b list listed).last n (ends_at_none list i n at none) s (subst (λ m. IsGlued graph.nodes m s) (sym same) before.2))
      by c next there zero is =
          let found = between.complete c s n (slice_get_within lists c next there) (record { list = next; listed = there; ahead = begins_first next s is }) edge in
          let is_edge = get_or_from_slice_get edges found.0 found.1 (record { source = 0; target = 0 }) found.2 in
          record {
            e = found.0;
            lt = slice_get_within edges found.0 found.1 found.2;
            target = ap (λ (x : Edge). x.target) is_edge ∙ one_block graph.nodes lists found.1.target b n are found.4 (record { list = list; listed = listed; place = i; is = at });
            next = next;
            listed = ap (λ (x : Edge). slice_get lists x.source) is_edge ∙ ap (slice_get lists) found.3 ∙ there;
            first = is;
          }

  -- where the block goes on, it does with the successor
  inner : (b i n s m : ℕ) (list : List ℕ) → slice_get lists b ≡ Some list → slice_get list i ≡ Some n → HasEdge graph.nodes n s → slice_get list (suc i) ≡ Some m → m ≡ s
  inner b i n s m list listed at edge more =
      let before = chain_inner graph.nodes list i m (are.blocks b list listed).chain more in
      let same : before.0 ≡ n = cc in
      sym (only_to graph.nodes before.0 m s before.2.leaves (subst (λ k. HasEdge graph.nodes k s) (sym same) edge))

  -- ---- the numbers before each node

  -- before a place of a block, all 64 of variables that are none of the graph
  abbrev bits_from : (ℕ → List ℕ) → ℕ → List ℕ → ℕ → ℕ → ℕ
  bits_from values b list i x = min 64 (slice_index_or (before_list graph asked back (drop i list) (values b)) x 64)

  abbrev pub bits_where : (ℕ → List ℕ) → (n : ℕ) → (n < length graph.nodes) ⊎ (length graph.nodes ≤ n) → ℕ → ℕ
  bits_where values n (inl lt) x = let st = are.every n lt in bits_from values st.0 st.1.list st.1.place x
  bits_where values n (inr ge) x = 64

  abbrev pub bits_by : (ℕ → List ℕ) → ℕ → ℕ → ℕ
  bits_by values n x = bits_where values n (cases_lt n (length graph.nodes)) x

  -- they are those at the node's place
  bits_there : (values : ℕ → List ℕ) (b i n : ℕ) (list : List ℕ) (x : ℕ) → slice_get lists b ≡ Some list → slice_get list i ≡ Some n → bits_by values n x ≡ bits_from values b list i x
  bits_there values b i n list x listed at = go (cases_lt n (length graph.nodes))
    where
      go : (c : (n < length graph.nodes) ⊎ (length graph.nodes ≤ n)) → bits_where values n c x ≡ bits_from values b list i x
      go (inl lt) =
          let st = are.every n lt in
          let b_is : st.0 ≡ b = one_block graph.nodes lists st.0 b n are st.1 (record { list = list; listed = listed; place = i; is = at }) in
          let list_is : st.1.list ≡ list = sym (listed_at st.0 st.1.list st.1.listed) ∙ ap (list_at lists) b_is ∙ listed_at b list listed in
          let place_is : st.1.place ≡ i = one_place graph.nodes list st.1.place i n (are.blocks b list listed) (subst (λ l. slice_get l st.1.place ≡ Some n) list_is st.1.is) at in
          ap (λ c. bits_from values c st.1.list st.1.place x) b_is ∙ ap (λ l. bits_from values b l st.1.place x) list_is ∙ ap (λ j. bits_from values b list j x) place_is
      go (inr ge) =
          let lt = chain_within graph.nodes list i n (λ m k edge. edge_within graph.nodes m k edge) (are.blocks b list listed).chain at in
          absurd (omega (arith, lt, ge))

  bits_most : (values : ℕ → List ℕ) (n x : ℕ) → bits_by values n x ≤ 64
  bits_most values n x = go (cases_lt n (length graph.nodes))
    where
      go : (c : (n < length graph.nodes) ⊎ (length graph.nodes ≤ n)) → bits_where values n c x ≤ 64
      go (inl lt) = omega arith
      go (inr ge) = omega arith

  -- of a variable of the graph, and of any other
  in_vars : (bits : List ℕ) (x : ℕ) → length bits ≡ vars → x < vars → slice_index_or bits x 64 ≡ bits_at bits x
  in_vars bits x long lt = get_or_default_zero bits x 64 (omega (arith, long, lt))

  past_vars : (bits : List ℕ) (x : ℕ) → length bits ≡ vars → vars ≤ x → slice_index_or bits x 64 ≡ 64
  past_vars bits x long ge = get_or_past bits x 64 (omega (arith, long, ge))

  -- a node of the graph at a place of its block
  list_through : (b i n : ℕ) (list bits : List ℕ) (node : Node) → slice_get list i ≡ Some n → slice_get graph.nodes n ≡ Some node
      → before_list graph asked back (drop i list) bits ≡ bits_through graph asked (back n) node (before_list graph asked back (drop (suc i) list) bits)
  list_through b i n list bits node at here =
      ap (λ l. before_list graph asked back l bits) (drop_some list i n at)
      ∙ ap (λ o. bits_past graph asked (back n) o (before_list graph asked back (drop (suc i) list) bits)) here

  -- ---- a solution is wanted

  module _ (values : ℕ → List ℕ) (solves : Solves BelowLists (wanted_net graph asked back lists edges firsts) values) where
    long_values : (b : ℕ) → b < length lists → length (values b) ≡ vars
    long_values b lt = sym (pointwise_length BelowNumber (replicate vars 0) (values b) (solves.above_first b lt)) ∙ length-replicate {A = ℕ} vars 0

    -- before a place of a block there is a number for each variable
    pub long_from : (b i : ℕ) (list : List ℕ) → slice_get lists b ≡ Some list → length (before_list graph asked back (drop i list) (values b)) ≡ vars
    long_from b i list listed = list_long graph asked back (drop i list) (values b) ∙ long_values b (slice_get_within lists b list listed)

    -- what is wanted before a successor is wanted behind the node
    succ_fewer : (b i n s : ℕ) (list : List ℕ) (x : ℕ) → slice_get lists b ≡ Some list → slice_get list i ≡ Some n → HasEdge graph.nodes n s → bits_by values s x ≤ bits_from values b list (suc i) x
    succ_fewer b i n s list x listed at edge = go (slice_get list (suc i)) refl
      where
        go : (o : Option ℕ) → slice_get list (suc i) ≡ o → bits_by values s x ≤ bits_from values b list (suc i) x
        go (Some m) more =
            let same = inner b i n s m list listed at edge more in
            let there = bits_there values b (suc i) s list x listed (more ∙ ap Some same) in
            omega (arith, there)
        go None none =
            let to = over b i n s list listed at edge none in
            let c = (edge_at edges to.e).source in
            let there = bits_there values c 0 s to.next x to.listed to.first in
            let long = long_from c 0 to.next to.listed in
            let end : before_list graph asked back (drop (suc i) list) (values b) ≡ values b = ap (λ l. before_list graph asked back l (values b)) (drop_none list (suc i) none) in
            let long_b = long_values b (slice_get_within lists b list listed) in
            let passed : BelowLists (capped (before_list graph asked back to.next (values c))) (values b) =
            subst (λ t. BelowLists (capped (before_list graph asked back to.next (values c))) (values t)) to.target
            (subst (λ l. BelowLists (capped (before_list graph asked back l (values c))) (values (edge_at edges to.e).target)) (listed_at c to.next to.listed) (solves.above_edges to.e to.lt)) in
            let fewer = below_fewer (capped (before_list graph asked back to.next (values c))) (values b) passed x in
            let is = capped_at (before_list graph asked back to.next (values c)) x in
            let end_at = ap (λ (l : List ℕ). slice_index_or l x 64) end in
            elim (cases_lt x vars) [
              | inl x_in ↦ omega (arith, there, end_at, fewer, is, in_vars (before_list graph asked back to.next (values c)) x long x_in, in_vars (values b) x long_b x_in)
              | inr past ↦ omega (arith, there, end_at, past_vars (values b) x long_b past)
            ]

    -- before a node, by the numbers behind it
    bits_here : (b i n : ℕ) (list : List ℕ) (x : ℕ) (node : Node) → slice_get lists b ≡ Some list → slice_get list i ≡ Some n → slice_get graph.nodes n ≡ Some node → x < vars
        → bits_by values n x ≡ min 64 (max (read_bits graph asked node x) (max (if assigns graph x node then 0 else bits_at (before_list graph asked back (drop (suc i) list) (values b)) x) (own_bits (back n) node (assigned_bits node (before_list graph asked back (drop (suc i) list) (values b))) x)))
    bits_here b i n list x node listed at here x_in =
        let rest = before_list graph asked back (drop (suc i) list) (values b) in
        bits_there values b i n list x listed at
        ∙ ap (λ l. min 64 (slice_index_or l x 64)) (list_through b i n list (values b) node at here)
        ∙ ap (min 64) (in_vars (bits_through graph asked (back n) node rest) x (through_long graph asked (back n) node rest ∙ long_from b (suc i) list listed) x_in
        ∙ through_is graph asked (back n) node rest x (omega (arith, x_in, long_from b (suc i) list listed)))

    bits_past_vars : (n x : ℕ) → n < length graph.nodes → vars ≤ x → bits_by values n x ≡ 64
    bits_past_vars n x lt past =
        let st = are.every n lt in
        let there = bits_there values st.0 st.1.place n st.1.list x st.1.listed st.1.is in
        omega (arith, there, past_vars (before_list graph asked back (drop st.1.place st.1.list) (values st.0)) x (long_from st.0 st.1.place st.1.list st.1.listed) past)

    -- what a node wants that assigns no right side
    reads_wanted : (n x : ℕ) (node : Node) → slice_get graph.nodes n ≡ Some node → x < vars → read_bits graph asked node x ≤ bits_by values n x
    reads_wanted n x node here x_in =
        let st = are.every n (slice_get_within graph.nodes n node here) in
        omega (arith, bits_here st.0 st.1.place n st.1.list x node st.1.listed st.1.is here x_in, read_most graph asked node x asks)

    -- and that does
    rhs_wanted : (n x y : ℕ) (rhs : Rhs) (next : ℕ) → slice_get graph.nodes n ≡ Some (Assign y rhs next) → x < vars → wanted_rhs (shifts n) rhs (bits_by values next y) x ≤ bits_by values n x
    rhs_wanted n x y rhs next here x_in =
        let st = are.every n (slice_get_within graph.nodes n (Assign y rhs next) here) in
        let is = bits_here st.0 st.1.place n st.1.list x (Assign y rhs next) st.1.listed st.1.is here x_in in
        let edge : HasEdge graph.nodes n next = (0, ap (λ o. slice_get (succs_of o) 0) here) in
        let y_in : y < vars = (can.below n (Assign y rhs next) here).0 in
        let rest = before_list graph asked back (drop (suc st.1.place) st.1.list) (values st.0) in
        let few = succ_fewer st.0 st.1.place n next st.1.list y st.1.listed st.1.is edge in
        let known = in_vars rest y (long_from st.0 (suc st.1.place) st.1.list st.1.listed) y_in in
        let more = more_past (back n) rhs (bits_by values next y) (bits_at rest y) x (omega (arith, few, known)) in
        let most = most_past (back n) rhs (bits_by values next y) x (bits_most values next y) in
        let shifted = ap (λ o. wanted_past o rhs (bits_by values next y) x) (have n (Assign y rhs next) here) in
        omega (arith, is, more, most, shifted)

    -- what a node wants is at most 64
    at_most_all : (n x : ℕ) (node : Node) → wanted_at graph asked (shifts n) (bits_by values) node x ≤ 64
    at_most_all n x (Assign y rhs next) = most_past _ rhs (bits_by values next y) x (bits_most values next y)
    at_most_all n x (Start next) = read_most graph asked (Start next) x asks
    at_most_all n x (Skip next) = read_most graph asked (Skip next) x asks
    at_most_all n x (Print a next) = read_most graph asked (Print a next) x asks
    at_most_all n x (Guard test number next) = read_most graph asked (Guard test number next) x asks
    at_most_all n x (Call into unit operands next) = read_most graph asked (Call into unit operands next) x asks
    at_most_all n x (Test test taken other) = read_most graph asked (Test test taken other) x asks
    at_most_all n x (Return a) = read_most graph asked (Return a) x asks

    at_wanted : (n x : ℕ) (node : Node) → slice_get graph.nodes n ≡ Some node → x < vars → wanted_at graph asked (shifts n) (bits_by values) node x ≤ bits_by values n x
    at_wanted n x (Assign y rhs next) here x_in = rhs_wanted n x y rhs next here x_in
    at_wanted n x (Start next) here x_in = reads_wanted n x (Start next) here x_in
    at_wanted n x (Skip next) here x_in = reads_wanted n x (Skip next) here x_in
    at_wanted n x (Print a next) here x_in = reads_wanted n x (Print a next) here x_in
    at_wanted n x (Guard test number next) here x_in = reads_wanted n x (Guard test number next) here x_in
    at_wanted n x (Call into unit operands next) here x_in = reads_wanted n x (Call into unit operands next) here x_in
    at_wanted n x (Test test taken other) here x_in = reads_wanted n x (Test test taken other) here x_in
    at_wanted n x (Return a) here x_in = reads_wanted n x (Return a) here x_in

    here_wanted : (n x : ℕ) (node : Node) → slice_get graph.nodes n ≡ Some node → wanted_at graph asked (shifts n) (bits_by values) node x ≤ bits_by values n x
    here_wanted n x node here = elim (cases_lt x vars) [
      | inl x_in ↦ at_wanted n x node here x_in
      | inr past ↦ omega (arith, bits_past_vars n x (slice_get_within graph.nodes n node here) past, at_most_all n x node)
    ]

    behind_wanted : (n slot s x : ℕ) (node : Node) → slice_get graph.nodes n ≡ Some node → IsEdge graph.nodes n slot s → assigns graph x node ≡ false → bits_by values s x ≤ bits_by values n x
    behind_wanted n slot s x node here edge off =
        let st = are.every n (slice_get_within graph.nodes n node here) in
        elim (cases_lt x vars) [
          | inl x_in ↦
              let rest = before_list graph asked back (drop (suc st.1.place) st.1.list) (values st.0) in
              let is = bits_here st.0 st.1.place n st.1.list x node st.1.listed st.1.is here x_in in
              let few = succ_fewer st.0 st.1.place n s st.1.list x st.1.listed st.1.is (slot, edge) in
              let known = in_vars rest x (long_from st.0 (suc st.1.place) st.1.list st.1.listed) x_in in
              let kept = ap (λ b. if b then 0 else bits_at rest x) off in
              omega (arith, is, few, known, kept)
          | inr past ↦ omega (arith, bits_past_vars n x (slice_get_within graph.nodes n node here) past, bits_most values s x)
        ]

    pub solution_wanted : AreWantedBy asked graph shifts (bits_by values)
    solution_wanted = record { most = bits_most values; here = here_wanted; behind = behind_wanted }

  -- ---- and all others are at least as many

  module _ (others : ℕ → ℕ → ℕ) (wanted : AreWantedBy asked graph shifts others) where
    -- behind a node the greatest before its successors
    abbrev behind_node : ℕ → ℕ → ℕ
    behind_node n x = greatest (λ s. others s x) (succs_at graph.nodes n)

    -- and so behind a block
    abbrev pub behind_lists : ℕ → List ℕ
    behind_lists b = by_vars vars (behind_node (end_node (list_at lists b)))

    behind_most : (n x : ℕ) → behind_node n x ≤ 64
    behind_most n x = greatest_most (λ s. others s x) (succs_at graph.nodes n) 64 (λ slot s e. wanted.most s x)

    -- where at most these are wanted behind a node, at most the others are before it: what it reads
    reads_fewer : (n x : ℕ) (node : Node) → slice_get graph.nodes n ≡ Some node → read_bits graph asked node x ≤ others n x
    reads_fewer n x (Assign y rhs next) here = omega arith
    reads_fewer n x (Start next) here = wanted.here n x (Start next) here
    reads_fewer n x (Skip next) here = wanted.here n x (Skip next) here
    reads_fewer n x (Print a next) here = wanted.here n x (Print a next) here
    reads_fewer n x (Guard test number next) here = wanted.here n x (Guard test number next) here
    reads_fewer n x (Call into unit operands next) here = wanted.here n x (Call into unit operands next) here
    reads_fewer n x (Test test taken other) here = wanted.here n x (Test test taken other) here
    reads_fewer n x (Return a) here = wanted.here n x (Return a) here

    -- what its right side wants
    own_fewer : (n x : ℕ) (node : Node) (bits : List ℕ) → slice_get graph.nodes n ≡ Some node → ((y : ℕ) → y < vars → bits_at bits y ≤ behind_node n y) → own_bits (back n) node (assigned_bits node bits) x ≤ others n x
    own_fewer n x (Assign y rhs next) bits here fewer =
        let y_in : y < vars = (can.below n (Assign y rhs next) here).0 in
        let only : behind_node n y ≡ max (others next y) 0 = ap (λ o. greatest (λ s. others s y) (succs_of o)) here in
        let few = fewer y y_in in
        let more = more_past (back n) rhs (bits_at bits y) (others next y) x (omega (arith, few, only)) in
        let shifted = ap (λ o. wanted_past o rhs (others next y) x) (have n (Assign y rhs next) here) in
        omega (arith, more, shifted, wanted.here n x (Assign y rhs next) here)
    own_fewer n x (Start next) bits here fewer = omega arith
    own_fewer n x (Skip next) bits here fewer = omega arith
    own_fewer n x (Print a next) bits here fewer = omega arith
    own_fewer n x (Guard test number next) bits here fewer = omega arith
    own_fewer n x (Call into unit operands next) bits here fewer = omega arith
    own_fewer n x (Test test taken other) bits here fewer = omega arith
    own_fewer n x (Return a) bits here fewer = omega arith

    -- and what it keeps
    kept_fewer : (n x k : ℕ) (node : Node) → slice_get graph.nodes n ≡ Some node → k ≤ behind_node n x → (a : Bool) → assigns graph x node ≡ a → (if a then 0 else k) ≤ others n x
    kept_fewer n x k node here few true is = omega arith
    kept_fewer n x k node here few false is =
        omega (arith, few, greatest_most (λ s. others s x) (succs_at graph.nodes n) (others n x) (λ slot s e. wanted.behind n slot s x node here e is))

    through_fewer : (n x : ℕ) (node : Node) (bits : List ℕ) → slice_get graph.nodes n ≡ Some node → length bits ≡ vars → ((y : ℕ) → y < vars → bits_at bits y ≤ behind_node n y) → x < vars → bits_at (bits_through graph asked (back n) node bits) x ≤ others n x
    through_fewer n x node bits here long fewer x_in =
        let is = through_is graph asked (back n) node bits x (omega (arith, long, x_in)) in
        let kept = kept_fewer n x (bits_at bits x) node here (fewer x x_in) (assigns graph x node) refl in
        omega (arith, is, reads_fewer n x node here, own_fewer n x node bits here fewer, kept)

    -- at a node of the graph
    node_fewer : (n x : ℕ) (bits : List ℕ) → n < length graph.nodes → length bits ≡ vars → ((y : ℕ) → y < vars → bits_at bits y ≤ behind_node n y) → x < vars → bits_at (bits_past graph asked (back n) (slice_get graph.nodes n) bits) x ≤ others n x
    node_fewer n x bits lt long fewer x_in = go (slice_get graph.nodes n) refl
      where
        go : (o : Option Node) → slice_get graph.nodes n ≡ o → bits_at (bits_past graph asked (back n) o bits) x ≤ others n x
        go None e = absurd (let some = slice_get-get_or graph.nodes n (Skip 0) lt in cc)
        go (Some node) here = through_fewer n x node bits here long fewer x_in

    -- through the nodes of a block from a place on
    chain_fewer : (chain : List ℕ) (i n : ℕ) (bits : List ℕ) → IsChain graph.nodes chain → slice_get chain i ≡ Some n → length bits ≡ vars → ((m y : ℕ) → Ends m chain → y < vars → bits_at bits y ≤ behind_node m y)
        → (x : ℕ) → x < vars → bits_at (before_list graph asked back (drop i chain) bits) x ≤ others n x
    chain_fewer [] i n bits is at long fewer x x_in = absurd is
    chain_fewer (k ∷ []) zero n bits is at long fewer x x_in =
        let same : k ≡ n = cc in
        subst (λ m. bits_at (bits_past graph asked (back k) (slice_get graph.nodes k) bits) x ≤ others m x) same (node_fewer k x bits is long (λ y y_in. fewer k y refl y_in) x_in)
    chain_fewer (k ∷ []) (suc i) n bits is at long fewer x x_in = cc
    chain_fewer (k ∷ m ∷ chain) zero n bits is at long fewer x x_in =
        let same : k ≡ n = cc in
        let rest = before_list graph asked back (m ∷ chain) bits in
        let later : (y : ℕ) → y < vars → bits_at rest y ≤ behind_node k y = λ y y_in.
        (let leads : behind_node k y ≡ max (others m y) 0 = ap (greatest (λ s. others s y)) is.0.leaves in omega (arith, leads, chain_fewer (m ∷ chain) zero m bits is.1 refl long fewer y y_in)) in
        subst (λ j. bits_at (bits_past graph asked (back k) (slice_get graph.nodes k) rest) x ≤ others j x) same
        (node_fewer k x rest (edge_within graph.nodes k m (0, ap (λ l. slice_get l 0) is.0.leaves)) (list_long graph asked back (m ∷ chain) bits ∙ long) later x_in)
    chain_fewer (k ∷ m ∷ chain) (suc i) n bits is at long fewer x x_in = chain_fewer (m ∷ chain) i n bits is.1 at long fewer x x_in

    -- by the lists behind the blocks
    pub block_fewer : (b i n : ℕ) (list : List ℕ) (x : ℕ) → slice_get lists b ≡ Some list → slice_get list i ≡ Some n → x < vars → bits_at (before_list graph asked back (drop i list) (behind_lists b)) x ≤ others n x
    block_fewer b i n list x listed at x_in =
        chain_fewer list i n (behind_lists b) (are.blocks b list listed).chain at (length-map-range_with_len (behind_node (end_node (list_at lists b))) 0 vars)
        (λ m y ends y_in.
        let end : end_node (list_at lists b) ≡ m = ap end_node (listed_at b list listed) ∙ end_is list m ends in
        omega (arith, by_vars_at vars (behind_node (end_node (list_at lists b))) y y_in, ap (λ k. behind_node k y) end)) x x_in

    lists_few : (b : ℕ) → HasFew (behind_lists b)
    lists_few b = by_vars_few vars (behind_node (end_node (list_at lists b))) (λ x. behind_most (end_node (list_at lists b)) x)

    pub lists_long : (b : ℕ) → length (behind_lists b) ≡ vars
    lists_long b = length-map-range_with_len (behind_node (end_node (list_at lists b))) 0 vars

    none_fewer : (bits : List ℕ) → FewerEach (replicate vars 0) bits
    none_fewer bits x = elim (cases_lt x vars) [
      | inl lt ↦ (let none : bits_at (replicate vars 0) x ≡ 0 = get_or-replicate {A = ℕ} vars x 0 0 lt in omega (arith, none))
      | inr ge ↦ (let none : bits_at (replicate vars 0) x ≡ 0 = get_or_past (replicate vars 0) x 0 (omega (arith, ge, length-replicate {A = ℕ} vars 0)) in omega (arith, none))
    ]

    -- over an edge from the block c, which begins with a successor of a node of the block b
    edge_fewer : (b c to from : ℕ) (list next : List ℕ) (i : ℕ) → slice_get lists b ≡ Some list → slice_get list i ≡ Some to → slice_get lists c ≡ Some next → Begins from next → HasEdge graph.nodes to from
        → FewerEach (capped (before_list graph asked back next (behind_lists c))) (behind_lists b)
    edge_fewer b c to from list next i listed at there begins edge x = elim (cases_lt x vars) [
      | inl x_in ↦ omega (arith, capped_at (before_list graph asked back next (behind_lists c)) x, block_fewer c 0 from next x there (first_begins next from begins) x_in, by_vars_at vars (behind_node (end_node (list_at lists b))) x x_in, reaches)
      | inr past ↦ omega (arith, get_or_past (capped (before_list graph asked back next (behind_lists c))) x 0 (omega (arith, past, length-map (before_list graph asked back next (behind_lists c)) (min 64), list_long graph asked back next (behind_lists c), lists_long c)))
    ]
      where
        last : (o : Option ℕ) → slice_get list (suc i) ≡ o → slice_get list (suc i) ≡ None
        last None e = e
        last (Some m) e =
            let same = inner b i to from m list listed at edge e in
            let before = chain_inner graph.nodes list i m (are.blocks b list listed).chain e in
            absurd ((are.blocks c next there).first from begins before.0 (subst (IsGlued graph.nodes before.0) same before.2))

        end : end_node (list_at lists b) ≡ to
        end = ap end_node (listed_at b list listed) ∙ end_is list to (ends_at_none list i to at (last (slice_get list (suc i)) refl))

        reaches : others from x ≤ behind_node (end_node (list_at lists b)) x
        reaches = omega (arith, greatest_has (λ s. others s x) (succs_at graph.nodes to) edge.0 from edge.1, ap (λ k. behind_node k x) end)

    pub others_solve : Solves BelowLists (wanted_net graph asked back lists edges firsts) behind_lists
    others_solve = record {
      above_first = λ b lt. fewer_below (replicate vars 0) (behind_lists b) (length-replicate {A = ℕ} vars 0 ∙ sym (lists_long b)) (none_fewer (behind_lists b)) (lists_few b);
      above_edges = λ e lt.
          let edge = edge_at edges e in
          let sound = between.sound e edge (slice_get-get_or edges e _ lt) in
          let c = edge.source in
          let passed = edge_fewer edge.target c sound.to sound.from sound.enters.list sound.leaves.list sound.enters.place sound.enters.listed sound.enters.is sound.leaves.listed sound.leaves.ahead sound.step in
          let same = listed_at c sound.leaves.list sound.leaves.listed in
          subst (λ l. BelowLists (capped (before_list graph asked back l (behind_lists c))) (behind_lists edge.target)) (sym same)
          (fewer_below (capped (before_list graph asked back sound.leaves.list (behind_lists c))) (behind_lists edge.target)
          (length-map (before_list graph asked back sound.leaves.list (behind_lists c)) (min 64) ∙ list_long graph asked back sound.leaves.list (behind_lists c) ∙ lists_long c ∙ sym (lists_long edge.target)) passed (lists_few edge.target));
    }

  -- ---- the least solution has the least wanted bits

  module _ (values : ℕ → List ℕ) (is : IsLeastSolution BelowLists (wanted_net graph asked back lists edges firsts) values) where
    -- the values are at most the others behind each block
    values_fewer : (others : ℕ → ℕ → ℕ) (wanted : AreWantedBy asked graph shifts others) (b : ℕ) → b < length lists → FewerEach (values b) (behind_lists others wanted b)
    values_fewer others wanted b lt = below_fewer (values b) (behind_lists others wanted b) (is.least (behind_lists others wanted) (others_solve others wanted) b lt)

    pub least_wanted : AreLeastWantedBy asked graph shifts (bits_by values)
    least_wanted = record {
      are = solution_wanted values is.solves;
      least = λ others wanted n x n_in x_in.
          let st = are.every n n_in in
          let b = st.0 in
          let b_in = slice_get_within lists b st.1.list st.1.listed in
          let there = bits_there values b st.1.place n st.1.list x st.1.listed st.1.is in
          let long = long_values values is.solves b b_in in
          let known = in_vars (before_list graph asked back (drop st.1.place st.1.list) (values b)) x (long_from values is.solves b st.1.place st.1.list st.1.listed) x_in in
          let more = list_more graph asked back (drop st.1.place st.1.list) (values b) (behind_lists others wanted b) (long ∙ sym (lists_long others wanted b)) (values_fewer others wanted b b_in) x in
          omega (arith, there, known, more, block_fewer others wanted b st.1.place n st.1.list x st.1.listed st.1.is x_in);
    }

    -- ---- and what is noted of each node is what is wanted behind it

    -- few numbers are found
    values_few : (b y : ℕ) → b < length lists → bits_at (values b) y ≤ 64
    values_few b y lt = omega (arith, values_fewer (bits_by values) (solution_wanted values is.solves) b lt y, lists_few (bits_by values) (solution_wanted values is.solves) b y)

    pub succ_same : (b i n s : ℕ) (list : List ℕ) (y : ℕ) → slice_get lists b ≡ Some list → slice_get list i ≡ Some n → HasEdge graph.nodes n s → succs_at graph.nodes n ≡ s ∷ [] → y < vars
        → bits_at (before_list graph asked back (drop (suc i) list) (values b)) y ≡ bits_by values s y
    succ_same b i n s list y listed at edge only y_in =
        let rest = before_list graph asked back (drop (suc i) list) (values b) in
        let b_in = slice_get_within lists b list listed in
        let known = in_vars rest y (long_from values is.solves b (suc i) list listed) y_in in
        let fewer = succ_fewer values is.solves b i n s list y listed at edge in
        let few = list_few graph asked back (drop (suc i) list) (values b) asks (λ k. values_few b k b_in) y in
        go (slice_get list (suc i)) refl known fewer few
      where
        go : (o : Option ℕ) → slice_get list (suc i) ≡ o → slice_index_or (before_list graph asked back (drop (suc i) list) (values b)) y 64 ≡ bits_at (before_list graph asked back (drop (suc i) list) (values b)) y
            → bits_by values s y ≤ bits_from values b list (suc i) y → bits_at (before_list graph asked back (drop (suc i) list) (values b)) y ≤ 64
            → bits_at (before_list graph asked back (drop (suc i) list) (values b)) y ≡ bits_by values s y
        go (Some m) more known fewer few =
            let same = inner b i n s m list listed at edge more in
            let there = bits_there values b (suc i) s list y listed (more ∙ ap Some same) in
            omega (arith, there, known, few)
        go None none known fewer few =
            let b_in = slice_get_within lists b list listed in
            let wanted = solution_wanted values is.solves in
            let end : end_node (list_at lists b) ≡ n = ap end_node (listed_at b list listed) ∙ end_is list n (ends_at_none list i n at none) in
            let empty = ap (λ l. bits_at (before_list graph asked back l (values b)) y) (drop_none list (suc i) none) in
            let behind = values_fewer (bits_by values) wanted b b_in y in
            let is_behind = by_vars_at vars (behind_node (bits_by values) wanted (end_node (list_at lists b))) y y_in in
            let at_end = ap (λ k. behind_node (bits_by values) wanted k y) end in
            let one = ap (greatest (λ t. bits_by values t y)) only in
            omega (arith, known, fewer, few, empty, behind, is_behind, at_end, one)

    -- behind Start are the numbers before it
    pub start_same : (b i next : ℕ) (list : List ℕ) (y : ℕ) → slice_get lists b ≡ Some list → slice_get list i ≡ Some 0 → slice_get graph.nodes 0 ≡ Some (Start next) → y < vars
        → bits_at (before_list graph asked back (drop (suc i) list) (values b)) y ≡ bits_by values 0 y
    start_same b i next list y listed at here y_in =
        let rest = before_list graph asked back (drop (suc i) list) (values b) in
        let b_in = slice_get_within lists b list listed in
        let known = in_vars rest y (long_from values is.solves b (suc i) list listed) y_in in
        let few = list_few graph asked back (drop (suc i) list) (values b) asks (λ k. values_few b k b_in) y in
        let there = bits_there values b i 0 list y listed at ∙ ap (λ l. min 64 (slice_index_or l y 64)) (list_through b i 0 list (values b) (Start next) at here) in
        omega (arith, known, few, there)

    -- before a node of a block
    pub before_same : (b i n : ℕ) (list : List ℕ) (x : ℕ) → slice_get lists b ≡ Some list → slice_get list i ≡ Some n → x < vars
        → bits_at (bits_past graph asked (back n) (slice_get graph.nodes n) (before_list graph asked back (drop (suc i) list) (values b))) x ≡ bits_by values n x
    before_same b i n list x listed at x_in =
        let b_in = slice_get_within lists b list listed in
        let known = in_vars (before_list graph asked back (drop i list) (values b)) x (long_from values is.solves b i list listed) x_in in
        let few = list_few graph asked back (drop i list) (values b) asks (λ k. values_few b k b_in) x in
        let there = bits_there values b i n list x listed at in
        ap (λ l. bits_at (before_list graph asked back l (values b)) x) (sym (drop_some list i n at)) ∙ omega (arith, known, few, there)

    pub noted_behind : (b i n : ℕ) (list : List ℕ) → slice_get lists b ≡ Some list → slice_get list i ≡ Some n
        → noted_past (slice_get graph.nodes n) (before_list graph asked back (drop (suc i) list) (values b)) ≡ behind_bits (bits_by values) (slice_get graph.nodes n)
    noted_behind b i n list listed at = go (slice_get graph.nodes n) refl
      where
        go : (o : Option Node) → slice_get graph.nodes n ≡ o → noted_past o (before_list graph asked back (drop (suc i) list) (values b)) ≡ behind_bits (bits_by values) o
        go None here = refl
        go (Some (Assign y rhs next)) here =
            succ_same b i n next list y listed at (0, ap (λ o. slice_get (succs_of o) 0) here) (ap succs_of here) ((can.below n (Assign y rhs next) here).0)
        go (Some (Start next)) here = refl
        go (Some (Skip next)) here = refl
        go (Some (Print a next)) here = refl
        go (Some (Guard test number next)) here = refl
        go (Some (Call into unit operands next)) here = refl
        go (Some (Test test taken other)) here = refl
        go (Some (Return a)) here = refl
