-- What comes over the edges between blocks, and what the nodes of a block hand on, are the answers.
use Rattle.std.proofs.Common.{◌≡◌, ℕ, zero, suc, ◌-◌, ◌<◌, ◌↔◌, ◌||◌, ◌&&◌, not, nat_eq, inl, inr, Bool, true, false, List, [], ◌∷◌, length, get_or, reverse, slice_get, Some, refl, sym, ap, subst, arith, ◌∙◌}
use Rattle.std.proofs.lemmas.Bool.{and_from, and_parts, eq-eqb, eqb-true, not-true, or_cases, or_left, or_right}
use Rattle.std.proofs.lemmas.List.{get_or-reverse, length-reverse, take_all}
use Rattle.std.proofs.lemmas.Option.{get_or_from_slice_get, slice_get_within, slice_get-get_or}
use Rattle.std.specs.List.{list_any}
use Rattle.flow_graph.specs.declared.edges.Edge.{Edge}
use Rattle.flow_graph.specs.declared.nodes.Node.{Node}
use Rattle.flow_graph.specs.Blocks.{IsBlocks}
use Rattle.flow_graph.specs.Graphs.{AllWithin}
use Rattle.path_laws.specs.AtBlocks.{comes_over}
use Rattle.path_laws.specs.Between.{AreBetween}
use Rattle.node_list.specs.Lists.{list_at}
use Rattle.path_laws.specs.Blockwise.{HasAnswer, AreGrowing, AreBarredByPaths, initial_bit, brought, flow_order, handed_on, passed_all}
use Rattle.path_laws.specs.Leads.{Leads, at_seed, one_more, steps_of}
use Rattle.flow_graph.specs.FlowEdges.{StepAlong, edge_at}
use Rattle.path_laws.specs.Paths.{AreRows, has_bit}
use Rattle.path_laws.specs.Chains.{AreRuns, after_complete, last_leads, last_on, run_back}
use Rattle.path_laws.specs.Places.{flow_within}
use Rattle.path_laws.proofs.RowsPassed.{ArePassed}
use Rattle.path_laws.specs.Runs.{are_runs, block_run}

-- seeds and stops that are the same at each node
pub leads_same : (count : ℕ) (steps : ℕ → ℕ → Type 0) (seed other stop bar : ℕ → Bool) → ((m n : ℕ) → steps m n → n < count) → ((n : ℕ) → n < count → seed n ≡ other n) → ((n : ℕ) → n < count → stop n ≡ bar n) → (n : ℕ) → n < count → Leads steps seed stop n → Leads steps other bar n
leads_same count steps seed other stop bar within seeds stops n h (at_seed k on) = at_seed n (sym (seeds n h) ∙ on)
leads_same count steps seed other stop bar within seeds stops n h (one_more m k step free rest) = one_more n k step (sym (stops n h) ∙ free) (leads_same count steps seed other stop bar within seeds stops k (within n k step) rest)

-- ---- what comes to a block

-- where an edge of a list brings a bit to a block there is such an edge
comes_from : (edges : List Edge) (out : ℕ → Bool) (c : ℕ) → comes_over edges out c ≡ true → (d : ℕ) × StepAlong edges c d × (out d ≡ true)
comes_from [] out c on = absurd (cc)
comes_from (e ∷ edges) out c on = elim (or_cases (nat_eq e.target c && out e.source) (comes_over edges out c) on) as (λ _. (d : ℕ) × StepAlong (e ∷ edges) c d × (out d ≡ true)) [
  | inl here ↦ let parts = and_parts (nat_eq e.target c) (out e.source) here in (e.source, (0, omega arith, refl, eqb-true e.target c parts.0), parts.1)
  | inr later ↦ let r = comes_from edges out c later in let h : r.1.0 < length edges = r.1.1 in (r.0, (suc r.1.0, omega arith, r.1.2, r.1.3), r.2)
]

-- and where there is one the bit comes
comes_to : (edges : List Edge) (out : ℕ → Bool) (c d i : ℕ) → i < length edges → (edge_at edges i).source ≡ d → (edge_at edges i).target ≡ c → out d ≡ true → comes_over edges out c ≡ true
comes_to [] out c d i h source target on = absurd (let h' : i < 0 = h in omega arith)
comes_to (e ∷ edges) out c d zero h source target on = or_left (nat_eq e.target c && out e.source) (comes_over edges out c) (and_from (nat_eq e.target c) (out e.source) (eq-eqb e.target c target) (ap out source ∙ on))
comes_to (e ∷ edges) out c d (suc i) h source target on = or_right (nat_eq e.target c && out e.source) (comes_over edges out c) (comes_to edges out c d i (let h' : suc i < suc (length edges) = h in omega arith) source target on)

module _ (against : Bool) (nodes : List Node) (lists : List (List ℕ)) (edges : List Edge) (firsts : List ℕ) (are : IsBlocks nodes lists) (between : AreBetween against nodes lists (length lists) edges firsts) (within : AllWithin nodes)
    (bits : ℕ) (seed stop : ℕ → ℕ → Bool) where
  abbrev path : ℕ → List ℕ
  path c = flow_order against (list_at lists c)

  runs : AreRuns (length nodes) (length lists) (steps_of against nodes) path (StepAlong edges)
  runs = are_runs against nodes lists edges firsts are between within

  -- ---- at the first nodes of blocks

  -- what a block does to each bit is what its nodes do, one after the other
  module _ (work : List (List Bool)) (block_seed block_stop : ℕ → ℕ → Bool)
      (leads : (c b : ℕ) → c < length lists → b < bits → (has_bit work b c ≡ true) ↔ Leads (StepAlong edges) (block_seed b) (block_stop b) c) (b : ℕ) (b_in : b < bits)
      (does : (c d : ℕ) (x : Bool) → StepAlong edges c d → passed_all (seed b) (stop b) x (path d) ≡ (block_seed b d || (x && not (block_stop b d)))) where
    abbrev w : ℕ → Bool
    w c = has_bit work b c

    abbrev x : ℕ → Bool
    x c = comes_over edges w c

    w_is : (c : ℕ) → c < length lists → (w c ≡ true) ↔ Leads (StepAlong edges) (block_seed b) (block_stop b) c
    w_is c h = leads c b h b_in

    x_sound : (c : ℕ) → c < length lists → x c ≡ true → (d : ℕ) × StepAlong edges c d × (w d ≡ true)
    x_sound c h on = comes_from edges w c on

    x_complete : (c d : ℕ) → c < length lists → StepAlong edges c d → w d ≡ true → x c ≡ true
    x_complete c d h step on = comes_to edges w c d step.0 step.1 step.2 step.3 on

    -- a bit comes out of a block exactly where it comes out of the node from which the flow leaves the block
    out_sound : (c d i k : ℕ) → StepAlong edges c d → slice_get (path d) i ≡ Some k → suc i ≡ length (path d) → w d ≡ true → Leads (steps_of against nodes) (seed b) (stop b) k
    out_sound c d i k way at end on = last_leads (steps_of against nodes) (seed b) (stop b) (length nodes) (length lists) path (StepAlong edges) runs (block_seed b) (block_stop b) does c d way ((w_is d (runs.sound c d way).1).0 on) k (i, at, end)

    out_complete : (c d i k : ℕ) → StepAlong edges c d → slice_get (path d) i ≡ Some k → suc i ≡ length (path d) → Leads (steps_of against nodes) (seed b) (stop b) k → w d ≡ true
    out_complete c d i k way at end led = last_on (steps_of against nodes) (seed b) (stop b) (length nodes) (length lists) path (StepAlong edges) runs (block_seed b) (block_stop b) does w x w_is x_sound x_complete c d way
        (ap (passed_all (seed b) (stop b) (x d)) (sym (take_all (suc i) (path d) (omega (arith, end))))
        ∙ after_complete (steps_of against nodes) (seed b) (stop b) (length nodes) (length lists) path (StepAlong edges) runs (block_seed b) (block_stop b) does w x w_is x_sound x_complete k led d i (runs.sound c d way).1 at)

    -- what comes to a block over its edges is what comes to its first node
    pub over_sound : (c n : ℕ) → c < length lists → slice_get (path c) 0 ≡ Some n → x c ≡ true → (m : ℕ) × steps_of against nodes n m × Leads (steps_of against nodes) (seed b) (stop b) m
    over_sound c n h first on =
        let from = x_sound c h on in
        let s = runs.sound c from.0 from.1 in
        let both : Some s.2.0 ≡ Some n = sym s.2.3 ∙ first in
        let same : s.2.0 ≡ n = cc in
        (s.2.1, subst (λ j. steps_of against nodes j s.2.1) same s.2.6, out_sound c from.0 s.2.2 s.2.1 from.1 s.2.4 s.2.5 from.2)

    pub over_complete : (c n m : ℕ) → c < length lists → slice_get (path c) 0 ≡ Some n → steps_of against nodes n m → Leads (steps_of against nodes) (seed b) (stop b) m → x c ≡ true
    over_complete c n m h first step led =
        let out = runs.complete c n m h first step in
        x_complete c out.0 h out.2 (out_complete c out.0 out.1 m out.2 out.3 out.4 led)

    -- what an edge brings belongs to the answer
    pub brought_sound : (e n : ℕ) → e < length edges → slice_get (path (edge_at edges e).target) 0 ≡ Some n → brought against (stop b) n (w (edge_at edges e).source) ≡ true → HasAnswer against nodes (seed b) (stop b) n
    brought_sound e n h first on =
        let s = runs.sound (edge_at edges e).target (edge_at edges e).source (e, h, refl, refl) in
        let both : Some s.2.0 ≡ Some n = sym s.2.3 ∙ first in
        let same : s.2.0 ≡ n = cc in
        answer against on (subst (λ j. steps_of against nodes j s.2.1) same s.2.6) (λ o. out_sound (edge_at edges e).target (edge_at edges e).source s.2.2 s.2.1 (e, h, refl, refl) s.2.4 s.2.5 o)
      where
        answer : (way : Bool) → brought way (stop b) n (w (edge_at edges e).source) ≡ true → {k : ℕ} → steps_of way nodes n k → (w (edge_at edges e).source ≡ true → Leads (steps_of way nodes) (seed b) (stop b) k) → HasAnswer way nodes (seed b) (stop b) n
        answer true o {k} step led = let parts = and_parts (w (edge_at edges e).source) (not (stop b n)) o in one_more n k step (not-true (stop b n) parts.1) (led parts.0)
        answer false o {k} step led = (k, step, led o)

    -- and the edges bring the whole answer, but for what the row begins with
    pub brought_complete : (c n : ℕ) (on : Bool) → c < length lists → slice_get (path c) 0 ≡ Some n → (initial_bit against (seed b) n ≡ true → on ≡ true)
        → ((e : ℕ) → e < length edges → (edge_at edges e).target ≡ c → brought against (stop b) n (w (edge_at edges e).source) ≡ true → on ≡ true) → HasAnswer against nodes (seed b) (stop b) n → on ≡ true
    brought_complete c n on h first begins comes has = answer against begins comes has (λ k step led. from k step led)
      where
        from : (k : ℕ) → steps_of against nodes n k → Leads (steps_of against nodes) (seed b) (stop b) k → (e : ℕ) × (e < length edges) × ((edge_at edges e).target ≡ c) × (w (edge_at edges e).source ≡ true)
        from k step led =
            let out = runs.complete c n k h first step in
            let edge = out.2 in
            (edge.0, edge.1, edge.3, ap w edge.2 ∙ out_complete c out.0 out.1 k edge out.3 out.4 led)

        answer : (way : Bool) → (initial_bit way (seed b) n ≡ true → on ≡ true)
            → ((e : ℕ) → e < length edges → (edge_at edges e).target ≡ c → brought way (stop b) n (w (edge_at edges e).source) ≡ true → on ≡ true)
            → HasAnswer way nodes (seed b) (stop b) n
            → ((k : ℕ) → steps_of way nodes n k → Leads (steps_of way nodes) (seed b) (stop b) k → (e : ℕ) × (e < length edges) × ((edge_at edges e).target ≡ c) × (w (edge_at edges e).source ≡ true)) → on ≡ true
        answer true begin come (at_seed m seeded) edge = begin seeded
        answer true begin come (one_more m k step free rest) edge = let r = edge k step rest in come r.0 r.1 r.2 (and_from (w (edge_at edges r.0).source) (not (stop b n)) r.3 (ap not free))
        answer false begin come has edge = let r = edge has.0 has.1 has.2 in come r.0 r.1 r.2 r.3

-- the least rows over the edges between blocks, as a slice has them
pub led_blocks : (against : Bool) (nodes : List Node) (lists : List (List ℕ)) (bits count : ℕ) (edges slice : List Edge) (firsts : List ℕ) (path : ℕ → List ℕ) (seed stop : ℕ → ℕ → Bool) (seeds stops work : List (List Bool))
    → AreBetween against nodes lists (length lists) edges firsts → ArePassed (length lists) bits path seed stop seeds → AreBarredByPaths (length lists) bits path stop stops → count ≡ length lists → slice ≡ edges
    → ((n b : ℕ) → n < count → b < bits → (has_bit work b n ≡ true) ↔ Leads (StepAlong slice) (has_bit seeds b) (has_bit stops b) n)
    → (c b : ℕ) → c < length lists → b < bits → (has_bit work b c ≡ true) ↔ Leads (StepAlong edges) (λ k. passed_all (seed b) (stop b) false (path k)) (λ k. list_any (stop b) (path k)) c
led_blocks against nodes lists bits count edges slice firsts path seed stop seeds stops work between passed stopped count_is slice_is leads c b h l =
    let was : (has_bit work b c ≡ true) ↔ Leads (StepAlong edges) (has_bit seeds b) (has_bit stops b) c
    = subst (λ (s : List Edge). (has_bit work b c ≡ true) ↔ Leads (StepAlong s) (has_bit seeds b) (has_bit stops b) c) slice_is (leads c b (rw count_is h) l) in (
      λ on. leads_same (length lists) (StepAlong edges) (has_bit seeds b) (λ k. passed_all (seed b) (stop b) false (path k)) (has_bit stops b) (λ k. list_any (stop b) (path k)) within (λ n h'. passed.are n b h' l) (λ n h'. stopped.are n b h' l) c h (was.0 on),
      λ led. was.1 (leads_same (length lists) (StepAlong edges) (λ k. passed_all (seed b) (stop b) false (path k)) (has_bit seeds b) (λ k. list_any (stop b) (path k)) (has_bit stops b) within (λ n h'. sym (passed.are n b h' l)) (λ n h'. sym (stopped.are n b h' l)) c h led),
    )
  where
    within : (m n : ℕ) → StepAlong edges m n → n < length lists
    within m n (e, h', source, target) = subst (λ k. k < length lists) source (between.source e (edge_at edges e) (slice_get-get_or edges e _ h'))

-- ---- at the other nodes

module _ (against : Bool) (nodes : List Node) (lists : List (List ℕ)) (are : IsBlocks nodes lists) (bits : ℕ) (seed stop : ℕ → ℕ → Bool)
    (b c i n p : ℕ) (h : c < length lists) (at : slice_get (flow_order against (list_at lists c)) (suc i) ≡ Some n) (before : slice_get (flow_order against (list_at lists c)) i ≡ Some p) where
  -- a node steps back to the one before it alone
  back : steps_of against nodes n p × ((k : ℕ) → steps_of against nodes n k → k ≡ p)
  back =
      let run = block_run against nodes (list_at lists c) (are.blocks c (list_at lists c) (slice_get-get_or lists c [] h)).chain in
      let r = run_back (steps_of against nodes) (seed b) (stop b) (flow_order against (list_at lists c)) i n run at in
      let both : Some r.0 ≡ Some p = sym r.1 ∙ before in
      let same : r.0 ≡ p = cc in
      (subst (steps_of against nodes n) same r.2, λ k step. r.3 k step ∙ same)

  -- what it hands on belongs to the answer
  pub handed_sound : (x : Bool) → (x ≡ true → HasAnswer against nodes (seed b) (stop b) p) → handed_on against (seed b) (stop b) p n x ≡ true → HasAnswer against nodes (seed b) (stop b) n
  handed_sound x from on = answer against from on back.0
    where
      answer : (way : Bool) → (x ≡ true → HasAnswer way nodes (seed b) (stop b) p) → handed_on way (seed b) (stop b) p n x ≡ true → steps_of way nodes n p → HasAnswer way nodes (seed b) (stop b) n
      answer true has o step = let parts = and_parts x (not (stop b n)) o in one_more n p step (not-true (stop b n) parts.1) (has parts.0)
      answer false has o step = elim (or_cases (seed b p) (x && not (stop b p)) o) as (λ _. HasAnswer false nodes (seed b) (stop b) n) [
        | inl seeded ↦ (p, step, at_seed p seeded)
        | inr came ↦
            let parts = and_parts x (not (stop b p)) came in
            let from_there = has parts.0 in
            (p, step, one_more p from_there.0 from_there.1 (not-true (stop b p) parts.1) from_there.2)
      ]

  -- and is the whole answer, but for what the row begins with
  pub handed_complete : (x on : Bool) → (HasAnswer against nodes (seed b) (stop b) p → x ≡ true) → (initial_bit against (seed b) n ≡ true → on ≡ true) → (handed_on against (seed b) (stop b) p n x ≡ true → on ≡ true)
      → HasAnswer against nodes (seed b) (stop b) n → on ≡ true
  handed_complete x on whole begins hands has = answer against whole begins hands has back.1
    where
      answer : (way : Bool) → (HasAnswer way nodes (seed b) (stop b) p → x ≡ true) → (initial_bit way (seed b) n ≡ true → on ≡ true) → (handed_on way (seed b) (stop b) p n x ≡ true → on ≡ true)
          → HasAnswer way nodes (seed b) (stop b) n → ((k : ℕ) → steps_of way nodes n k → k ≡ p) → on ≡ true
      answer true all begin hand (at_seed m seeded) only = begin seeded
      answer true all begin hand (one_more m k step free rest) only = hand (and_from x (not (stop b n)) (all (subst (Leads (steps_of true nodes) (seed b) (stop b)) (only k step) rest)) (ap not free))
      answer false all begin hand has only = hand (passes (subst (Leads (steps_of false nodes) (seed b) (stop b)) (only has.0 has.1) has.2))
        where
          passes : Leads (steps_of false nodes) (seed b) (stop b) p → (seed b p || (x && not (stop b p))) ≡ true
          passes (at_seed m seeded) = or_left (seed b p) (x && not (stop b p)) seeded
          passes (one_more m j step free rest) = or_right (seed b p) (x && not (stop b p)) (and_from x (not (stop b p)) (all (j, step, rest)) (ap not free))

-- ---- the answer at a node

-- a node of a block has a place in the order of the flow too
placed : (against : Bool) (list : List ℕ) (place n : ℕ) → slice_get list place ≡ Some n → (i : ℕ) × (slice_get (flow_order against list) i ≡ Some n)
placed true list place n at =
    let h : place < length list = slice_get_within list place n at in
    let back : length list - 1 - (length list - 1 - place) ≡ place = omega (arith, h) in
    let long : length (reverse list) ≡ length list = length-reverse list in
    (length list - 1 - place, slice_get-get_or (reverse list) (length list - 1 - place) 0 (omega (arith, h, long)) ∙ ap Some (get_or-reverse list (length list - 1 - place) 0 (omega (arith, h)) ∙ ap (λ k. get_or list k 0) back ∙ get_or_from_slice_get list place n 0 at))
placed false list place n at = (place, at)

-- the block of a node, and its place there in the order of the flow
pub stands_at : (against : Bool) (nodes : List Node) (lists : List (List ℕ)) → IsBlocks nodes lists → (n : ℕ) → n < length nodes → (c : ℕ) × (i : ℕ) × (c < length lists) × (slice_get (flow_order against (list_at lists c)) i ≡ Some n)
stands_at against nodes lists blocks n h =
    let s = blocks.every n h in
    let same : list_at lists s.0 ≡ s.1.list = get_or_from_slice_get lists s.0 s.1.list [] s.1.listed in
    let at = placed against s.1.list s.1.place n s.1.is in
    (s.0, at.0, slice_get_within lists s.0 s.1.list s.1.listed, ap (λ k. slice_get (flow_order against k) at.0) same ∙ at.1)

-- a node at a place of a block is a node of the graph
pub first_within : (against : Bool) (nodes : List Node) (lists : List (List ℕ)) → IsBlocks nodes lists → (c i n : ℕ) → c < length lists → slice_get (flow_order against (list_at lists c)) i ≡ Some n → n < length nodes
first_within against nodes lists are c i n h at = flow_within against nodes (list_at lists c) i n (are.blocks c (list_at lists c) (slice_get-get_or lists c [] h)).chain at

-- rows as the answers begin have only bits of the answers
pub initial_grow : (against : Bool) (nodes : List Node) (bits : ℕ) (seed stop : ℕ → ℕ → Bool) (rows : List (List Bool)) → AreRows (length nodes) bits rows → ((n b : ℕ) → n < length nodes → b < bits → has_bit rows b n ≡ initial_bit against (seed b) n)
    → AreGrowing against nodes bits seed stop rows
initial_grow against nodes bits seed stop rows shape are = record {
  shape = shape;
  sound = λ n b h l on. begins against n b (sym (are n b h l) ∙ on);
  initial = λ n b h l on. are n b h l ∙ on;
}
  where
    begins : (way : Bool) (n b : ℕ) → initial_bit way (seed b) n ≡ true → HasAnswer way nodes (seed b) (stop b) n
    begins true n b on = at_seed n on
    begins false n b on = absurd (cc)
