-- Nodes with assignments behind Start: a graph can be made of them, they make no other calls, the old nodes stay, and
-- the assignments lead to where Start led.
use Rattle.std.proofs.Common.{◌≡◌, ◌⊎◌, inl, inr, ℕ, zero, suc, ◌<◌, ◌≤◌, List, [], ◌∷◌, length, length-append, slice_get, slice_set, Option, Some, None, refl, sym, ap, ◌∙◌, subst, arith}
use Rattle.std.proofs.lemmas.Bool.{cases_eq}
use Rattle.std.proofs.lemmas.List.{length-set}
use Rattle.std.proofs.lemmas.Option.{slice_get_within}
use Rattle.mir_base.specs.Frames.{Frame}
use Rattle.mir_base.specs.Simulations.{Silently}
use Rattle.flow_graph.specs.declared.nodes.Node.{Node}
use Rattle.flow_graph.specs.declared.nodes.Node.TheVariants.{Start, Skip}
use Rattle.mir_base.specs.Shapes.{AllBelow}
use Rattle.flow_graph.specs.Calls.{NodesCall, node_call}
use Rattle.flow_graph.specs.Graphs.{CanMake, node_succs, node_vars, succs_of}
use Rattle.flow_graph.specs.ListLaws.{get_append, get_left, set_elsewhere, set_here}
use Rattle.flow_graph.specs.Machines.{graph_code}
use Rattle.flow_graph.specs.Plans.{start_succ}
use Rattle.graph_edit.specs.InsertionRuns.{values_after}
use Rattle.graph_edit.specs.Insertions.{Insertion, InsertionsBelow}
use Rattle.program_pass.specs.ChainLaws.{ArePlain, gone_on, stands_silently, stood_kept, stood_stands}
use Rattle.program_pass.specs.StoodLaws.{stood_calls, stood_can}
use Rattle.constant_args.specs.ConstantArguments.{put_behind_start, opened}

-- ---- one more node

-- there is one more
opened_long : (nodes : List Node) → length (opened nodes) ≡ suc (length nodes)
opened_long nodes =
    let first = Start (length nodes) in
    let set = length-set nodes 0 first in
    omega (arith, set, length-append (slice_set nodes 0 first) (Skip (start_succ (slice_get nodes 0)) ∷ []))

-- a node is an old one that is not the first, or Start, or the new one
opened_node : (nodes : List Node) (m : ℕ) (node : Node) → 0 < length nodes → slice_get (opened nodes) m ≡ Some node
    → ((m ≡ 0 → ⊥) × (slice_get nodes m ≡ Some node)) ⊎ (((m ≡ 0) × (Start (length nodes) ≡ node)) ⊎ ((1 ≤ m) × (Skip (start_succ (slice_get nodes 0)) ≡ node)))
opened_node nodes m node some at = elim (get_append olds news m node at) [
  | inl old ↦ elim (cases_eq m 0) [
    | inl same ↦
        let both : Some (Start (length nodes)) ≡ Some node = sym (set_here nodes 0 (Start (length nodes)) some) ∙ ap (slice_get olds) (sym same) ∙ old in
        let is : Start (length nodes) ≡ node = cc in
        inr (inl (same, is))
    | inr apart ↦ inl (apart, sym (set_elsewhere nodes 0 m (Start (length nodes)) apart) ∙ old)
  ]
  | inr new ↦
      let place = new.1 in
      let long = length-set nodes 0 (Start (length nodes)) in
      inr (inr (omega (arith, place, long, some), one new.0 new.2))
]
  where
    olds : List Node
    olds = slice_set nodes 0 (Start (length nodes))

    news : List Node
    news = Skip (start_succ (slice_get nodes 0)) ∷ []

    one : (i : ℕ) → slice_get news i ≡ Some node → Skip (start_succ (slice_get nodes 0)) ≡ node
    one zero e = cc
    one (suc i) e = cc

-- the old nodes but the first stay
opened_kept : (nodes : List Node) (m : ℕ) → (m ≡ 0 → ⊥) → m < length nodes → slice_get (opened nodes) m ≡ slice_get nodes m
opened_kept nodes m apart lt =
    let first = Start (length nodes) in
    let set = length-set nodes 0 first in
    get_left (slice_set nodes 0 first) (Skip (start_succ (slice_get nodes 0)) ∷ []) m (omega (arith, lt, set)) ∙ set_elsewhere nodes 0 m first apart

-- the first leads to the new one
opened_start : (nodes : List Node) → 0 < length nodes → slice_get (opened nodes) 0 ≡ Some (Start (length nodes))
opened_start nodes some =
    let first = Start (length nodes) in
    let set = length-set nodes 0 first in
    get_left (slice_set nodes 0 first) (Skip (start_succ (slice_get nodes 0)) ∷ []) 0 (omega (arith, some, set)) ∙ set_here nodes 0 first some

-- they make no calls but those of the nodes
opened_calls : (nodes : List Node) → 0 < length nodes → (called count : ℕ) → NodesCall (opened nodes) called count → NodesCall nodes called count
opened_calls nodes some called count c = elim (opened_node nodes c.number c.node some c.here) [
  | inl old ↦ record { number = c.number; node = c.node; here = old.1; calls = c.calls }
  | inr (inl start) ↦ absurd (let e = ap node_call start.1 ∙ c.calls in cc)
  | inr (inr new) ↦ absurd (let e = ap node_call new.1 ∙ c.calls in cc)
]

module _ (vars : List (List ℕ)) (received : List ℕ) (nodes : List Node) (can : CanMake vars received nodes) where
  -- there is a first node
  some : 0 < length nodes
  some = slice_get_within nodes 0 (Start can.start.0) can.start.1

  -- where Start leads
  end_is : start_succ (slice_get nodes 0) ≡ can.start.0
  end_is = ap start_succ can.start.1

  -- it is a node that is not the first
  end_within : (1 ≤ start_succ (slice_get nodes 0)) × (start_succ (slice_get nodes 0) < length nodes)
  end_within =
      let after = can.succs 0 0 can.start.0 (ap (λ o. slice_get (succs_of o) 0) can.start.1) in
      let one = after.0 in
      let lt = after.1 in
      let is = end_is in
      (omega (arith, is, one), omega (arith, is, lt))

  -- a graph can be made with one more node
  opened_can : CanMake vars received (opened nodes)
  opened_can = record {
    start = (length nodes, opened_start nodes some);
    only = λ m s e. elim (opened_node nodes m (Start s) some e) [
      | inl old ↦ can.only m s old.1
      | inr (inl start) ↦ start.0
      | inr (inr new) ↦ absurd (let e' = new.1 in cc)
    ];
    succs = λ m slot s edge. edge_to m slot s (slice_get (opened nodes) m) refl edge;
    below = λ m node e. elim (opened_node nodes m node some e) [
      | inl old ↦ can.below m node old.1
      | inr (inl start) ↦ subst (λ n. AllBelow (length vars) (node_vars n)) start.1 tt
      | inr (inr new) ↦ subst (λ n. AllBelow (length vars) (node_vars n)) new.1 tt
    ];
    received_below = can.received_below;
    received_differ = can.received_differ;
    names = can.names;
  }
    where
      only_start : (slot s : ℕ) → slice_get (length nodes ∷ []) slot ≡ Some s → (1 ≤ s) × (s < length (opened nodes))
      only_start zero s e = let same : length nodes ≡ s = cc in let long = opened_long nodes in (omega (arith, same, some), omega (arith, same, long))
      only_start (suc slot) s e = cc

      only_new : (slot s : ℕ) → slice_get (start_succ (slice_get nodes 0) ∷ []) slot ≡ Some s → (1 ≤ s) × (s < length (opened nodes))
      only_new zero s e =
          let same : start_succ (slice_get nodes 0) ≡ s = cc in
          let long = opened_long nodes in
          let to = end_within in
          (omega (arith, same, to.0), omega (arith, same, to.1, long))
      only_new (suc slot) s e = cc

      edge_to : (m slot s : ℕ) (o : Option Node) → slice_get (opened nodes) m ≡ o → slice_get (succs_of o) slot ≡ Some s → (1 ≤ s) × (s < length (opened nodes))
      edge_to m slot s None e edge = cc
      edge_to m slot s (Some node) e edge = elim (opened_node nodes m node some e) [
        | inl old ↦ let there = can.succs m slot s (ap (λ o. slice_get (succs_of o) slot) old.1 ∙ edge) in let lt = there.1 in let long = opened_long nodes in (there.0, omega (arith, lt, long))
        | inr (inl start) ↦ only_start slot s (ap (λ n. slice_get (node_succs n) slot) start.1 ∙ edge)
        | inr (inr new) ↦ only_new slot s (ap (λ n. slice_get (node_succs n) slot) new.1 ∙ edge)
      ]

  -- ---- and assignments in its place

  -- it is one of the nodes
  new_within : length nodes < length (opened nodes)
  new_within = let long = opened_long nodes in omega (arith, long)

  -- a graph can be made with the assignments
  pub behind_start_can : (puts : List Insertion) → InsertionsBelow (length vars) puts → CanMake vars received (put_behind_start nodes puts)
  behind_start_can [] below = can
  behind_start_can (put ∷ puts) below =
      let to = end_within in
      let long = opened_long nodes in
      let lt = to.1 in
      let any = some in
      stood_can vars received (opened nodes) (length nodes) (put ∷ puts) (start_succ (slice_get nodes 0)) opened_can new_within (omega (arith, any)) (to.0, omega (arith, lt, long)) below

  -- it makes no calls but those of the nodes
  pub behind_start_calls : (puts : List Insertion) → InsertionsBelow (length vars) puts → (called count : ℕ) → NodesCall (put_behind_start nodes puts) called count → NodesCall nodes called count
  behind_start_calls [] below called count c = c
  behind_start_calls (put ∷ puts) below called count c =
      opened_calls nodes some called count (stood_calls (length vars) (opened nodes) (length nodes) (put ∷ puts) (start_succ (slice_get nodes 0)) new_within below called count c)

  -- the old nodes but the first stay
  pub behind_start_kept : (puts : List Insertion) (m : ℕ) → (m ≡ 0 → ⊥) → m < length nodes → slice_get (put_behind_start nodes puts) m ≡ slice_get nodes m
  behind_start_kept [] m apart lt = refl
  behind_start_kept (put ∷ puts) m apart lt =
      let long = opened_long nodes in
      stood_kept (opened nodes) (length nodes) (put ∷ puts) (start_succ (slice_get nodes 0)) m (λ same. omega (arith, same, lt)) (omega (arith, lt, long)) ∙ opened_kept nodes m apart lt

  -- Start leads to the assignments, and these to where it led
  pub record Leads (puts : List Insertion) : Type 0 where
    pub next : ℕ
    pub start : slice_get (put_behind_start nodes puts) 0 ≡ Some (Start next)
    pub silent : (shared : ℕ) (others : List ℕ) (g : Frame) → g.place ≡ next
        → (k : ℕ) × Silently (graph_code shared others (put_behind_start nodes puts)) k g (gone_on can.start.0 (values_after puts g.values) g) 0

  -- so it does
  pub behind_start_leads : (puts : List Insertion) → ArePlain puts → Leads puts
  behind_start_leads [] plain = record {
    next = can.start.0;
    start = can.start.1;
    silent = λ shared others g here. (0, (ap (λ p. gone_on p g.values g) here, refl));
  }
  behind_start_leads (put ∷ puts) plain = record {
    next = length nodes;
    start =
        let any = some in
        let long = opened_long nodes in
        stood_kept (opened nodes) (length nodes) (put ∷ puts) (start_succ (slice_get nodes 0)) 0 (λ same. omega (arith, same, any)) (omega (arith, long)) ∙ opened_start nodes some;
    silent = λ shared others g here.
        let all = put_behind_start nodes (put ∷ puts) in
        let stands = stood_stands (opened nodes) (length nodes) (put ∷ puts) (start_succ (slice_get nodes 0)) new_within in
        let run = stands_silently shared others all (length nodes) (length (opened nodes)) (put ∷ puts) (start_succ (slice_get nodes 0)) stands plain g here in
        (run.0, subst (λ n. Silently (graph_code shared others all) run.0 g (gone_on n (values_after (put ∷ puts) g.values) g) 0) end_is run.2);
  }
