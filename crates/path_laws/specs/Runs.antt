-- The blocks of a graph are runs of the flow, and the edges between them are the steps between runs.
use Rattle.std.proofs.Common.{◌≡◌, ℕ, zero, suc, ◌-◌, ◌<◌, inl, inr, Bool, true, false, List, [], ◌∷◌, ◌++◌, length, reverse, slice_get, Some, refl, sym, ap, subst, arith, ◌∙◌, length-append}
use Rattle.flow_graph.specs.ListLaws.{get_left_some, get_last}
use Rattle.std.proofs.lemmas.List.{reverse-append}
use Rattle.std.proofs.lemmas.Option.{slice_get_within, slice_get-get_or, get_or_from_slice_get}
use Rattle.flow_graph.specs.declared.edges.Edge.{Edge}
use Rattle.flow_graph.specs.declared.nodes.Node.{Node}
use Rattle.flow_graph.specs.BlockLaws.{chain_inner, chain_on, edge_within, glued_edge, one_block, only_from, only_to}
use Rattle.flow_graph.specs.Blocks.{IsBlock, IsBlocks, IsChain, IsGlued, StandsIn}
use Rattle.flow_graph.specs.Graphs.{AllWithin}
use Rattle.flow_graph.specs.PathLaws.{end_stands, first_begins}
use Rattle.flow_graph.specs.Paths.{Begins, Ends}
use Rattle.path_laws.specs.Between.{AreBetween, IsAhead}
use Rattle.node_list.specs.Lists.{list_at}
use Rattle.path_laws.specs.Blockwise.{flow_order}
use Rattle.path_laws.specs.Leads.{steps_of}
use Rattle.flow_graph.specs.FlowEdges.{StepAlong, edge_at}
use Rattle.path_laws.specs.Chains.{AreRuns, IsRun}
use Rattle.path_laws.specs.Places.{reversed_item}

-- ---- a list in reverse

-- reversing a list exchanges its ends: the last becomes the first
reversed_first : (list : List ℕ) (m : ℕ) → Ends m list → slice_get (reverse list) 0 ≡ Some m
reversed_first [] m e = absurd e
reversed_first (k ∷ []) m e = ap Some e
reversed_first (j ∷ k ∷ list) m e = ap (λ l. slice_get l 0) (reverse-append (j ∷ []) (k ∷ list)) ∙ get_left_some (reverse (k ∷ list)) (j ∷ []) 0 m (reversed_first (k ∷ list) m e)

-- and the first the last
reversed_last : (list : List ℕ) (m : ℕ) → Begins m list → (i : ℕ) × (slice_get (reverse list) i ≡ Some m) × (suc i ≡ length (reverse list))
reversed_last [] m b = absurd b
reversed_last (k ∷ list) m b =
    let whole : reverse (k ∷ list) ≡ reverse list ++ k ∷ [] = reverse-append (k ∷ []) list in
    (length (reverse list), ap (λ l. slice_get l (length (reverse list))) whole ∙ get_last (reverse list) k ∙ ap Some b, omega (arith, ap length whole, length-append (reverse list) (k ∷ [])))

-- the last node has the last place
last_of : (list : List ℕ) (m : ℕ) → Ends m list → (i : ℕ) × (slice_get list i ≡ Some m) × (suc i ≡ length list)
last_of list m e = let at = end_stands list m e in (length list - 1, at, omega (arith, slice_get_within list (length list - 1) m at))

-- ---- a block is a run

-- one more node at the end of a run
run_more : (steps : ℕ → ℕ → Type 0) (path : List ℕ) (p q : ℕ) → IsRun steps (path ++ p ∷ []) → steps q p → ((k : ℕ) → steps q k → k ≡ p) → IsRun steps (path ++ p ∷ q ∷ [])
run_more steps [] p q is step one = (step, one, tt)
run_more steps (j ∷ []) p q is step one = (is.0, is.1, (step, one, tt))
run_more steps (j ∷ k ∷ path) p q is step one = (is.0, is.1, run_more steps (k ∷ path) p q is.2 step one)

-- each edge of a chain is a step along the flow
along_run : (nodes : List Node) (chain : List ℕ) → IsChain nodes chain → IsRun (steps_of false nodes) chain
along_run nodes [] is = absurd is
along_run nodes (n ∷ []) is = tt
along_run nodes (m ∷ n ∷ chain) is = (glued_edge nodes m n is.0, λ k edge. only_from nodes m n k is.0.enters edge, along_run nodes (n ∷ chain) is.1)

-- and of the reversed chain a step against it
against_run : (nodes : List Node) (chain : List ℕ) → IsChain nodes chain → IsRun (steps_of true nodes) (reverse chain)
against_run nodes [] is = absurd is
against_run nodes (n ∷ []) is = tt
against_run nodes (m ∷ n ∷ chain) is =
    let rest = against_run nodes (n ∷ chain) is.1 in
    let backward : reverse (n ∷ chain) ≡ reverse chain ++ n ∷ [] = reverse-append (n ∷ []) chain in
    let whole : reverse (m ∷ n ∷ chain) ≡ reverse chain ++ n ∷ m ∷ [] = reverse-append (m ∷ n ∷ []) chain in
    subst (IsRun (steps_of true nodes)) (sym whole)
    (run_more (steps_of true nodes) (reverse chain) n m (subst (IsRun (steps_of true nodes)) backward rest) (glued_edge nodes m n is.0) (λ k edge. only_to nodes m n k is.0.leaves edge))

-- so a block in the order of the flow is a run, whatever the direction
pub block_run : (against : Bool) (nodes : List Node) (list : List ℕ) → IsChain nodes list → IsRun (steps_of against nodes) (flow_order against list)
block_run true nodes list is = against_run nodes list is
block_run false nodes list is = along_run nodes list is

-- the node ahead is the last in the order of the flow
pub ahead_last : (against : Bool) (list : List ℕ) (n : ℕ) → IsAhead against n list → (i : ℕ) × (slice_get (flow_order against list) i ≡ Some n) × (suc i ≡ length (flow_order against list))
ahead_last true list n ahead = reversed_last list n ahead
ahead_last false list n ahead = last_of list n ahead

-- a node that steps back to the node ahead of a block is the first of its own in the order of the flow
pub enters_first : (against : Bool) (nodes : List Node) (list from_list : List ℕ) (m k place : ℕ) → IsBlock nodes list → IsBlock nodes from_list → slice_get list place ≡ Some m → IsAhead against k from_list → steps_of against nodes m k → slice_get (flow_order against list) 0 ≡ Some m
enters_first true nodes list from_list m k place is from at ahead step = elim (chain_on nodes list place m is.chain at) as (λ _. slice_get (reverse list) 0 ≡ Some m) [
  | inl ends ↦ reversed_first list m ends
  | inr next ↦ let same : k ≡ next.0 = only_to nodes m next.0 k next.2.leaves step in absurd (from.first k ahead m (subst (IsGlued nodes m) (sym same) next.2))
]
enters_first false nodes list from_list m k zero is from at ahead step = at
enters_first false nodes list from_list m k (suc place) is from at ahead step =
    let before = chain_inner nodes list place m is.chain at in
    let same : k ≡ before.0 = only_from nodes before.0 m k before.2.enters step in
    absurd (from.last k ahead m (subst (λ j. IsGlued nodes j m) (sym same) before.2))

-- a node to which the first of a block steps back is the one ahead of its own
pub steps_ahead : (against : Bool) (nodes : List Node) (list from_list : List ℕ) (m k place : ℕ) → IsBlock nodes list → IsBlock nodes from_list → slice_get (flow_order against list) 0 ≡ Some m → slice_get from_list place ≡ Some k → steps_of against nodes m k → IsAhead against k from_list
steps_ahead true nodes list from_list m k zero is from first at step = first_begins from_list k at
steps_ahead true nodes list from_list m k (suc place) is from first at step =
    let before = chain_inner nodes from_list place k from.chain at in
    let same : m ≡ before.0 = only_from nodes before.0 k m before.2.enters step in
    absurd (is.last m (reversed_ends list m first) k (subst (λ j. IsGlued nodes j k) (sym same) before.2))
  where
    ends_back : (xs : List ℕ) (x y : ℕ) → slice_get (reverse (x ∷ xs)) 0 ≡ Some y → Ends y (x ∷ xs)
    ends_back [] x y e = cc
    ends_back (z ∷ xs) x y e = ends_back xs z y (front (reverse (z ∷ xs)) (reversed_last (z ∷ xs) z refl) (sym (ap (λ l. slice_get l 0) (reverse-append (x ∷ []) (z ∷ xs))) ∙ e))
      where
        front : (l : List ℕ) → (i : ℕ) × (slice_get l i ≡ Some z) × (suc i ≡ length l) → slice_get (l ++ x ∷ []) 0 ≡ Some y → slice_get l 0 ≡ Some y
        front [] some e = absurd (omega (arith, some.2))
        front (j ∷ l) some e = e

    reversed_ends : (l : List ℕ) (y : ℕ) → slice_get (reverse l) 0 ≡ Some y → Ends y l
    reversed_ends [] y e = cc
    reversed_ends (x ∷ l) y e = ends_back l x y e
steps_ahead false nodes list from_list m k place is from first at step = elim (chain_on nodes from_list place k from.chain at) as (λ _. Ends k from_list) [
  | inl ends ↦ ends
  | inr next ↦ let same : m ≡ next.0 = only_to nodes k next.0 m next.2.leaves step in absurd (is.first m (first_begins list m first) k (subst (IsGlued nodes k) (sym same) next.2))
]

module _ (against : Bool) (nodes : List Node) (lists : List (List ℕ)) (edges : List Edge) (firsts : List ℕ) (are : IsBlocks nodes lists) (between : AreBetween against nodes lists (length lists) edges firsts) (within : AllWithin nodes) where
  abbrev path : ℕ → List ℕ
  path c = flow_order against (list_at lists c)

  listed : (c : ℕ) → c < length lists → slice_get lists c ≡ Some (list_at lists c)
  listed c h = slice_get-get_or lists c [] h

  step_in : (m k : ℕ) → steps_of against nodes m k → k < length nodes
  step_in m k step = ends against step
    where
      ends : (way : Bool) → steps_of way nodes m k → k < length nodes
      ends true edge = within m edge.0 k edge.1
      ends false edge = edge_within nodes k m edge

  is_list : (c : ℕ) (list : List ℕ) → slice_get lists c ≡ Some list → list_at lists c ≡ list
  is_list c list e = get_or_from_slice_get lists c list [] e

  sound : (c d : ℕ) → StepAlong edges c d → (c < length lists) × (d < length lists) × ((m : ℕ) × (k : ℕ) × (i : ℕ) × (slice_get (path c) 0 ≡ Some m) × (slice_get (path d) i ≡ Some k) × (suc i ≡ length (path d)) × steps_of against nodes m k)
  sound c d (e, h, source, target) =
      let edge = edge_at edges e in
      let at : slice_get edges e ≡ Some (edge_at edges e) = slice_get-get_or edges e _ h in
      let b = between.sound e edge at in
      let from_block = are.blocks edge.source b.leaves.list b.leaves.listed in
      let to_block = are.blocks edge.target b.enters.list b.enters.listed in
      let first = enters_first against nodes b.enters.list b.leaves.list b.to b.from b.enters.place to_block from_block b.enters.is b.leaves.ahead b.step in
      let last = ahead_last against b.leaves.list b.from b.leaves.ahead in
      let to_list : list_at lists c ≡ b.enters.list = is_list c b.enters.list (ap (slice_get lists) (sym target) ∙ b.enters.listed) in
      let from_list : list_at lists d ≡ b.leaves.list = is_list d b.leaves.list (ap (slice_get lists) (sym source) ∙ b.leaves.listed) in (
        subst (λ j. j < length lists) target b.within,
        subst (λ j. j < length lists) source (between.source e edge at),
        (b.to, b.from, last.0, rw to_list first, rw from_list last.1, rw from_list last.2, b.step),
      )

  complete : (c m k : ℕ) → c < length lists → slice_get (path c) 0 ≡ Some m → steps_of against nodes m k → (d : ℕ) × (i : ℕ) × StepAlong edges c d × (slice_get (path d) i ≡ Some k) × (suc i ≡ length (path d))
  complete c m k h first step =
      let s = are.every k (step_in m k step) in
      let from_block = are.blocks s.0 s.1.list s.1.listed in
      let to_block = are.blocks c (list_at lists c) (listed c h) in
      let ahead = steps_ahead against nodes (list_at lists c) s.1.list m k s.1.place to_block from_block first s.1.is step in
      let last = ahead_last against s.1.list k ahead in
      let from_list : list_at lists s.0 ≡ s.1.list = is_list s.0 s.1.list s.1.listed in
      let edge = between.complete s.0 k m (slice_get_within lists s.0 s.1.list s.1.listed) (record { list = s.1.list; listed = s.1.listed; ahead = ahead }) step in
      let stands : StandsIn lists c m = first_stands against (list_at lists c) (listed c h) first in
      let same : edge.1.target ≡ c = one_block nodes lists edge.1.target c m are edge.4 stands in
      let is : edge_at edges edge.0 ≡ edge.1 = get_or_from_slice_get edges edge.0 edge.1 _ edge.2 in
      (s.0, last.0, (edge.0, slice_get_within edges edge.0 edge.1 edge.2, ap (λ (x : Edge). x.source) is ∙ edge.3, ap (λ (x : Edge). x.target) is ∙ same), rw from_list last.1, rw from_list last.2)
    where
      first_stands : (way : Bool) (list : List ℕ) → slice_get lists c ≡ Some list → slice_get (flow_order way list) 0 ≡ Some m → StandsIn lists c m
      first_stands true list at e = let f = reversed_item list 0 m e in record { list = list; listed = at; place = f.0; is = f.1 }
      first_stands false list at e = record { list = list; listed = at; place = 0; is = e }

  pub are_runs : AreRuns (length nodes) (length lists) (steps_of against nodes) path (StepAlong edges)
  are_runs = record {
    runs = λ c h. block_run against nodes (list_at lists c) (are.blocks c (list_at lists c) (listed c h)).chain;
    sound = sound;
    complete = complete;
  }
