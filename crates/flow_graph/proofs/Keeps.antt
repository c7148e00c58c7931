-- To drop the nodes that are not reached changes nothing.
use Rattle.std.proofs.Common.{◌≡◌, ℕ, ◌<◌, List, length, slice_get, Some, option_map, refl, sym, ap, ◌∙◌, subst, arith}
use Rattle.std.proofs.lemmas.Option.{slice_get-map, slice_get_within}
use Rattle.mir_base.specs.Frames.{Frame}
use Rattle.mir_base.specs.Units.{at}
use Rattle.mir_base.specs.UnitRuns.{UnitSame, UnitCheaper}
use Rattle.mir_base.specs.Locksteps.{Alike, Lockstep}
use Rattle.mir_base.specs.LockstepLaws.{lockstep_same, lockstep_cheaper}
use Rattle.flow_graph.specs.declared.nodes.Node.{Node}
use Rattle.flow_graph.specs.Graphs.{GraphShape, Reached, at_start, along, succs_at, CanMake}
use Rattle.flow_graph.specs.MachineLaws.{graph_hands}
use Rattle.flow_graph.specs.Machines.{node_transition, graph_code, graph_machine, machine_of}
use Rattle.flow_graph.specs.Retained.{redirected, marked_below, marked, AreRetained, IsMade}
use Rattle.flow_graph.specs.RedirectLaws.{Shifted, redirects_alike}
use Rattle.flow_graph.specs.RetainedLaws.{at_rank}
use Rattle.flow_graph.specs.BoundLaws.{reached_within}

module _ (raw nodes : List Node) (shared : ℕ) (received : List ℕ) (retained : AreRetained raw nodes) (some : 0 < length raw) (succs : (m slot s : ℕ) → slice_get (succs_at raw m) slot ≡ Some s → s < length raw) where
  node_of : (n : ℕ) → Reached raw n → slice_get nodes (marked_below retained.marks n) ≡ option_map (redirected (marked_below retained.marks)) (slice_get raw n)
  node_of n r =
      let e = retained.are_marks.exact n (reached_within raw some succs n r) in
      ap (λ l. slice_get l (marked_below retained.marks n)) retained.are ∙ slice_get-map (redirected (marked_below retained.marks)) (marked retained.marks raw) (marked_below retained.marks n) ∙ ap (option_map (redirected (marked_below retained.marks))) (at_rank retained.marks raw n (e.1 r) retained.are_marks.long)

  abbrev S : Frame → Frame → Type 0
  S = Shifted (marked_below retained.marks) (Reached raw)

  steps : (f g : Frame) → S f g → Alike S (graph_code shared received raw f) (graph_code shared received nodes g)
  steps f g s =
      let a = redirects_alike shared received (marked_below retained.marks) (Reached raw) (slice_get raw f.place) (λ slot t e. along f.place slot t s.good e) f (marked_below retained.marks f.place) in
      let b = subst (λ o. Alike S (graph_code shared received raw f) (node_transition shared received o (at (marked_below retained.marks f.place) f))) (sym (node_of f.place s.good)) a in
      subst (λ h. Alike S (graph_code shared received raw f) (graph_code shared received nodes h)) (sym s.is) b

  lockstep : Lockstep (graph_machine shared received raw) (graph_machine shared received nodes) S
  lockstep = record { receives = refl; shared = refl; hands = graph_hands shared received raw; starts = λ entry is. record { good = at_start; is = refl }; steps = steps }

  pub kept_same : UnitSame (graph_machine shared received raw) (graph_machine shared received nodes)
  kept_same = lockstep_same _ _ S lockstep

  pub kept_cheaper : UnitCheaper (graph_machine shared received raw) (graph_machine shared received nodes)
  kept_cheaper = lockstep_cheaper _ _ S lockstep

-- ---- a made graph does the same as all its nodes

-- it does the same
pub made_same : (name : List ℕ) (shared : ℕ) (vars : List (List ℕ)) (received : List ℕ) (raw : List Node) (graph : GraphShape) → CanMake vars received raw → IsMade name shared vars received raw graph → UnitSame (graph_machine shared received raw) (machine_of graph)
made_same name shared vars received raw graph can made =
    subst (λ k. UnitSame (graph_machine shared received raw) (graph_machine k graph.received graph.nodes)) (sym made.shared_is)
    (subst (λ r. UnitSame (graph_machine shared received raw) (graph_machine shared r graph.nodes)) (sym made.received_are) (kept_same raw graph.nodes shared received made.nodes_are (omega (arith, slice_get_within raw 0 _ can.start.1)) (λ m slot s e. (can.succs m slot s e).1)))

-- and evaluates no more operators
pub made_cheaper : (name : List ℕ) (shared : ℕ) (vars : List (List ℕ)) (received : List ℕ) (raw : List Node) (graph : GraphShape) → CanMake vars received raw → IsMade name shared vars received raw graph → UnitCheaper (graph_machine shared received raw) (machine_of graph)
made_cheaper name shared vars received raw graph can made =
    subst (λ k. UnitCheaper (graph_machine shared received raw) (graph_machine k graph.received graph.nodes)) (sym made.shared_is)
    (subst (λ r. UnitCheaper (graph_machine shared received raw) (graph_machine shared r graph.nodes)) (sym made.received_are) (kept_cheaper raw graph.nodes shared received made.nodes_are (omega (arith, slice_get_within raw 0 _ can.start.1)) (λ m slot s e. (can.succs m slot s e).1)))
