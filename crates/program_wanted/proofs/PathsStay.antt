-- No path through a unit is dearer once it is narrowed.
use Rattle.std.proofs.Common.{◌≡◌, ℕ, zero, suc, ◌≤◌, List, [], ◌∷◌, refl, sym, ap, ◌∙◌, subst, arith, le_refl}
use Rattle.std.proofs.lemmas.List.Elements.{All-head, All-tail}
use Rattle.mir_base.specs.Frames.{Answer, Frame, Transition, Continues, Prints, Calls, Returns, Traps, first_frame, resumed}
use Rattle.mir_base.specs.UnitRuns.{AreAnswers, EndsInReturn, IsCallAnswer, UnitCheaper, after_transition, frame_run}
use Rattle.flow_graph.specs.declared.nodes.Node.{Node}
use Rattle.flow_graph.specs.Graphs.{CanMake, GraphShape}
use Rattle.flow_graph.specs.Machines.{graph_code, graph_machine, machine_of}
use Rattle.wanted_bits.specs.Narrowed.{AreNarrowed}
use Rattle.wanted_bits.specs.NarrowedSteps.{AlikeBy, Beside, entered_beside, narrowed_steps}
use Rattle.wanted_bits.specs.Wanted.{Asked}
use Rattle.wanted_bits.proofs.PathsStay.{paths_keep}
use Rattle.program_wanted.specs.UnitPaths.{HasNoDearer}

module _ (asked : Asked) (graph : GraphShape) (can : CanMake graph.vars graph.received graph.nodes) (nodes : List Node) (are : AreNarrowed asked graph nodes) where
  -- frames beside one another
  abbrev S : Frame → Frame → Type 0
  S = Beside graph.nodes graph.received are.shifts are.wanted

  -- from there, with the same answers, where both return, the second has counted no more
  abbrev NoDearer : ℕ → Type 0
  NoDearer n = (m : ℕ) (f g : Frame) (answers : List Answer) → S f g → AreAnswers graph.shared answers
      → EndsInReturn (frame_run (graph_code graph.shared graph.received graph.nodes) n f answers).events
      → EndsInReturn (frame_run (graph_code graph.shared graph.received nodes) m g answers).events
      → (frame_run (graph_code graph.shared graph.received nodes) m g answers).counted ≤ (frame_run (graph_code graph.shared graph.received graph.nodes) n f answers).counted

  -- after one step
  past_no_dearer : (n m : ℕ) → NoDearer n → (t t' : Transition) (answers : List Answer) → AlikeBy asked graph.shared are.wanted S t t' → AreAnswers graph.shared answers
      → EndsInReturn (after_transition (frame_run (graph_code graph.shared graph.received graph.nodes) n) t answers).events
      → EndsInReturn (after_transition (frame_run (graph_code graph.shared graph.received nodes) m) t' answers).events
      → (after_transition (frame_run (graph_code graph.shared graph.received nodes) m) t' answers).counted ≤ (after_transition (frame_run (graph_code graph.shared graph.received graph.nodes) n) t answers).counted
  past_no_dearer n m go (Continues k next) (Continues l next') answers alike all ends ends' = let rest = go m next next' answers alike.1 all ends ends' in omega (arith, alike.0, rest)
  past_no_dearer n m go (Prints v next) (Prints w next') answers alike all ends ends' = go m next next' answers alike.1 all ends ends'
  past_no_dearer n m go (Calls unit entry into next) (Calls unit' entry' into' next') [] alike all ends ends' = absurd ends
  past_no_dearer n m go (Calls unit entry into next) (Calls unit' entry' into' next') (a ∷ answers) alike all ends ends' =
      let is = All-head (IsCallAnswer graph.shared) a answers all in
      go m (resumed into a next) (resumed into' a next') answers (alike.3 a a is is (record { on_result = λ y e. refl; on_globals = λ x low off. refl })) (All-tail (IsCallAnswer graph.shared) a answers all) ends ends'
  past_no_dearer n m go (Returns a) (Returns a') answers alike all ends ends' = le_refl 0
  past_no_dearer n m go (Traps kind k) (Traps kind' l) answers alike all ends ends' = absurd ends
  past_no_dearer n m go _ _ answers alike all ends ends' = absurd alike

  no_dearer : (n : ℕ) → NoDearer n
  no_dearer zero m f g answers on all ends ends' = absurd ends
  no_dearer (suc n) zero f g answers on all ends ends' = absurd ends'
  no_dearer (suc n) (suc m) f g answers on all ends ends' =
      past_no_dearer n m (no_dearer n) (graph_code graph.shared graph.received graph.nodes f) (graph_code graph.shared graph.received nodes g) answers (narrowed_steps asked graph can nodes are f g on) all ends ends'

  -- from one entry
  unit_cheaper : UnitCheaper (machine_of graph) (graph_machine graph.shared graph.received nodes)
  unit_cheaper = record {
    cheaper = λ entry answers is all n m.
        no_dearer n m (first_frame entry) (first_frame entry) answers
        (entered_beside graph can are.shifts are.wanted are.shifts_hold (λ x. 64) (λ i. 64) (λ x low. are.are_wanted.most 0 x) (λ i x at. are.are_wanted.most 0 x) entry entry is is
        (record { long = refl; numbers = is.numbers; numbers' = is.numbers; globals_are = is.globals; globals_are' = is.globals; on_globals = λ x low. refl; on_arguments = λ i. refl })) all;
  }

-- no path through the narrowed graph is dearer
pub paths_stay : (asked : Asked) (graph narrowed : GraphShape) → CanMake graph.vars graph.received graph.nodes → AreNarrowed asked graph narrowed.nodes → narrowed.shared ≡ graph.shared → narrowed.received ≡ graph.received → HasNoDearer graph narrowed
paths_stay asked graph narrowed can are shared received =
    let machine : graph_machine graph.shared graph.received narrowed.nodes ≡ machine_of narrowed = ap (λ (s : ℕ). graph_machine s graph.received narrowed.nodes) (sym shared) ∙ ap (λ (r : List ℕ). graph_machine narrowed.shared r narrowed.nodes) (sym received) in
    record {
      paths = paths_keep asked graph narrowed are;
      cheaper = subst (UnitCheaper (machine_of graph)) machine (unit_cheaper asked graph can narrowed.nodes are);
    }
