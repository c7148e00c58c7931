use Rattle.std.proofs.Common.{◌≡◌, ◌∙◌, ℕ, List, ap, sym, subst}
use Rattle.mir_base.specs.Frames.{first_frame}
use Rattle.mir_base.specs.UnitRuns.{UnitCheaper, UnitSame}
use Rattle.flow_graph.specs.Graphs.{IsGraph}
use Rattle.flow_graph.specs.KeepsLaws.{same_globals}
use Rattle.flow_graph.specs.Machines.{graph_machine, machine_of}
use Rattle.wanted_bits.specs.Narrowed.{AreNarrowed}
use Rattle.wanted_bits.specs.RunsAgree.{AgreeThere, frame_after}
use Rattle.wanted_bits.specs.Wanted.{all_asked}
use Rattle.wanted_bits.proofs.Locksteps.{narrowed_cheaper, narrowed_same, runs_agree}
use Rattle.wanted_bits.proofs.PathsStay.{paths_keep}
use Rattle.wanted_bits.proofs.narrowing.narrow.Goals as goal

pub returns-clause-keeps : goal.returns-clause-keeps
returns-clause-keeps c =
    let graph = c.args.graph.now in
    let narrowed = c.in_ok-narrowed.narrowed in
    let made = c.in_ok-narrowed.ensures in
    let is = made.narrowed_is in
    let is_graph : IsGraph graph.vars graph.received graph.nodes = subst (IsGraph graph.vars graph.received) c.nodes-nodes.ensures.value c.nodes-nodes.ensures.graph in
    let can = is_graph.can in
    let found = made.found in
    let are : AreNarrowed all_asked graph narrowed.nodes = record { shifts = found.shifts; wanted = found.wanted; shifts_hold = found.shifts_hold; are_wanted = found.least.are; nodes_are = found.nodes_are } in
    let machine : graph_machine graph.shared graph.received narrowed.nodes ≡ machine_of narrowed = ap (λ (s : ℕ). graph_machine s graph.received narrowed.nodes) (sym is.shared_is) ∙ ap (λ (r : List ℕ). graph_machine narrowed.shared r narrowed.nodes) (sym is.received_are) in
    record {
      name = is.name_is;
      globals = same_globals graph narrowed is.shared_is is.vars_are;
      same = subst (UnitSame (machine_of graph)) machine (narrowed_same graph can narrowed.nodes are);
      cheaper = subst (UnitCheaper (machine_of graph)) machine (narrowed_cheaper graph can narrowed.nodes are);
      calls = made.calls;
    }

pub returns-clause-paths : goal.returns-clause-paths
returns-clause-paths c =
    let found = c.in_ok-narrowed.ensures.found in
    paths_keep all_asked c.args.graph.now c.in_ok-narrowed.narrowed (record { shifts = found.shifts; wanted = found.wanted; shifts_hold = found.shifts_hold; are_wanted = found.least.are; nodes_are = found.nodes_are })

pub returns-clause-agrees : goal.returns-clause-agrees
returns-clause-agrees c =
    let graph = c.args.graph.now in
    let narrowed = c.in_ok-narrowed.narrowed in
    let made = c.in_ok-narrowed.ensures in
    let is = made.narrowed_is in
    let is_graph : IsGraph graph.vars graph.received graph.nodes = subst (IsGraph graph.vars graph.received) c.nodes-nodes.ensures.value c.nodes-nodes.ensures.graph in
    let can = is_graph.can in
    let found = made.found in
    let are : AreNarrowed all_asked graph narrowed.nodes = record { shifts = found.shifts; wanted = found.wanted; shifts_hold = found.shifts_hold; are_wanted = found.least.are; nodes_are = found.nodes_are } in
    let machine : graph_machine graph.shared graph.received narrowed.nodes ≡ machine_of narrowed = ap (λ (s : ℕ). graph_machine s graph.received narrowed.nodes) (sym is.shared_is) ∙ ap (λ (r : List ℕ). graph_machine narrowed.shared r narrowed.nodes) (sym is.received_are) in
    record {
      shifts = found.shifts;
      tell = found.shifts_are;
      wanted = found.wanted;
      least = found.least;
      agree = λ entry answers n enters all.
          subst (λ m. AgreeThere found.wanted (frame_after (machine_of graph).code n (first_frame entry) answers) (frame_after m.code n (first_frame entry) answers)) machine
          (runs_agree graph can narrowed.nodes are entry answers n enters all);
    }
