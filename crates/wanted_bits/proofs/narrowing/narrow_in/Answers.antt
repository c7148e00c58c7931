use Rattle.std.proofs.Common.{◌≡◌, ◌∙◌, ap, sym, subst, slice_get}
use Rattle.flow_graph.specs.Graphs.{IsGraph}
use Rattle.flow_graph.specs.Edges.{IsSplit}
use Rattle.flow_graph.specs.Dividing.{DividesUnchanged}
use Rattle.wanted_bits.specs.Asking.{asked_by}
use Rattle.wanted_bits.specs.Found.{AreFoundNodes}
use Rattle.wanted_bits.specs.Narrowed.{AreNarrowed, IsNarrowedBy}
use Rattle.wanted_bits.specs.NarrowedLaws.{most_removed, narrowed_is_one}
use Rattle.wanted_bits.proofs.Shapes.{all_reached, narrowed_calls, narrowed_can_make, narrowed_divides, narrowed_split}
use Rattle.wanted_bits.proofs.narrowing.narrow_in.Goals as goal
use Rattle.wanted_bits.proofs.narrowing.narrow_in.Goals.{In_ok-nodes, In_ok-narrowed}

-- what holds of every graph
is_graph : (c : In_ok-nodes) → IsGraph c.args.graph.now.vars c.args.graph.now.received c.args.graph.now.nodes
is_graph c = rw (← c.nodes-nodes.ensures.value) c.nodes-nodes.ensures.graph

-- the nodes by what was found
are : (c : In_ok-nodes) → AreNarrowed (asked_by c.args.graph.now.shared c.args.around.now) c.args.graph.now c.in_ok-nodes.nodes.items
are c =
    let found = c.in_ok-nodes.ensures in
    record { shifts = found.shifts; wanted = found.wanted; shifts_hold = found.shifts_hold; are_wanted = found.least.are; nodes_are = found.nodes_are }

pub with_nodes-requires : goal.with_nodes-requires
with_nodes-requires c =
    let known = (goal.at.with_nodes-requires c).In_ok-nodes in
    narrowed_can_make (asked_by c.args.graph.now.shared c.args.around.now) c.args.graph.now c.in_ok-nodes.nodes.items (are known) (is_graph known).can (is_graph known).reached

-- the nodes of the answer are these
whole : (c : In_ok-narrowed) → c.in_ok-narrowed.narrowed.nodes ≡ c.in_ok-nodes.nodes.items
whole c =
    let known = (goal.at.In_ok-narrowed c).In_ok-nodes in
    c.in_ok-narrowed.ensures.whole (all_reached (asked_by c.args.graph.now.shared c.args.around.now) c.args.graph.now c.in_ok-nodes.nodes.items (are known) (is_graph known).can (is_graph known).reached)

-- the answer is the exact graph
exact : (c : In_ok-narrowed) → IsNarrowedBy (asked_by c.args.graph.now.shared c.args.around.now) c.args.graph.now c.in_ok-narrowed.narrowed
exact c =
    let made = c.in_ok-narrowed.ensures.made in
    let found = c.in_ok-nodes.ensures in
    let same = whole c in
    record {
      name_is = made.name_is;
      shared_is = made.shared_is;
      vars_are = made.vars_are;
      received_are = made.received_are;
      shifts = found.shifts;
      wanted = found.wanted;
      shifts_are = found.shifts_are;
      least = found.least;
      nodes_are = λ n. ap (λ l. slice_get l n) same ∙ found.nodes_are n;
    }

pub returns : goal.returns
returns c =
    let known = goal.at.returns c in
    let asked = asked_by c.args.graph.now.shared c.args.around.now in
    let graph = c.args.graph.now in
    let can = (is_graph known.In_ok-nodes).can in
    let nodes = c.in_ok-nodes.nodes.items in
    let nodes_are = are known.In_ok-nodes in
    let same = whole known.In_ok-narrowed in
    record {
      narrowed_is = exact known.In_ok-narrowed;
      only = λ other is. narrowed_is_one asked graph can other c.in_ok-narrowed.narrowed is (exact known.In_ok-narrowed);
      most = λ shifts removed taken tell keeps. most_removed asked graph can shifts removed taken keeps c.in_ok-narrowed.narrowed (exact known.In_ok-narrowed) tell;
      divides = subst (DividesUnchanged graph.nodes) (sym same) (narrowed_divides asked graph nodes nodes_are);
      split = λ split. subst IsSplit (sym same) (narrowed_split asked graph nodes nodes_are split);
      calls = λ called count call. narrowed_calls asked graph nodes nodes_are called count (c.in_ok-narrowed.ensures.calls called count call);
      found = subst (AreFoundNodes asked graph) (sym same) c.in_ok-nodes.ensures;
    }
