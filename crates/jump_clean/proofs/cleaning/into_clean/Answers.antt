-- Each clause follows from the exact graph, which is made of the parts, by the laws of cleaned nodes.
use Rattle.std.proofs.Common.{subst}
use Rattle.mir_base.specs.UnitRuns.{UnitCheaper, UnitSame}
use Rattle.flow_graph.specs.Graphs.{IsGraph}
use Rattle.flow_graph.specs.KeepsLaws.{made_keeps, same_globals}
use Rattle.flow_graph.specs.Machines.{graph_machine, machine_of}
use Rattle.jump_clean.specs.Cleaned.{IsClean}
use Rattle.jump_clean.specs.CleanLaws.{clean_is_one}
use Rattle.jump_clean.specs.DividingLaws.{clean_unchanged}
use Rattle.jump_clean.proofs.CallsKept.{cleaned_calls}
use Rattle.jump_clean.proofs.Cleans.{can_make, cleaned_same, cleaned_cheaper, clean_jumps}
use Rattle.jump_clean.proofs.Parting.{by_frame, can_stand, made_in}
use Rattle.jump_clean.proofs.cleaning.into_clean.Goals as goal
use Rattle.jump_clean.proofs.cleaning.into_clean.Goals.{In_ok-parted, In_ok-cleaned}

-- what holds of every graph
is_graph : (c : In_ok-parted) → IsGraph c.args.graph.vars c.args.graph.received c.args.graph.nodes
is_graph c = subst (IsGraph c.args.graph.vars c.args.graph.received) c.nodes-nodes.ensures.value c.nodes-nodes.ensures.graph

pub with_nodes-requires : goal.with_nodes-requires
with_nodes-requires c =
    let graph = c.args.graph in
    let parts = c.in_ok-parted.ensures in
    let nodes = c.in_ok-parted.parted.nodes.items in
    can_stand graph c.in_ok-parted.parted.frame parts.frame nodes (can_make graph.shared graph.vars graph.received graph.nodes nodes (is_graph (goal.at.with_nodes-requires c).In_ok-parted) parts.nodes)

exact : (c : In_ok-cleaned) → IsClean c.args.graph c.in_ok-cleaned.cleaned
exact c = record {
  nodes = c.in_ok-parted.parted.nodes.items;
  are_cleaned = c.in_ok-parted.ensures.nodes;
  made = made_in c.args.graph c.in_ok-parted.parted.frame c.in_ok-parted.ensures.frame c.in_ok-parted.parted.nodes.items c.in_ok-cleaned.cleaned c.in_ok-cleaned.ensures.made;
}

pub returns-clause-clean : goal.returns-clause-clean
returns-clause-clean c = exact (goal.at.returns-clause-clean c).In_ok-cleaned

pub returns-clause-only : goal.returns-clause-only
returns-clause-only c = λ other is. clean_is_one c.args.graph other c.in_ok-cleaned.cleaned (λ m slot s edge. ((is_graph (goal.at.returns-clause-only c).In_ok-parted).can.succs m slot s edge).1) is (exact (goal.at.returns-clause-only c).In_ok-cleaned)

pub returns-clause-jumps : goal.returns-clause-jumps
returns-clause-jumps c =
    let graph = c.args.graph in
    clean_jumps graph.shared graph.vars graph.received graph.nodes c.in_ok-parted.parted.nodes.items (is_graph (goal.at.returns-clause-jumps c).In_ok-parted) c.in_ok-parted.ensures.nodes c.in_ok-cleaned.cleaned.nodes c.in_ok-cleaned.ensures.made.nodes_are

pub returns-clause-divides : goal.returns-clause-divides
returns-clause-divides c = clean_unchanged c.args.graph c.in_ok-cleaned.cleaned (is_graph (goal.at.returns-clause-divides c).In_ok-parted) (exact (goal.at.returns-clause-divides c).In_ok-cleaned)

pub returns-clause-keeps : goal.returns-clause-keeps
returns-clause-keeps c =
    let graph = c.args.graph in
    let made = c.in_ok-cleaned.cleaned in
    let nodes = c.in_ok-parted.parted.nodes.items in
    let frame = c.in_ok-parted.parted.frame in
    let is_frame = c.in_ok-parted.ensures.frame in
    let is = is_graph (goal.at.returns-clause-keeps c).In_ok-parted in
    let are = c.in_ok-parted.ensures.nodes in
    let is_made = made_in graph frame is_frame nodes made c.in_ok-cleaned.ensures.made in
    made_keeps graph made nodes is_made.name_is (same_globals graph made is_made.shared_is is_made.vars_are) (cleaned_same graph.shared graph.vars graph.received graph.nodes nodes is are) (cleaned_cheaper graph.shared graph.vars graph.received graph.nodes nodes is are)
    (λ called count calls. cleaned_calls graph.nodes nodes called count are calls)
    (by_frame graph frame is_frame (λ shared received. UnitSame (graph_machine shared received nodes) (machine_of made)) c.in_ok-cleaned.ensures.same)
    (by_frame graph frame is_frame (λ shared received. UnitCheaper (graph_machine shared received nodes) (machine_of made)) c.in_ok-cleaned.ensures.cheaper)
    c.in_ok-cleaned.ensures.calls
