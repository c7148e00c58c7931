use Rattle.std.proofs.Common.{◌≡◌, ◌-◌, ◌++◌, suc, ap, subst, sym, arith}
use Rattle.flow_graph.specs.Edges.{IsSplit, edges_of}
use Rattle.flow_graph.specs.Graphs.{GraphShape}
use Rattle.mir_opt.specs.declared.stages.Stage.TheVariants.{Round}
use Rattle.mir_opt.specs.Stages.{graph_at}
use Rattle.graph_edit.specs.GraphFlows.{IsFlowOf}
use Rattle.dead_code.specs.Pruned.{IsPruned}
use Rattle.sink_rounds.specs.RoundGraphs.{IsRound}
use Rattle.table_text.specs.Lines.{names_of_units}
use Rattle.pass_table.specs.Rounds.{IsSunkText}
use Rattle.pass_table.specs.Sinkings.{IsSinkingOf}
use Rattle.pass_table.specs.Stages.{IsFoundText, shown_text}
use Rattle.pass_table.proofs.RoundLaws.{pruned_flow, round_at, round_split, sunk_pruned}
use Rattle.table_text.specs.TurnLaws.{two_pieces}
use Rattle.pass_table.proofs.rounds.put_round.Goals as goal
use Rattle.pass_table.proofs.rounds.put_round.Goals.{In_ok-sinking}

pub put_round_finding-requires : goal.put_round_finding-requires
put_round_finding-requires c =
    let unit = c.args.unit.now in
    let before : c.args.number ≡ c.args.next - 1 = omega (arith, c.requires.next) in
    subst (λ k. c.args.flow.now.edges ≡ edges_of (graph_at unit (Round k)).nodes) before c.requires.flow.edges

pub sunk_with_flow-requires-clause-split : goal.sunk_with_flow-requires-clause-split
sunk_with_flow-requires-clause-split c = subst (λ (g : GraphShape). IsSplit g.nodes) (sym c.graph.ensures) c.requires.split

pub sunk_with_flow-requires-clause-flow : goal.sunk_with_flow-requires-clause-flow
sunk_with_flow-requires-clause-flow c = subst (λ (g : GraphShape). IsFlowOf g.nodes c.args.flow.now) (sym c.graph.ensures) c.requires.flow

-- the graph of this number is a round of the one before
round : (c : In_ok-sinking) → IsRound (graph_at c.args.unit.now (Round c.args.number)) (graph_at c.args.unit.now (Round c.args.next))
round c =
    let unit = c.args.unit.now in
    let n = c.args.number in
    let next : suc n ≡ c.args.next = omega (arith, c.requires.next) in
    subst (λ k. IsRound (graph_at unit (Round n)) (graph_at unit (Round k))) next (round_at unit.recopied unit.rounds.graphs n c.requires.linked.back.sinks c.requires.number)

-- the assignments of the graph before it have sunk
is_sinking : (c : In_ok-sinking) → IsSinkingOf (graph_at c.args.unit.now (Round c.args.number)) c.in_ok-sinking.sinking
is_sinking c = subst (λ (g : GraphShape). IsSinkingOf g c.in_ok-sinking.sinking) c.graph.ensures c.in_ok-sinking.ensures

-- and it is the graph without the dead ones
is_pruned : (c : In_ok-sinking) → IsPruned c.in_ok-sinking.sinking.graph (graph_at c.args.unit.now (Round c.args.next))
is_pruned c =
    let unit = c.args.unit.now in
    sunk_pruned (graph_at unit (Round c.args.number)) (graph_at unit (Round c.args.next)) c.in_ok-sinking.sinking.graph (round c) (is_sinking c).is_sunk

pub put_sunk-requires-clause-pruned : goal.put_sunk-requires-clause-pruned
put_sunk-requires-clause-pruned c =
    let known = (goal.at.put_sunk-requires-clause-pruned c).In_ok-sinking in
    subst (λ (g : GraphShape). IsPruned c.in_ok-sinking.sinking.graph g) (sym c.graph-2.ensures) (is_pruned known)

pub put_sunk-requires-clause-flow : goal.put_sunk-requires-clause-flow
put_sunk-requires-clause-flow c = c.in_ok-sinking.ensures.flow

pub returns-clause-split : goal.returns-clause-split
returns-clause-split c =
    let known = (goal.at.returns-clause-split c).In_ok-sinking in
    let unit = c.args.unit.now in
    let made = is_sinking known in
    let split = round_split (graph_at unit (Round c.args.number)) (graph_at unit (Round c.args.next)) c.in_ok-sinking.sinking.graph (round known) made.is_sunk made.is_graph made.is_split in
    subst (λ k. IsSplit (graph_at unit (Round k)).nodes) c.requires.next split

pub returns-clause-flow : goal.returns-clause-flow
returns-clause-flow c =
    let known = (goal.at.returns-clause-flow c).In_ok-sinking in
    let unit = c.args.unit.now in
    let made = is_sinking known in
    subst (λ k. IsFlowOf (graph_at unit (Round k)).nodes c.in_ok-sinking.sinking.flow) c.requires.next
    (pruned_flow c.in_ok-sinking.sinking.graph (graph_at unit (Round c.args.next)) made.is_graph (is_pruned known) c.in_ok-sinking.sinking.flow made.flow)

pub returns-clause-text : goal.returns-clause-text
returns-clause-text c =
    let known = (goal.at.returns-clause-text c).In_ok-sinking in
    let unit = c.args.unit.now in
    let names = names_of_units c.args.units.now in
    let next = c.requires.next in
    let sunk = c.in_ok-sinking.sinking.graph in
    let found = c.in_ok-put_round_finding.ensures in
    let pruned = c.in_ok-put_sunk.ensures in
    let shown = shown_text names unit (Round c.args.next) in
    let first = two_pieces c.args.text.now c.put_round_finding.new.text c.put_sunk.new.text found.0 pruned.0 found.2 pruned.2 in (
      found.0 ++ pruned.0 ++ shown,
      record {
        sunk = sunk;
        sinking = found.0;
        pruning = pruned.0;
        is_sunk = (is_sinking known).is_sunk;
        sinks = subst (λ k. IsFoundText unit (Round k) found.0) next found.1;
        prunes = subst (λ k. IsSunkText names k sunk pruned.0) next pruned.1;
        text_is = ap (λ k. found.0 ++ pruned.0 ++ shown_text names unit (Round k)) next;
      },
      two_pieces c.args.text.now c.put_sunk.new.text c.put_shown.new.text (found.0 ++ pruned.0) shown first c.in_ok-put_shown.ensures,
    )
