use Rattle.std.proofs.Common.{◌<◌, List, length, subst, sym}
use Rattle.flow_graph.specs.Edges.{IsSplit}
use Rattle.flow_graph.specs.Graphs.{GraphShape}
use Rattle.graph_edit.specs.GraphFlows.{IsFlowOf}
use Rattle.table_text.specs.Lines.{names_of_units}
use Rattle.pass_table.specs.Rounds.{IsRoundAt}
use Rattle.pass_table.proofs.RoundLaws.{before_first}
use Rattle.table_text.specs.TurnLaws.{next_turn, no_turn}
use Rattle.pass_table.proofs.rounds.put_rounds.Goals as goal

pub put_round-requires-clause-number : goal.put_round-requires-clause-number
put_round-requires-clause-number c = subst (λ (l : List GraphShape). c.loop-number.number < length l) c.items-number-end.ensures c.loop-number-test.true

pub loop-number-init : goal.loop-number-init
loop-number-init c =
    let unit = c.args.unit.now in (
      no_turn (IsRoundAt (names_of_units c.args.units.now) unit) c.args.text.now,
      subst (λ (g : GraphShape). IsSplit g.nodes) (sym (before_first unit.recopied unit.rounds.graphs)) c.sunk_is_split.ensures,
      subst (λ (g : GraphShape). IsFlowOf g.nodes c.in_ok-flow.flow) c.graph.ensures c.in_ok-flow.ensures,
    )

-- the round that is put is the next one
pub loop-number-preserved : goal.loop-number-preserved
loop-number-preserved c = (
  next_turn (IsRoundAt (names_of_units c.args.units.now) c.args.unit.now) c.loop-number.number c.args.text.now c.loop-number.text c.put_round.new.text c.loop-number.invariant.0 c.in_ok-flow-2.ensures.text,
  c.in_ok-flow-2.ensures.split,
  c.in_ok-flow-2.ensures.flow,
)
