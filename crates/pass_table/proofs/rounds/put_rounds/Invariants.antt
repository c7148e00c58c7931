use Rattle.flow_graph.specs.Edges.{IsSplit}
use Rattle.graph_edit.specs.GraphFlows.{IsFlowOf}
use Rattle.mir_opt.specs.declared.stages.Stage.TheVariants.{Round}
use Rattle.mir_opt.specs.Stages.{graph_at}
use Rattle.table_text.specs.Lines.{names_of_units}
use Rattle.table_text.specs.Turns.{AppendsSome, InTurn}
use Rattle.pass_table.specs.Rounds.{IsRoundAt}
use Rattle.pass_table.proofs.rounds.put_rounds.Given as goal

abbrev pub invariant-loop-number : goal.invariant-loop-number
invariant-loop-number l =
    AppendsSome (InTurn (IsRoundAt (names_of_units l.units) l.unit) l.number) l.fn.text l.text
    × IsSplit (graph_at l.unit (Round l.number)).nodes × IsFlowOf (graph_at l.unit (Round l.number)).nodes l.flow
