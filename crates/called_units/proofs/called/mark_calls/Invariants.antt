use Rattle.flow_graph.specs.ReachWalks.{walk_weight}
use Rattle.called_units.proofs.Walks.{HasFollowed}
use Rattle.called_units.proofs.called.mark_calls.Given as goal

abbrev pub invariant-loop-inst : goal.invariant-loop-inst
invariant-loop-inst l = HasFollowed l.program l.unit l.body (walk_weight l.fn.marks.items l.fn.stack.items) l.inst-index l.marks.items l.stack.items
