use Rattle.cond_flow.specs.Passing.{passed_along}
use Rattle.cond_flow.specs.Telling.{TellsBlocks, TellsStates}
use Rattle.cond_flow.specs.Outsides.{rules_in}
use Rattle.cond_flow.proofs.telling.tell_blocks.Given as goal

abbrev pub invariant-loop-block : goal.invariant-loop-block
invariant-loop-block g l = TellsBlocks TellsStates (passed_along (rules_in l.outside g.K.Knowledge.rules) l.graph.shared l.graph.received) l.graph.nodes l.blocks.lists l.states l.block l.all.items
