use Rattle.std.proofs.Common.{◌≡◌, take}
use Rattle.cond_flow.specs.States.{state_where}
use Rattle.cond_flow.specs.Passing.{passed_along}
use Rattle.cond_flow.specs.Blockwise.{through_nodes}
use Rattle.cond_flow.specs.Telling.{HandsIn}
use Rattle.cond_flow.specs.Outsides.{rules_in}
use Rattle.cond_flow.proofs.handing.hand_list.Given as goal

abbrev pub invariant-loop-i : goal.invariant-loop-i
invariant-loop-i g l = record {
  passes : state_where l.reaches l.known ≡ through_nodes (passed_along (rules_in l.outside g.K.Knowledge.rules) l.graph.shared l.graph.received) l.graph.nodes (take l.i l.list) (state_where l.reached l.fn.known);
  tells : HandsIn (rules_in l.outside g.K.Knowledge.rules) l.graph l.list (state_where l.reached l.fn.known) l.i l.fn.all.items l.all.items;
}
