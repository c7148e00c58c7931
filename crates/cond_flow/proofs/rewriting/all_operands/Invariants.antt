use Rattle.std.proofs.Common.{◌≡◌, map, take}
use Rattle.cond_flow.proofs.rewriting.all_operands.Given as goal

abbrev pub invariant-loop-a : goal.invariant-loop-a
invariant-loop-a g l = l.all.items ≡ map (g.K.Knowledge.rules.operand l.known) (take l.a-index l.operands)
