use Rattle.std.proofs.Common.{◌≡◌, ◌++◌, map, take}
use Rattle.mir_base.specs.declared.instructions.Rhs.TheVariants.{Plain}
use Rattle.mir_base.specs.Frames.{shared_vars}
use Rattle.cond_flow.specs.Rules.{known_at}
use Rattle.cond_flow.proofs.handing.hand_over.Given as goal

abbrev pub invariant-loop-a : goal.invariant-loop-a
invariant-loop-a g l = l.list.items ≡ map (known_at g.K.Knowledge.rules l.known) (shared_vars l.shared) ++ map (λ a. g.K.Knowledge.rules.of_rhs l.known (Plain a)) (take l.a-index l.operands)
