use Rattle.jump_clean.specs.Following.{IsFollowed, unknown}
use Rattle.jump_clean.proofs.chains.end_of.Given as goal

abbrev pub invariant-loop-next : goal.invariant-loop-next
invariant-loop-next l = IsFollowed l.nodes l.found.items l.chain.items l.start l.n

abbrev pub decreases-loop-next : goal.decreases-loop-next
decreases-loop-next l = unknown l.found.items
