use Rattle.value_number.specs.TermWalks.{GoesOver, IsUnvisited, weight_left}
use Rattle.value_number.proofs.walk.Walk.walk_to.Given as goal

abbrev pub invariant-loop-step : goal.invariant-loop-step
invariant-loop-step l = GoesOver l.graph l.self l.self.steps.items × IsUnvisited l.n l.self.listed.items l.self.steps.items

abbrev pub decreases-loop-step : goal.decreases-loop-step
decreases-loop-step l = weight_left l.graph.shared l.self.listed.items l.self.steps.items
