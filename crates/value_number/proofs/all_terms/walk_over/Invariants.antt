use Rattle.std.proofs.Common.{◌≡◌, length}
use Rattle.value_number.specs.KeptTerms.{AreKeptOrLeft}
use Rattle.value_number.specs.TermWalks.{GoesOver, weight_left}
use Rattle.value_number.proofs.all_terms.walk_over.Given as goal

abbrev pub invariant-loop-step : goal.invariant-loop-step
invariant-loop-step l =
    GoesOver l.graph l.walk l.walk.steps.items
    × (length l.nodes.items ≡ length l.graph.nodes)
    × AreKeptOrLeft l.graph l.walk.table l.walk.listed.items l.walk.steps.items l.nodes.items

abbrev pub decreases-loop-step : goal.decreases-loop-step
decreases-loop-step l = weight_left l.graph.shared l.walk.listed.items l.walk.steps.items
