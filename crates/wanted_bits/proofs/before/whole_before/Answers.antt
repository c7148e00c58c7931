use Rattle.std.proofs.Common.{ℕ, List, subst}
use Rattle.wanted_bits.specs.Asking.{width_at}
use Rattle.wanted_bits.specs.Before.{AreWantedBeforeBy}
use Rattle.wanted_bits.specs.Chains.{AreCarriedBy}
use Rattle.wanted_bits.proofs.before.whole_before.Goals as goal

pub returns-clause-wanted : goal.returns-clause-wanted
returns-clause-wanted c = subst (λ (l : List ℕ). AreWantedBeforeBy (record { globals = λ unit x. 64; arguments = λ unit i. 64; left = λ x. width_at l x; result = width_at l c.args.graph.now.shared }) c.args.graph.now c.in_ok-rows.rows.items) c.requires c.in_ok-rows.ensures.wanted

pub returns-clause-carried : goal.returns-clause-carried
returns-clause-carried c = subst (λ (l : List ℕ). AreCarriedBy (record { globals = λ unit x. 64; arguments = λ unit i. 64; left = λ x. width_at l x; result = width_at l c.args.graph.now.shared }) c.args.graph.now c.in_ok-rows.rows.items) c.requires c.in_ok-rows.ensures.carried
