use Rattle.std.proofs.Common.{ℕ, List, subst}
use Rattle.wanted_bits.specs.Asking.{width_at}
use Rattle.wanted_bits.specs.Made.{IsMadeNarrowed}
use Rattle.wanted_bits.proofs.narrowing.narrow_whole.Goals as goal

pub returns : goal.returns
returns c = subst (λ (l : List ℕ). IsMadeNarrowed (record { globals = λ unit x. 64; arguments = λ unit i. 64; left = λ x. width_at l x; result = width_at l c.args.graph.now.shared }) c.args.graph.now c.in_ok-narrowed.narrowed) c.requires c.in_ok-narrowed.ensures
