use Rattle.std.proofs.Common.{◌∙◌, replicate, ap}
use Rattle.div_move.specs.Slots.{pairs}
use Rattle.div_move.proofs.Pairs.{pairs_replicate}
use Rattle.div_move.proofs.flow.SlotFlowFlow.first.Goals as goal

pub returns : goal.returns
returns g c =
    let bits = c.args.self.now.bits in
    ap (λ l. pairs l c.in_ok-known.known.second) (c.in_ok-known.ensures.first ∙ ap (replicate bits) c.lacks-first.ensures)
    ∙ ap (pairs (replicate bits _)) (c.in_ok-known.ensures.second ∙ ap (replicate bits) c.lacks-second.ensures)
    ∙ pairs_replicate bits _ _
