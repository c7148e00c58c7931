use Rattle.std.proofs.Common.{◌∙◌, length, ap}
use Rattle.std.proofs.lemmas.List.{length-replicate}
use Rattle.div_move.proofs.flow.SlotFlowFlow.room.Goals as goal

pub returns : goal.returns
returns g c = record {
  first_long = ap length c.in_ok-room.ensures.first ∙ length-replicate c.args.self.now.bits _;
  second_long = ap length c.in_ok-room.ensures.second ∙ length-replicate c.args.self.now.bits _;
}
