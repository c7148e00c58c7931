use Rattle.mir_sim.proofs.Heights.{higher_too}
use Rattle.mir_sim.proofs.both_have_few_frames.Goals as goal

pub has_few_frames-requires-2 : goal.has_few_frames-requires-2
has_few_frames-requires-2 c = higher_too c.args.first.now c.args.second.now c.requires.no_more c.requires.higher
