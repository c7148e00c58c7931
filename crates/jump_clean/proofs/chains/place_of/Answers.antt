use Rattle.jump_clean.proofs.Follow.{found_place}
use Rattle.jump_clean.proofs.chains.place_of.Goals as goal

pub returns : goal.returns
returns c = found_place c.args.chain.now c.loop-place.place c.args.n c.loop-place.invariant c.loop-place-test.false
