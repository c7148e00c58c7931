use Rattle.std.proofs.Common.{◌+◌}
use Rattle.std.proofs.lemmas.List.{take_rest}
use Rattle.jump_clean.proofs.Follow.{least_from}
use Rattle.jump_clean.proofs.chains.least_on_circle.Goals as goal

pub returns : goal.returns
returns c =
    let place = c.place_of-place.result in
    least_from c.args.chain.now _ c.args.first place c.least.result c.place_of-place.ensures (take_rest c.args.chain.now (place + 1)) c.least.ensures.is_one c.least.ensures.least
