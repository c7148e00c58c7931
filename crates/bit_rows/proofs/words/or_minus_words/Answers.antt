use Rattle.bit_rows.proofs.Views.{changed_exactly}
use Rattle.bit_rows.proofs.words.or_minus_words.Goals as goal

pub returns-clause-unchanged : goal.returns-clause-unchanged
returns-clause-unchanged c = changed_exactly c.args.into.now c.loop-i.into c.loop-i.changed c.loop-i.invariant.len c.loop-i.invariant.same c.loop-i.invariant.other
