use Rattle.std.proofs.Common.{arith}
use Rattle.bit_rows.proofs.NextBits.{first_left, none_left, place_left, set_left}
use Rattle.bit_rows.proofs.words.next_in_word.Goals as goal

pub returns-then-rest-eq0-clause-none : goal.returns-then-rest-eq0-clause-none
returns-then-rest-eq0-clause-none c = λ i late _. none_left c.args.word c.args.from c.if-rest-eq0.true i late

pub returns-else-rest-eq0-clause-found : goal.returns-else-rest-eq0-clause-found
returns-else-rest-eq0-clause-found c = (omega arith, place_left c.args.word c.args.from c.ranges.word.fits (omega (arith, c.if-rest-eq0.false)), set_left c.args.word c.args.from c.ranges.word.fits (omega (arith, c.if-rest-eq0.false)))

pub returns-else-rest-eq0-clause-first : goal.returns-else-rest-eq0-clause-first
returns-else-rest-eq0-clause-first c = first_left c.args.word c.args.from c.ranges.word.fits (omega (arith, c.if-rest-eq0.false))
