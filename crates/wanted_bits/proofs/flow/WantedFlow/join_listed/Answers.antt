use Rattle.std.proofs.Common.{◌∙◌, sym, ap}
use Rattle.wanted_bits.specs.Asking.{asked_by}
use Rattle.wanted_bits.specs.Touching.{raised_bits}
use Rattle.wanted_bits.specs.Walking.{back_in}
use Rattle.wanted_bits.specs.WantedFlows.{list_left}
use Rattle.wanted_bits.proofs.Keeping.{listed_above, tells_then}
use Rattle.wanted_bits.proofs.NewsJoins.{listed_joins}
use Rattle.wanted_bits.proofs.flow.WantedFlow.join_listed.Goals as goal

pub returns-clause-joined : goal.returns-clause-joined
returns-clause-joined g c =
    let f = c.args.self.now in
    let graph = f.graph.now in
    let passed = c.pass_listed.new.room in
    let one = c.raise_listed-one in
    let other = c.raise_listed-other in
    listed_joins graph (asked_by graph.shared f.around.now) (back_in f.backs.now) (list_left f c.args.number) c.args.raised.now c.args.touched.now c.args.behind.now c.args.room.now c.requires.fits c.requires.covered
    c.args.bits.now passed other.new.bits c.requires.long c.requires.caught c.pass_listed.ensures.passed
    (other.ensures.raised ∙ ap (raised_bits passed c.args.touched.now) one.ensures.raised)

pub returns-clause-unchanged : goal.returns-clause-unchanged
returns-clause-unchanged g c =
    let passed = c.pass_listed.new.room in
    let one = c.raise_listed-one in
    let other = c.raise_listed-other in
    let long = c.pass_listed.ensures.long ∙ c.requires.fits ∙ sym c.requires.long in
    tells_then c.args.bits.now one.new.bits other.new.bits one.result other.result other.ensures.keeps.long one.ensures.keeps.long
    (listed_above passed c.args.raised.now c.args.bits.now one.new.bits long one.ensures.raised)
    (listed_above passed c.args.touched.now one.new.bits other.new.bits (long ∙ sym one.ensures.keeps.long) other.ensures.raised)
    one.ensures.unchanged other.ensures.unchanged
