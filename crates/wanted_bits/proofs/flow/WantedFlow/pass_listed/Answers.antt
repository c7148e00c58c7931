use Rattle.std.proofs.Common.{◌∙◌, length, sym, ap, subst}
use Rattle.wanted_bits.specs.BitsOrder.{HasFew}
use Rattle.wanted_bits.specs.Touching.{taken_bits}
use Rattle.wanted_bits.specs.WantedFlows.{passed_back}
use Rattle.wanted_bits.proofs.NewsJoins.{taken_few, taken_long}
use Rattle.wanted_bits.proofs.flow.WantedFlow.pass_listed.Goals as goal

pub walk-requires-clause-few : goal.walk-requires-clause-few
walk-requires-clause-few g c =
    let behind = c.args.behind.now in
    let raised = c.args.raised.now in
    let touched = c.args.touched.now in
    let room = c.args.room.now in
    let fits = sym c.requires.fits in
    subst HasFew (sym (c.take_listed-2.ensures ∙ ap (taken_bits behind touched) c.take_listed.ensures))
    (taken_few behind touched (taken_bits behind raised room) (fits ∙ sym (taken_long behind raised room)) c.requires.few (taken_few behind raised room fits c.requires.few c.requires.room_few))

pub returns-clause-long : goal.returns-clause-long
returns-clause-long g c =
    let behind = c.args.behind.now in
    let raised = c.args.raised.now in
    let room = c.args.room.now in
    c.walk.ensures.long ∙ ap length (c.take_listed-2.ensures ∙ ap (taken_bits behind c.args.touched.now) c.take_listed.ensures)
    ∙ taken_long behind c.args.touched.now (taken_bits behind raised room) ∙ taken_long behind raised room

pub returns-clause-passed : goal.returns-clause-passed
returns-clause-passed g c =
    c.walk.ensures.passed ∙ ap (passed_back c.args.self.now c.args.number) (c.take_listed-2.ensures ∙ ap (taken_bits c.args.behind.now c.args.touched.now) c.take_listed.ensures)
