use Rattle.std.proofs.Common.{◌∙◌, [], length, refl, sym, ap, subst, le_refl}
use Rattle.wanted_bits.specs.Asking.{asked_by}
use Rattle.wanted_bits.specs.NewsShapes.{StandIn}
use Rattle.wanted_bits.specs.Touching.{raised_bits, touched_in}
use Rattle.wanted_bits.specs.Walking.{back_in, bits_at}
use Rattle.wanted_bits.specs.WantedFlows.{list_left}
use Rattle.wanted_bits.proofs.NewsJoins.{listed_joins, meant_stand}
use Rattle.wanted_bits.proofs.Raising.{written_back}
use Rattle.wanted_bits.proofs.flow.WantedFlow.join_round.Goals as goal

pub returns-else-are_all-clause-joined : goal.returns-else-are_all-clause-joined
returns-else-are_all-clause-joined g c =
    let f = c.args.self.now in
    let graph = f.graph.now in
    let bits = c.args.bits.now in
    let room = c.args.room.now in
    let slice = c.as_mut_slice.result.now in
    let touched = c.touched_along-touched.result.now in
    let list = list_left f c.args.number in
    let those = touched_in graph (back_in f.backs.now) list in
    let passed = c.pass_listed.new.room in
    let listed = c.listed-touched.result.now in
    let written = c.as_slice-else-are_all.ensures.value ∙ written_back room.len passed room.items (c.pass_listed.ensures.long ∙ ap length c.as_mut_slice.ensures.value) (sym room.ok.0) in
    listed_joins graph (asked_by graph.shared f.around.now) (back_in f.backs.now) list [] listed bits slice (ap length c.as_mut_slice.ensures.value ∙ c.requires.fits)
    (subst (StandIn those) (sym c.listed-touched.ensures) (meant_stand those touched c.are_all.ensures c.if-are_all.false c.touched_along-touched.ensures))
    bits passed c.raise_listed.new.bits refl (λ k _ _. le_refl (bits_at bits k)) c.pass_listed.ensures.passed
    (c.raise_listed.ensures.raised ∙ ap (λ l. raised_bits l listed bits) written)
