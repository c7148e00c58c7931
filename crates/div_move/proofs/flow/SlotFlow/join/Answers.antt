use Rattle.std.proofs.Common.{◌∙◌, sym, ap}
use Rattle.div_move.specs.SlotFlow.{arriving, leads_at}
use Rattle.div_move.specs.Slots.{or_pairs, pairs}
use Rattle.div_move.proofs.Pairs.{or_where, pairs_arrive, pairs_unchanged}
use Rattle.div_move.proofs.flow.SlotFlow.join.Goals as goal

pub returns-clause-joined : goal.returns-clause-joined
returns-clause-joined g c =
    let first = c.args.known.now.first in
    let second = c.args.known.now.second in
    let down = c.args.down.now in
    ap (λ l. pairs l c.add_where-new_second.new.row) c.add_where-new_first.ensures.added
    ∙ ap (pairs (or_where c.leads-first.result first down)) c.add_where-new_second.ensures.added
    ∙ pairs_arrive c.leads-first.result c.leads-second.result first second down c.requires.first c.requires.second
    ∙ ap (λ b. or_pairs (pairs first second) (arriving b c.leads-second.result down)) c.leads-first.ensures
    ∙ ap (λ b. or_pairs (pairs first second) (arriving (leads_at c.args.self.now.graph.now.nodes c.args.edge.source 0 c.args.edge.target) b down)) c.leads-second.ensures

pub returns-clause-unchanged : goal.returns-clause-unchanged
returns-clause-unchanged g c =
    let long = c.requires.second ∙ sym c.requires.first in
    pairs_unchanged c.add_where-new_first.result c.add_where-new_second.result c.args.known.now.first c.args.known.now.second c.add_where-new_first.new.row c.add_where-new_second.new.row long
    (c.add_where-new_second.ensures.long ∙ long ∙ sym c.add_where-new_first.ensures.long) c.add_where-new_first.ensures.unchanged c.add_where-new_second.ensures.unchanged
